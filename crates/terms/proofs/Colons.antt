-- A word by its first colon.
use Rattle.std.proofs.Common.{◌≡◌, ℕ, suc, ◌<◌, List, [], ◌∷◌, ◌++◌, length, get_or, Some, None, refl, ap, ◌∙◌, arith}
use Rattle.std.proofs.lemmas.Bool.{ne_eqb}
use Rattle.texts.specs.Numbers.{number_of}
use Rattle.terms.specs.Spelled.{at_colon, word_by, word_of}

-- no colon stands in it
abbrev pub Uncoloned : List ℕ → Type 0
Uncoloned bs = (i : ℕ) → i < length bs → get_or bs i 0 ≡ 58 → ⊥

colon_gone : (b : ℕ) (bs : List ℕ) → (b ≡ 58 → ⊥) → at_colon (b ∷ bs) ≡ elim (at_colon bs) [ None ↦ None | Some p ↦ Some (b ∷ p.0, p.1) ]
unfolding at_colon
colon_gone b bs ne = rw (ne_eqb b 58 ne, at_colon)

no_colon : (text : List ℕ) → Uncoloned text → at_colon text ≡ None
unfolding at_colon
no_colon [] ne = refl
no_colon (b ∷ bs) ne = colon_gone b bs (ne 0 (omega arith)) ∙ rw (no_colon bs (λ i l. ne (suc i) (omega arith)))

at_colon_lem : (xs ys : List ℕ) → Uncoloned xs → at_colon (xs ++ (58 ∷ ys)) ≡ Some (xs, ys)
unfolding at_colon
at_colon_lem [] ys ne = refl
at_colon_lem (b ∷ bs) ys ne = colon_gone b (bs ++ (58 ∷ ys)) (ne 0 (omega arith)) ∙ rw (at_colon_lem bs ys (λ i l. ne (suc i) (omega arith)))

pub no_word : (text : List ℕ) → Uncoloned text → word_of text ≡ None
unfolding word_of
no_word text ne = rw (no_colon text ne, word_of)

-- a word by what stands before and behind its first colon
pub word_parts : (text xs ys : List ℕ) → (text ≡ xs ++ (58 ∷ ys)) × Uncoloned xs → word_of text ≡ word_by (number_of 255 xs) (number_of 16777215 ys)
unfolding word_of
word_parts text xs ys parts = rw (ap at_colon parts.0 ∙ at_colon_lem xs ys parts.1, word_of)
