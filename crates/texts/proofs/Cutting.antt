-- The pieces of a text whose first separator is known.
use Rattle.std.proofs.Common.{◌≡◌, ℕ, zero, suc, ◌+◌, ◌<◌, true, false, eqb, List, [], ◌∷◌, ◌++◌, length, get_or, take, drop, Some, None, Option, sym, refl, ap, ◌∙◌, arith}
use Rattle.std.specs.Borrow.{Bor}
use Rattle.std.proofs.lemmas.Grind.{get_or_default_zero}
use Rattle.std.proofs.lemmas.Bool.{eq-eqb, ne_eqb}
use Rattle.texts.specs.declared.text.Piece.{Piece}
use Rattle.std.specs.List.{slice_split, onto_first, count_by}
use Rattle.std.proofs.lemmas.List.Splits.{slice_split-cons_yes, slice_split-cons_no, slice_split_none, length-slice_split}
use Rattle.texts.specs.Texts.{pieces, lines_of, lines, readings}
use Rattle.texts.specs.Pieces.{FirstPiece, NextLine}

-- a text without separators is one piece
pub one_piece : (sep : ℕ) (text : List ℕ) → ((k : ℕ) → k < length text → get_or text k 0 ≡ sep → ⊥) → pieces sep text ≡ text ∷ []
unfolding pieces
one_piece sep text ne = slice_split_none (λ b. eqb b sep) text (λ k d l. ne_eqb _ sep (λ e. ne k l (sym (get_or_default_zero text k d l) ∙ e)))

-- n bytes that are no separators, and then one
pub first_piece : (sep n : ℕ) (text : List ℕ) → n < length text → ((k : ℕ) → k < n → get_or text k 0 ≡ sep → ⊥) → get_or text n 0 ≡ sep → pieces sep text ≡ take n text ∷ pieces sep (drop (suc n) text)
unfolding pieces
first_piece sep n [] l ne e = absurd (omega arith)
first_piece sep zero (b ∷ bs) l ne e = slice_split-cons_yes _ b bs (eq-eqb b sep e)
first_piece sep (suc n) (b ∷ bs) l ne e =
    slice_split-cons_no _ b bs (ne_eqb b sep (ne 0 (omega arith))) ∙ ap (onto_first b) (first_piece sep n bs (omega arith) (λ k h. ne (suc k) (omega arith)) e)

-- the text before and behind a separator
pub cut_at : (sep n : ℕ) (text : List ℕ) → n < length text → get_or text n 0 ≡ sep → text ≡ take n text ++ sep ∷ drop (suc n) text
cut_at sep n [] l e = absurd (omega arith)
cut_at sep zero (b ∷ bs) l e = ap (λ x. x ∷ bs) e
cut_at sep (suc n) (b ∷ bs) l e = ap (λ xs. b ∷ xs) (cut_at sep n bs (omega arith) e)

-- the pieces of a text, by its first
module _ (sep : ℕ) (text : List ℕ) (p : Piece) (cut : FirstPiece sep text p) where
  pub pieces_then : (rest : Bor (List ℕ)) → p.behind ≡ Some rest → pieces sep text ≡ p.bytes.now ∷ pieces sep rest.now
  pieces_then rest e = rw e at cut.pieces_are

  pub pieces_only : p.behind ≡ None → pieces sep text ≡ p.bytes.now ∷ []
  pieces_only e = rw e at cut.pieces_are

-- a text has a first piece
pieces_some : (sep : ℕ) (bs : List ℕ) → (q : List ℕ) × (qs : List (List ℕ)) × (pieces sep bs ≡ q ∷ qs)
unfolding pieces
pieces_some sep bs = by (slice_split (λ b. eqb b sep) bs) (length-slice_split (λ b. eqb b sep) bs)
  where
    by : (ps : List (List ℕ)) → length ps ≡ count_by (λ b. eqb b sep) bs + 1 → (q : List ℕ) × (qs : List (List ℕ)) × (ps ≡ q ∷ qs)
    by [] e = absurd (omega (arith, e))
    by (q ∷ qs) e = (q, qs, refl)

pub lines_ended : (p rest : List ℕ) → lines_of (p ∷ pieces 10 rest) ≡ record { bytes = p; ended = true } ∷ lines_of (pieces 10 rest)
unfolding lines_of
lines_ended p rest = let some = pieces_some 10 rest in rw some.2

lines_last : (p : List ℕ) → 0 < length p → lines_of (p ∷ []) ≡ record { bytes = p; ended = false } ∷ []
unfolding lines_of
lines_last [] l = absurd (omega arith)
lines_last (b ∷ bs) l = refl

pub no_lines : (text : List ℕ) → length text ≡ 0 → readings text ≡ []
unfolding readings lines lines_of pieces
no_lines [] l = refl
no_lines (b ∷ bs) l = absurd (omega arith)

-- the first piece of a text that is not empty is its next line
pub next_line : (text : List ℕ) (p : Piece) → 0 < length text → FirstPiece 10 text p → NextLine text (Some p)
unfolding readings lines
next_line text p some cut = by p.behind refl
  where
    by : (o : Option (Bor (List ℕ))) → p.behind ≡ o → NextLine text (Some p)
    by (Some rest) e =
        let are = pieces_then 10 text p cut rest e in
        (rw (are, lines_ended, e), cut.stretch)
    by None e =
        let are = pieces_only 10 text p cut e in
        let all : text ≡ p.bytes.now = rw e at cut.stretch in
        let long : 0 < length p.bytes.now = omega (arith, ap length all) in
        (rw (are, lines_last p.bytes.now long, e, no_lines [] refl), cut.stretch)
