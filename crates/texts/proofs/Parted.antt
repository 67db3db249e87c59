-- A text by its pieces: what pieces a front without separators makes, and what text has given pieces.
use Rattle.std.proofs.Common.{◌≡◌, ℕ, Bool, true, false, cond, eqb, List, [], ◌∷◌, ◌++◌, refl, ap}
use Rattle.std.specs.List.{AllByRecursion, All, onto_first}
use Rattle.std.proofs.lemmas.List.Splits.{slice_split_none, slice_split_at}
use Rattle.std.proofs.ByRecursion.{All-get_or}
use Rattle.std.proofs.lemmas.Bool.{eqb-true, eq-eqb, ne_eqb}
use Rattle.texts.specs.Texts.{pieces}

-- no byte is the separator
abbrev pub Without : ℕ → List ℕ → Type 0
Without sep bs = AllByRecursion (λ b. b ≡ sep → ⊥) bs

no_test : (sep : ℕ) (p : List ℕ) → Without sep p → All (λ b. eqb b sep ≡ false) p
no_test sep p none k d l = ne_eqb _ sep (All-get_or (λ b. b ≡ sep → ⊥) p k d l none)

pub piece_only : (sep : ℕ) (p : List ℕ) → Without sep p → pieces sep p ≡ p ∷ []
unfolding pieces
piece_only sep p none = slice_split_none _ p (no_test sep p none)

pub piece_then : (sep : ℕ) (p rest : List ℕ) → Without sep p → pieces sep (p ++ sep ∷ rest) ≡ p ∷ pieces sep rest
unfolding pieces
piece_then sep p rest none = slice_split_at _ p sep rest (no_test sep p none) (eq-eqb sep sep refl)

-- the text that has these pieces: the first of them, and behind a separator what has the others
abbrev pub Cut : ℕ → List ℕ → List (List ℕ) → Type 0
Cut sep text [] = ⊥
Cut sep text (p ∷ []) = text ≡ p
Cut sep text (p ∷ q ∷ qs) = (rest : List ℕ) × (text ≡ p ++ sep ∷ rest) × (pieces sep rest ≡ q ∷ qs)

cut_parted : (sep b : ℕ) (bs : List ℕ) (ps : List (List ℕ)) → b ≡ sep → pieces sep bs ≡ ps → Cut sep bs ps → Cut sep (b ∷ bs) ([] ∷ ps)
cut_parted sep b bs [] e are cut = absurd cut
cut_parted sep b bs (q ∷ qs) e are cut = (bs, ap (λ x. x ∷ bs) e, are)

cut_joined : (sep b : ℕ) (bs : List ℕ) (ps : List (List ℕ)) → Cut sep bs ps → Cut sep (b ∷ bs) (onto_first b ps)
cut_joined sep b bs [] cut = absurd cut
cut_joined sep b bs (p ∷ []) cut = ap (λ l. b ∷ l) cut
cut_joined sep b bs (p ∷ q ∷ qs) cut = (cut.0, ap (λ l. b ∷ l) cut.1, cut.2)

pub cut_of : (sep : ℕ) (text : List ℕ) → Cut sep text (pieces sep text)
unfolding pieces
cut_of sep [] = refl
cut_of sep (b ∷ bs) = by (cut_of sep bs) (eqb b sep) refl
  where
    by : Cut sep bs (pieces sep bs) → (t : Bool) → eqb b sep ≡ t → Cut sep (b ∷ bs) (cond t ([] ∷ pieces sep bs) (onto_first b (pieces sep bs)))
    by cut true e = cut_parted sep b bs (pieces sep bs) (eqb-true b sep e) refl cut
    by cut false e = cut_joined sep b bs (pieces sep bs) cut
