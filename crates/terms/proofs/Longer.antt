-- What stands behind the place of an answer does not change the answer.
use Rattle.std.proofs.Common.{◌≡◌, ℕ, zero, suc, ◌+◌, ◌<◌, ◌≤◌, Bool, List, [], ◌∷◌, ◌++◌, length, take, Some, None, Ok, Err, Option, Result, sym, refl, ap, ◌∙◌, subst, arith}
use Rattle.terms.specs.declared.front.Broken.{Broken}
use Rattle.terms.specs.Words.{node_of}
use Rattle.terms.specs.Fronts.{wants, later, ending}
use Rattle.terms.proofs.Turns.{turn, ending_more}

-- the first n words hold all that the answer rests on
abbrev pub Reached : Result ℕ Broken → ℕ → Type 0
Reached (Ok e) n = e ≤ n
Reached (Err b) n = b.place < n

reached_less : (r : Result ℕ Broken) (n : ℕ) → Reached (later 1 r) (suc n) → Reached r n
unfolding later
reached_less (Ok e) n h = omega arith
reached_less (Err b) n h = omega arith

not_at_none : (r : Result ℕ Broken) → Reached (later 1 r) 0 → ⊥
unfolding later
not_at_none (Ok e) h = omega arith
not_at_none (Err b) h = omega arith

turn_not_at_none : (v : Bool) (k : ℕ) (ws : List ℕ) (o : Option ℕ) → Reached (turn v k ws o) 0 → ⊥
turn_not_at_none v k ws None h = omega arith
turn_not_at_none v k ws (Some a) h = not_at_none (ending v (k + a) ws) h

longer_turn : (v : Bool) (k n : ℕ) (ws us : List ℕ) (o : Option ℕ) → Reached (turn v k ws o) (suc n) → ((j : ℕ) → Reached (ending v j ws) n → ending v j us ≡ ending v j ws) → turn v k us o ≡ turn v k ws o
longer_turn v k n ws us None h f = refl
longer_turn v k n ws us (Some a) h f = ap (later 1) (f (k + a) (reached_less (ending v (k + a) ws) n h))

pub longer : (ws : List ℕ) (v : Bool) (k n : ℕ) (rest : List ℕ) → n ≤ length ws → Reached (ending v k ws) n → ending v k (take n ws ++ rest) ≡ ending v k ws
unfolding ending
longer [] v zero n rest l h = refl
longer [] v (suc k) n rest l h = absurd (omega arith)
longer (w ∷ ws) v zero n rest l h = refl
longer (w ∷ ws) v (suc k) zero rest l h =
    absurd (turn_not_at_none v k ws (wants v (node_of w)) (subst (λ r. Reached r 0) (ending_more v k w ws) h))
longer (w ∷ ws) v (suc k) (suc n) rest l h =
    let less : n ≤ length ws = omega arith in
    ending_more v k w (take n ws ++ rest)
    ∙ longer_turn v k n ws (take n ws ++ rest) (wants v (node_of w)) (subst (λ r. Reached r (suc n)) (ending_more v k w ws) h) (λ j. longer ws v j n rest less)
    ∙ sym (ending_more v k w ws)
