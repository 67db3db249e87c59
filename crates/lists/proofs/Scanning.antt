-- The loop over the words of a side, and the walk over two sides at once.
use Rattle.std.proofs.Common.{◌≡◌, ℕ, ◌+◌, ◌<◌, ◌≤◌, true, false, not, ◌&&◌, List, [], ◌∷◌, length, get_or, drop, sym, refl, ap, ◌∙◌}
use Rattle.std.proofs.lemmas.List.{drop_more, drop_all}
use Rattle.std.specs.List.{list_all, zip}
use Rattle.lists.specs.Sides.{repeated, once_each, clash, agree}

module _ (ws : List ℕ) (i : ℕ) (lt : i < length ws) where
  pub once_stops : repeated (drop (i + 1) ws) (get_or ws i 0) ≡ true → once_each (drop i ws) ≡ false
  unfolding once_each
  once_stops e = ap once_each (drop_more ws i 0 lt) ∙ ap (λ t. not t && once_each (drop (i + 1) ws)) e

  pub once_goes : repeated (drop (i + 1) ws) (get_or ws i 0) ≡ false → once_each (drop (i + 1) ws) ≡ once_each (drop i ws)
  unfolding once_each
  once_goes e = sym (ap once_each (drop_more ws i 0 lt) ∙ ap (λ t. not t && once_each (drop (i + 1) ws)) e)

pub once_end : (ws : List ℕ) (i : ℕ) → length ws ≤ i → once_each (drop i ws) ≡ true
unfolding once_each
once_end ws i all = ap once_each (drop_all i ws all)

pub agree-zip : (vs ws : List ℕ) → list_all (λ p. not (clash p.0 p.1)) (zip vs ws) ≡ agree vs ws
unfolding agree
agree-zip [] ws = refl
agree-zip (v ∷ vs) [] = refl
agree-zip (v ∷ vs) (w ∷ ws) = ap (λ t. not (clash v w) && t) (agree-zip vs ws)
