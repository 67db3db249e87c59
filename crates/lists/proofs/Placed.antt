-- Variables that stand once, and on the right only if on the left: the tests as statements, both ways.
use Rattle.std.proofs.Common.{◌≡◌, ℕ, zero, suc, ◌<◌, Bool, true, false, not, ◌||◌, eqb, List, [], ◌∷◌, length, get_or, sym, refl, ◌∙◌, arith}
use Rattle.std.specs.List.{ContainsAt}
use Rattle.std.proofs.ByRecursion.{all-has, all_has_itself}
use Rattle.std.proofs.lemmas.List.{get_or_default}
use Rattle.std.proofs.lemmas.Bool.{and_parts, and_from, eq-eqb, eqb-true, both_ways, not-true, false≢true}
use Rattle.terms.specs.Words.{node_of}
use Rattle.std.specs.List.{list_all}
use Rattle.lists.specs.Sides.{is_variable, holds, repeated, once_each, bound}
use Rattle.lists.specs.Laws.{OncePlaced, FromLeft}
use Rattle.std.proofs.ByRecursion.{All-weaker}
use Rattle.lists.proofs.Quantified.{all_if_every, every_if_all, has_if_any, any_if_has}

pub holds_if_has : (ws : List ℕ) (w : ℕ) → ContainsAt ws w → holds ws w ≡ true
holds_if_has ws w h = any_if_has (eqb w) ws w h (eq-eqb w w refl)

pub has_if_holds : (ws : List ℕ) (w : ℕ) → holds ws w ≡ true → ContainsAt ws w
has_if_holds ws w e =
    let r = has_if_any (eqb w) ws e in
    let same = eqb-true w r.0 r.2 in
    (r.1.0, r.1.1, λ d. r.1.2 d ∙ sym same)

has_at : (ws : List ℕ) (j w : ℕ) → j < length ws → w ≡ get_or ws j 0 → ContainsAt ws w
has_at ws j w l e = (j, l, λ d. get_or_default ws j d 0 l ∙ sym e)

pub placed_once : (ws : List ℕ) → once_each ws ≡ true → OncePlaced ws
unfolding once_each
placed_once [] e i j lt l v same = omega arith
placed_once (w ∷ ws) e zero zero lt l v same = omega arith
placed_once (w ∷ ws) e zero (suc j) lt l v same =
    let p = and_parts (not (repeated ws w)) (once_each ws) e in
    both_ways (repeated ws w) (not-true _ p.0) (and_from _ _ v (holds_if_has ws w (has_at ws j w (omega arith) same)))
placed_once (w ∷ ws) e (suc i) zero lt l v same = omega arith
placed_once (w ∷ ws) e (suc i) (suc j) lt l v same = placed_once ws (and_parts (not (repeated ws w)) (once_each ws) e).1 i j (omega arith) (omega arith) v same

pub once_placed : (ws : List ℕ) → OncePlaced ws → once_each ws ≡ true
unfolding once_each
once_placed [] p = refl
once_placed (w ∷ ws) p =
    and_from _ _ (by (repeated ws w) refl) (once_placed ws (λ i j lt l v same. p (suc i) (suc j) (omega arith) (omega arith) v same))
  where
    by : (t : Bool) → repeated ws w ≡ t → not t ≡ true
    by false e = refl
    by true e =
        let both = and_parts (is_variable (node_of w)) (holds ws w) e in
        let has = has_if_holds ws w both.1 in
        absurd (p 0 (suc has.0) (omega arith) (let l = has.1 in omega arith) both.0 (sym (has.2 0)))

pub bound_from_left : (left right : List ℕ) → list_all (bound left) right ≡ true → FromLeft left right
bound_from_left left right e w has v =
    has_if_holds left w (by (is_variable (node_of w)) v (all-has (λ u. bound left u ≡ true) right w (all_if_every (bound left) right e) has))
  where
    by : (t : Bool) → t ≡ true → (not t || holds left w) ≡ true → holds left w ≡ true
    by true e h = h
    by false e h = absurd (false≢true e)

pub from_left_bound : (left right : List ℕ) → FromLeft left right → list_all (bound left) right ≡ true
from_left_bound left right p = every_if_all (bound left) right (All-weaker _ _ (λ w has. by w has (is_variable (node_of w)) refl) right (all_has_itself right))
  where
    by : (w : ℕ) → ContainsAt right w → (t : Bool) → is_variable (node_of w) ≡ t → (not t || holds left w) ≡ true
    by w has true v = holds_if_has left w (p w has v)
    by w has false v = refl
