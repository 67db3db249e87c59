-- The faults of a list, rule by rule and form by form.
use Rattle.std.proofs.Common.{◌≡◌, ℕ, suc, ◌+◌, ◌<◌, ◌≤◌, Bool, true, false, not, cond, ◌||◌, List, [], ◌∷◌, ◌++◌, map, length, get_or, take, drop, Some, None, Option, sym, refl, ap, ◌∙◌, add-one}
use Rattle.std.proofs.lemmas.List.{drop_more, drop_all, take_more, map_push, length-map, length-take-le}
use Rattle.lists.specs.declared.parts.Form.{Form}
use Rattle.lists.specs.declared.parts.Rule.{Rule}
use Rattle.lists.specs.declared.refusal.Refusal.TheVariants.{WrongShape, WrongVariables, Overlap, NoRule}
use Rattle.lists.specs.Lines.{Sides, sides_of}
use Rattle.std.specs.List.{list_any, position, position_from}
use Rattle.std.specs.Option.{option_map}
use Rattle.std.proofs.lemmas.Iterator.Adapters.{position_from-zero}
use Rattle.lists.specs.Sides.{shaped, linear, is_for}
use Rattle.lists.specs.Acceptance.{side_fault, overlap_fault, form_fault}
use Rattle.lists.specs.Sound.{overlaps_some}

pub list_any-map : {X Y : Type 0} (f : X → Y) (test : Y → Bool) (xs : List X) → list_any (λ x. test (f x)) xs ≡ list_any test (map f xs)
list_any-map f test [] = refl
list_any-map f test (x ∷ xs) = ap (λ t. test (f x) || t) (list_any-map f test xs)

-- the rule at an index, and those behind it
split : (rules : List Rule) (n : ℕ) (r : Rule) → n < length rules → r ≡ get_or rules n r → map sides_of (drop n rules) ≡ sides_of r ∷ map sides_of (drop (n + 1) rules)
split rules n r lt is = ap (map sides_of) (drop_more rules n r lt) ∙ ap (λ x. sides_of x ∷ map sides_of (drop (n + 1) rules)) (sym is)

module _ (k : ℕ) (forms : List Form) (rules : List Rule) (n : ℕ) (r : Rule) (lt : n < length rules) (is : r ≡ get_or rules n r) (i : ℕ) where
  pub bad_shape : shaped k forms (sides_of r) ≡ false → side_fault k forms i (map sides_of (drop n rules)) ≡ Some (WrongShape i)
  unfolding side_fault
  bad_shape e = ap (side_fault k forms i) (split rules n r lt is) ∙ ap (λ t. cond t (cond (linear (sides_of r)) (side_fault k forms (suc i) (map sides_of (drop (n + 1) rules))) (Some (WrongVariables i))) (Some (WrongShape i))) e

  good_shape : shaped k forms (sides_of r) ≡ true → side_fault k forms i (map sides_of (drop n rules)) ≡ cond (linear (sides_of r)) (side_fault k forms (suc i) (map sides_of (drop (n + 1) rules))) (Some (WrongVariables i))
  unfolding side_fault
  good_shape e = ap (side_fault k forms i) (split rules n r lt is) ∙ ap (λ t. cond t (cond (linear (sides_of r)) (side_fault k forms (suc i) (map sides_of (drop (n + 1) rules))) (Some (WrongVariables i))) (Some (WrongShape i))) e

  pub bad_variables : shaped k forms (sides_of r) ≡ true → linear (sides_of r) ≡ false → side_fault k forms i (map sides_of (drop n rules)) ≡ Some (WrongVariables i)
  bad_variables e f = good_shape e ∙ ap (λ t. cond t (side_fault k forms (suc i) (map sides_of (drop (n + 1) rules))) (Some (WrongVariables i))) f

  pub good_rule : shaped k forms (sides_of r) ≡ true → linear (sides_of r) ≡ true → side_fault k forms (i + 1) (map sides_of (drop (n + 1) rules)) ≡ side_fault k forms i (map sides_of (drop n rules))
  good_rule e f = ap (λ m. side_fault k forms m (map sides_of (drop (n + 1) rules))) (add-one i) ∙ sym (good_shape e ∙ ap (λ t. cond t (side_fault k forms (suc i) (map sides_of (drop (n + 1) rules))) (Some (WrongVariables i))) f)

pub rules_end : (k : ℕ) (forms : List Form) (rules : List Rule) (n i : ℕ) → length rules ≤ n → side_fault k forms i (map sides_of (drop n rules)) ≡ None
unfolding side_fault
rules_end k forms rules n i all = ap (λ l. side_fault k forms i (map sides_of l)) (drop_all n rules all)

module _ (rules : List Rule) (n : ℕ) (r : Rule) (lt : n < length rules) (is : r ≡ get_or rules n r) where
  overlap_at : overlap_fault (map sides_of (take n rules)) (map sides_of (drop n rules)) ≡ cond (overlaps_some (map sides_of (take n rules)) (sides_of r)) (Some (Overlap (length (map sides_of (take n rules))))) (overlap_fault (map sides_of (take n rules) ++ sides_of r ∷ []) (map sides_of (drop (n + 1) rules)))
  unfolding overlap_fault
  overlap_at = ap (overlap_fault (map sides_of (take n rules))) (split rules n r lt is)

  pub overlap_here : n ≤ length rules → overlaps_some (map sides_of (take n rules)) (sides_of r) ≡ true → overlap_fault (map sides_of (take n rules)) (map sides_of (drop n rules)) ≡ Some (Overlap n)
  overlap_here le e =
      overlap_at ∙ ap (λ t. cond t (Some (Overlap (length (map sides_of (take n rules))))) (overlap_fault (map sides_of (take n rules) ++ sides_of r ∷ []) (map sides_of (drop (n + 1) rules)))) e
      ∙ ap (λ m. Some (Overlap m)) (length-map (take n rules) sides_of ∙ length-take-le n rules le)

  pub no_overlap : overlaps_some (map sides_of (take n rules)) (sides_of r) ≡ false → overlap_fault (map sides_of (take (n + 1) rules)) (map sides_of (drop (n + 1) rules)) ≡ overlap_fault (map sides_of (take n rules)) (map sides_of (drop n rules))
  no_overlap e =
      let more = ap (map sides_of) (take_more rules n r lt) ∙ map_push sides_of (take n rules) (get_or rules n r) ∙ ap (λ x. map sides_of (take n rules) ++ sides_of x ∷ []) (sym is) in
      ap (λ l. overlap_fault l (map sides_of (drop (n + 1) rules))) more
      ∙ sym (overlap_at ∙ ap (λ t. cond t (Some (Overlap (length (map sides_of (take n rules))))) (overlap_fault (map sides_of (take n rules) ++ sides_of r ∷ []) (map sides_of (drop (n + 1) rules)))) e)

pub overlaps_end : (rules : List Rule) (n : ℕ) → length rules ≤ n → overlap_fault (map sides_of (take n rules)) (map sides_of (drop n rules)) ≡ None
unfolding overlap_fault
overlaps_end rules n all = ap (λ l. overlap_fault (map sides_of (take n rules)) (map sides_of l)) (drop_all n rules all)

form_fault-from : (rules : List Sides) (i : ℕ) (forms : List Form) → form_fault rules i forms ≡ option_map (λ k. NoRule k) (position_from (λ f. not (list_any (is_for f) rules)) i forms)
unfolding form_fault
form_fault-from rules i [] = refl
form_fault-from rules i (f ∷ fs) = by (list_any (is_for f) rules) (form_fault-from rules (i + 1) fs)
  where
    by : (t : Bool) → form_fault rules (i + 1) fs ≡ option_map (λ k. NoRule k) (position_from (λ f. not (list_any (is_for f) rules)) (i + 1) fs) → cond t (form_fault rules (suc i) fs) (Some (NoRule i)) ≡ option_map (λ k. NoRule k) (cond (not t) (Some i) (position_from (λ f. not (list_any (is_for f) rules)) (i + 1) fs))
    by true rest = ap (λ m. form_fault rules m fs) (sym (add-one i)) ∙ rest
    by false rest = refl

-- the fault of the forms, by the place of the first form without a rule
pub form_fault-position : (rules : List Sides) (forms : List Form) (o : Option ℕ) → position (λ f. not (list_any (is_for f) rules)) forms ≡ o → form_fault rules 0 forms ≡ option_map (λ k. NoRule k) o
form_fault-position rules forms o e =
    form_fault-from rules 0 forms ∙ ap (option_map (λ k. NoRule k)) (sym (position_from-zero (λ f. not (list_any (is_for f) rules)) forms) ∙ e)
