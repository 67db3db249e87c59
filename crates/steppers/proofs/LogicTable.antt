-- Each row of the logic language's step table.
use Rattle.std.proofs.Common.{◌≡◌, ℕ, cond, Some, None, Option, refl, ap, ◌∙◌, arith}
use Rattle.std.proofs.lemmas.Bool.{le-leb, lt-leb, ne_eqb}
use Rattle.terms.specs.Trees.{none, more, count, nth}
use Rattle.steppers.specs.declared.action.Seen.{Seen}
use Rattle.steppers.specs.declared.action.Made.TheVariants as made
use Rattle.steppers.specs.declared.action.Action.TheVariants.{Replace, Stuck}
use Rattle.steppers.specs.Looks.{seen, seen_all, seen_at}
use Rattle.steppers.specs.Steps.{pick, fill}
use Rattle.steppers.specs.Logic.{bit, gives, adds, logic_does, is_number, logic_table}
use Rattle.steppers.specs.LogicRows.{LogicRows}
use Rattle.steppers.proofs.Stepping.{rule_ended}
use Rattle.steppers.proofs.Wrapped.{form_acts, first_steps, second_steps}

-- what is done at a form, by what is seen of its first child
by_first : {r s : Seen} (l image : ℕ) (second : Option Seen) → r ≡ s → logic_does l (Some r) second image ≡ logic_does l (Some s) second image
by_first l image second e = ap (λ x. logic_does l (Some x) second image) e

-- what is done at an ADD whose first child is a number, by what is seen of its second
by_second : {r s : Seen} (m : ℕ) → r ≡ s → adds m (Some r) ≡ adds m (Some s)
by_second m e = ap (λ x. adds m (Some x)) e

-- each row, by what is done at its form
pub logic_rows : LogicRows
unfolding count seen_all seen_at fill pick nth
logic_rows =
    record {
      number_ends = λ t v image e. rule_ended logic_table t image (ap is_number e);
      in_gives_a_bit = λ ms a n image e h. form_acts logic_table image ms 16 refl (more a none) (by_first 16 image None e ∙ ap (λ b. cond b (gives (bit n image)) Stuck) (le-leb n 31 h));
      in_is_stuck_above_31 = λ ms a n image e h. form_acts logic_table image ms 16 refl (more a none) (by_first 16 image None e ∙ ap (λ b. cond b (gives (bit n image)) Stuck) (lt-leb n 31 h));
      not_of_0 = λ ms a image e. form_acts logic_table image ms 17 refl (more a none) (by_first 17 image None e);
      not_of_others = λ ms a n image e h. form_acts logic_table image ms 17 refl (more a none) (by_first 17 image None e ∙ ap (λ b. gives (cond b 1 0)) (ne_eqb n 0 (λ z. omega arith)));
      if_of_0 = λ ms a b c image e. form_acts logic_table image ms 20 refl (more a (more b (more c none))) (by_first 20 image (Some (seen b)) e);
      if_of_others = λ ms a b c n image e h. form_acts logic_table image ms 20 refl (more a (more b (more c none))) (by_first 20 image (Some (seen b)) e ∙ ap (λ t. Replace 0 (made.Child (cond t 2 1))) (ne_eqb n 0 (λ z. omega arith)));
      add_gives_the_sum = λ ms a b m n image e f. form_acts logic_table image ms 21 refl (more a (more b none)) (by_first 21 image (Some (seen b)) e ∙ by_second m f);
      in_steps_its_child = λ ms a l image e. first_steps logic_table image ms 16 refl a none (ap is_number e) (by_first 16 image None e);
      not_steps_its_child = λ ms a l image e. first_steps logic_table image ms 17 refl a none (ap is_number e) (by_first 17 image None e);
      if_steps_its_test = λ ms a b c l image e. first_steps logic_table image ms 20 refl a (more b (more c none)) (ap is_number e) (by_first 20 image (Some (seen b)) e);
      add_steps_its_left = λ ms a b l image e. first_steps logic_table image ms 21 refl a (more b none) (ap is_number e) (by_first 21 image (Some (seen b)) e);
      add_steps_its_right = λ ms a b m l image e f. second_steps logic_table image ms 21 refl a b none (ap is_number f) (by_first 21 image (Some (seen b)) e ∙ by_second m f);
    }
