-- Each row of the sequence language's step table.
use Rattle.std.proofs.Common.{◌≡◌, ℕ, ◌+◌, ◌-◌, ◌≤◌, false, cond, eqb, Some, None, Option, refl, ap, ◌∙◌, arith}
use Rattle.std.proofs.lemmas.Bool.{le-leb, ne_eqb}
use Rattle.terms.specs.Trees.{none, more, count, nth}
use Rattle.steppers.specs.declared.action.Seen.{Seen}
use Rattle.steppers.specs.declared.action.Seen.TheVariants.{Number, Form}
use Rattle.steppers.specs.declared.action.Made.TheVariants as made
use Rattle.steppers.specs.declared.action.Action.TheVariants.{Child, Replace, Wait, Stuck}
use Rattle.steppers.specs.Looks.{seen, seen_all, seen_at}
use Rattle.steppers.specs.Steps.{pick, fill}
use Rattle.steppers.specs.Logic.{bit}
use Rattle.steppers.specs.Sequence.{is_nop, nop_with, channel_of, goes_on, switches, awaits, repeats, sequence_table}
use Rattle.steppers.specs.SequenceRows.{SequenceRows}
use Rattle.steppers.proofs.Wrapped.{rule_number, form_ends, form_acts, first_steps}

-- what is seen is no NOP
not_nop : (s : Seen) → (s ≡ Form 38 → ⊥) → is_nop s ≡ false
not_nop (Number v) h = refl
not_nop (Form l) h = ne_eqb l 38 (λ e. h (ap Form e))

-- a number up to 31 names a channel
channel : {s : Seen} (n : ℕ) → s ≡ Number n → n ≤ 31 → channel_of s ≡ Some n
channel n e h = ap channel_of e ∙ ap (λ b. cond b (Some n) None) (le-leb n 31 h)

-- what SET and CLEAR do, by the channel
by_channel : {o : Option ℕ} (first : ℕ) (s : Seen) → channel_of s ≡ o → switches first s ≡ elim o [ None ↦ Stuck | Some c ↦ nop_with (first + c) ]
by_channel first s e = ap (λ x. elim x [ None ↦ Stuck | Some c ↦ nop_with (first + c) ]) e

-- what AWAIT does, by the channel
awaits_channel : {o : Option ℕ} (image : ℕ) (s : Seen) → channel_of s ≡ o → awaits s image ≡ elim o [ None ↦ Stuck | Some c ↦ cond (eqb (bit c image) 1) (nop_with 0) Wait ]
awaits_channel image s e = ap (λ x. elim x [ None ↦ Stuck | Some c ↦ cond (eqb (bit c image) 1) (nop_with 0) Wait ]) e

-- each row, by what is done at its form
pub sequence_rows : SequenceRows
unfolding count seen_all seen_at fill pick nth
sequence_rows =
    record {
      nop_ends = λ ms image. form_ends sequence_table image ms 38 none refl;
      number_is_stuck = λ t v image e. rule_number sequence_table image t v refl e;
      seq_of_nop = λ ms a b image e. form_acts sequence_table image ms 32 refl (more a (more b none)) (ap goes_on e);
      seq_steps_its_first = λ ms a b image h. first_steps sequence_table image ms 32 refl a (more b none) (not_nop (seen a) h) (ap (λ t. cond t (Replace 0 (made.Child 1)) (Child 0)) (not_nop (seen a) h));
      set_switches_on = λ ms a n image e h. form_acts sequence_table image ms 33 refl (more a none) (by_channel 100 (seen a) (channel n e h));
      clear_switches_off = λ ms a n image e h. form_acts sequence_table image ms 34 refl (more a none) (by_channel 200 (seen a) (channel n e h));
      await_is_met = λ ms a n image e h on. form_acts sequence_table image ms 35 refl (more a none) (awaits_channel image (seen a) (channel n e h) ∙ ap (λ x. cond (eqb x 1) (nop_with 0) Wait) on);
      await_waits = λ ms a n image e h off. form_acts sequence_table image ms 35 refl (more a none) (awaits_channel image (seen a) (channel n e h) ∙ ap (λ x. cond (eqb x 1) (nop_with 0) Wait) off);
      set_is_stuck = λ ms a image e. form_acts sequence_table image ms 33 refl (more a none) (by_channel 100 (seen a) e);
      clear_is_stuck = λ ms a image e. form_acts sequence_table image ms 34 refl (more a none) (by_channel 200 (seen a) e);
      await_is_stuck = λ ms a image e. form_acts sequence_table image ms 35 refl (more a none) (awaits_channel image (seen a) e);
      repeat_no_more = λ ms k b image e. form_acts sequence_table image ms 36 refl (more k (more b none)) (ap repeats e);
      repeat_once_more = λ ms k b n image e h. form_acts sequence_table image ms 36 refl (more k (more b none)) (ap repeats e ∙ ap (λ t. cond t (nop_with 0) (Replace 0 (made.Round 32 36 (n - 1) 1))) (ne_eqb n 0 (λ z. omega arith)));
      repeat_is_stuck = λ ms k b l image e. form_acts sequence_table image ms 36 refl (more k (more b none)) (ap repeats e);
    }
