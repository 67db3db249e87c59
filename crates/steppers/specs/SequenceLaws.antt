-- The table of the sequence language is sound.
use Rattle.std.specs.Prelude.{◌≡◌, ℕ, ◌+◌, ◌-◌, ◌<◌, ◌≤◌, true, cond, List, [], ◌∷◌, length, Some, None, Option, ◌==◌, refl}
use Rattle.std.proofs.Common.{arith}
use Rattle.std.proofs.lemmas.Bool.{cond_both}
use Rattle.std.proofs.lemmas.Bool.Decides.{nat_tests}
use Rattle.terms.specs.Words.{is_form_label}
use Rattle.steppers.specs.declared.action.Seen.{Seen}
use Rattle.steppers.specs.declared.action.Seen.TheVariants as seen
use Rattle.steppers.specs.declared.action.Made.TheVariants as made
use Rattle.steppers.specs.declared.action.Action.{Action}
use Rattle.steppers.specs.declared.action.Action.TheVariants.{Child, Replace, Wait, Stuck}
use Rattle.steppers.specs.Looks.{seen_at}
use Rattle.steppers.specs.Table.{Sound, InRange, AllInRange, ActsSoundly}
use Rattle.steppers.specs.Logic.{bit}
use Rattle.steppers.specs.Sequence.{sequence_has, sequence_acts, sequence_table, is_nop, nop_with, channel_of, goes_on, switches, awaits, repeats}

-- the forms of the language are forms
forms : (l n : ℕ) → sequence_has l n ≡ true → (is_form_label l ≡ true) × (n ≤ 8)
forms l n h = (grind (arith, nat_tests), grind (arith, nat_tests))

-- SET and CLEAR
switches_soundly : (n first : ℕ) (c : Option ℕ) → ActsSoundly sequence_has n (elim c [ None ↦ Stuck | Some x ↦ nop_with (first + x) ])
switches_soundly n first None = tt
switches_soundly n first (Some x) = refl

-- AWAIT
awaits_soundly : (n image : ℕ) (c : Option ℕ) → ActsSoundly sequence_has n (elim c [ None ↦ Stuck | Some x ↦ cond (bit x image == 1) (nop_with 0) Wait ])
awaits_soundly n image None = tt
awaits_soundly n image (Some x) =
    cond_both (bit x image == 1) (nop_with 0) Wait (ActsSoundly sequence_has n) (λ f. refl) (λ f. tt)

-- REPEAT
repeats_soundly : (n : ℕ) (s : Seen) → InRange s → 1 < n → ActsSoundly sequence_has n (repeats s)
repeats_soundly n (seen.Number k) r h =
    cond_both (k == 0) (nop_with 0) (Replace 0 (made.Round 32 36 (k - 1) 1)) (ActsSoundly sequence_has n) (λ f. refl) (λ f. (refl, refl, omega arith, h))
repeats_soundly n (seen.Form l) r h = tt

-- any form, by its first child
form_soundly : (l n image : ℕ) (s : Seen) → sequence_has l n ≡ true → InRange s → ActsSoundly sequence_has n (cond (l == 32) (goes_on s) (cond (l == 33) (switches 100 s) (cond (l == 34) (switches 200 s) (cond (l == 35) (awaits s image) (cond (l == 36) (repeats s) Stuck)))))
form_soundly l n image s h r =
    let P : Action → Type 0 = ActsSoundly sequence_has n in
    cond_both (l == 32) _ _ P
    (λ e. let two : n ≡ 2 = grind (arith, nat_tests) in cond_both (is_nop s) (Replace 0 (made.Child 1)) (Child 0) P (λ f. omega arith) (λ f. omega arith))
    (λ e32. cond_both (l == 33) _ _ P (λ e. switches_soundly n 100 (channel_of s))
    (λ e33. cond_both (l == 34) _ _ P (λ e. switches_soundly n 200 (channel_of s))
    (λ e34. cond_both (l == 35) _ _ P (λ e. awaits_soundly n image (channel_of s))
    (λ e35. cond_both (l == 36) _ _ P (λ e. let two : n ≡ 2 = grind (arith, nat_tests) in repeats_soundly n s r (omega arith))
    (λ e36. tt)))))

-- any form, by all of its children
acts_soundly : (l : ℕ) (ss : List Seen) (image : ℕ) → sequence_has l (length ss) ≡ true → AllInRange ss → ActsSoundly sequence_has (length ss) (sequence_acts l ss image)
unfolding seen_at AllInRange
acts_soundly l [] image h r = tt
acts_soundly l (s ∷ ss) image h r = form_soundly l (length (s ∷ ss)) image s h r.0

-- what is asked of a stepper
pub sequence_sound : Sound sequence_table
sequence_sound = record { holds_some = omega arith; holds_few = omega arith; forms = forms; acts_soundly = acts_soundly }
