use Rattle.std.proofs.Common.{sym, ◌∙◌, arith}
use Rattle.steppers.proofs.Machining.{no_words, ready, steps_nothing, steps_ended, waits, sticks, replaces}
use Rattle.steppers.proofs.run.MachineLanguage.step.Goals as goal

pub returns-then-is_empty-clause-answer : goal.returns-then-is_empty-clause-answer
returns-then-is_empty-clause-answer g c =
    steps_nothing g.S.Stepper.table g.met.S.Stepper.sound _ c.args.inputs (no_words _ _ c.as_slice-term.ensures c.if-is_empty.ensures)

pub returns-then-is_over-clause-answer : goal.returns-then-is_over-clause-answer
returns-then-is_over-clause-answer g c =
    steps_ended g.S.Stepper.table g.met.S.Stepper.sound _ _ c.args.inputs c.as_slice-term.ensures c.args.self.now.holds c.if-is_empty.ensures c.if-is_over.ensures

pub replace-requires-clause-few : goal.replace-requires-clause-few
replace-requires-clause-few g c =
    let r = ready g.S.Stepper.table g.met.S.Stepper.sound _ _ c.args.inputs c.find-spot.result c.as_slice-term.ensures c.args.self.now.holds c.if-is_empty.ensures c.if-is_over.ensures c.find-spot.ensures in
    (r.few, omega (arith, c.CAPACITY.ensures, g.met.S.Stepper.same_capacity, g.met.S.Stepper.sound.holds_few))

pub replace-requires-clause-wordable : goal.replace-requires-clause-wordable
replace-requires-clause-wordable g c =
    let r = ready g.S.Stepper.table g.met.S.Stepper.sound _ _ c.args.inputs c.find-spot.result c.as_slice-term.ensures c.args.self.now.holds c.if-is_empty.ensures c.if-is_over.ensures c.find-spot.ensures in
    (replaces g.S.Stepper.table g.met.S.Stepper.sound _ _ _ r _ _ c.in-Replace.is).wordable

pub invariant_of-self : goal.invariant_of-self
invariant_of-self g c =
    let r = ready g.S.Stepper.table g.met.S.Stepper.sound _ _ c.args.inputs c.find-spot.result c.as_slice-term.ensures c.args.self.now.holds c.if-is_empty.ensures c.if-is_over.ensures c.find-spot.ensures in
    record { holds = (replaces g.S.Stepper.table g.met.S.Stepper.sound _ _ _ r _ _ c.in-Replace.is).held_after c.replace.result _ _ (c.CAPACITY.ensures ∙ sym g.met.S.Stepper.same_capacity) c.replace.ensures.fits c.replace.ensures.words }

pub returns-then-replace-clause-answer : goal.returns-then-replace-clause-answer
returns-then-replace-clause-answer g c =
    let r = ready g.S.Stepper.table g.met.S.Stepper.sound _ _ c.args.inputs c.find-spot.result c.as_slice-term.ensures c.args.self.now.holds c.if-is_empty.ensures c.if-is_over.ensures c.find-spot.ensures in
    (replaces g.S.Stepper.table g.met.S.Stepper.sound _ _ _ r _ _ c.in-Replace.is).fitting _ _ (c.CAPACITY.ensures ∙ sym g.met.S.Stepper.same_capacity) c.if-replace.ensures.fits c.if-replace.ensures.words

pub returns-else-replace-clause-answer : goal.returns-else-replace-clause-answer
returns-else-replace-clause-answer g c =
    let r = ready g.S.Stepper.table g.met.S.Stepper.sound _ _ c.args.inputs c.find-spot.result c.as_slice-term.ensures c.args.self.now.holds c.if-is_empty.ensures c.if-is_over.ensures c.find-spot.ensures in
    (replaces g.S.Stepper.table g.met.S.Stepper.sound _ _ _ r _ _ c.in-Replace.is).full _ _ (c.CAPACITY.ensures ∙ sym g.met.S.Stepper.same_capacity) c.if-replace.ensures.fits c.if-replace.ensures.words

pub returns-in-Wait-clause-answer : goal.returns-in-Wait-clause-answer
returns-in-Wait-clause-answer g c =
    let r = ready g.S.Stepper.table g.met.S.Stepper.sound _ _ c.args.inputs c.find-spot.result c.as_slice-term.ensures c.args.self.now.holds c.if-is_empty.ensures c.if-is_over.ensures c.find-spot.ensures in
    waits g.S.Stepper.table g.met.S.Stepper.sound _ _ _ r c.in-Wait.is

pub returns-in-Child-clause-answer : goal.returns-in-Child-clause-answer
returns-in-Child-clause-answer g c =
    let r = ready g.S.Stepper.table g.met.S.Stepper.sound _ _ c.args.inputs c.find-spot.result c.as_slice-term.ensures c.args.self.now.holds c.if-is_empty.ensures c.if-is_over.ensures c.find-spot.ensures in
    sticks g.S.Stepper.table g.met.S.Stepper.sound _ _ _ r c.in-Child.is
