-- The ways of an admission, by `Admissions`.
use Rattle.std.proofs.Common.{Err, sym, ◌∙◌, subst, arith}
use Rattle.languages.specs.declared.refusal.Refusal.TheVariants.{TooLong}
use Rattle.steppers.specs.Written.{Admitted}
use Rattle.steppers.proofs.Admissions.{too_long, no_term, lacks, lacks_none}
use Rattle.steppers.proofs.accept.admit.Goals as goal

pub returns-then-words-CAPACITY : goal.returns-then-words-CAPACITY
returns-then-words-CAPACITY g c =
    let table = g.S.Stepper.table in
    let words = c.args.words.now in
    subst (λ n. Admitted table words (Err (TooLong 0 n))) (sym (c.CAPACITY-then-words-CAPACITY.ensures ∙ sym g.met.S.Stepper.same_capacity)) (too_long table words (omega (arith, c.CAPACITY.ensures, g.met.S.Stepper.same_capacity, c.if-words-CAPACITY.true)))

pub returns-in-Err : goal.returns-in-Err
returns-in-Err g c =
    no_term g.S.Stepper.table c.args.words.now (omega (arith, c.CAPACITY.ensures, g.met.S.Stepper.same_capacity, c.if-words-CAPACITY.false)) c.in-Err.broken (sym c.in-Err.ensures.value)

pub returns-in-Some : goal.returns-in-Some
returns-in-Some g c =
    let whole = c.in_default.ensures in
    lacks g.S.Stepper.table c.args.words.now (omega (arith, c.CAPACITY.ensures, g.met.S.Stepper.same_capacity, c.if-words-CAPACITY.false)) c.in_default.field-0 (sym whole.value) whole.law.0 whole.law.1 whole.law.2 c.in-Some.place c.in-Some.ensures

pub returns-in-None : goal.returns-in-None
returns-in-None g c =
    let whole = c.in_default.ensures in
    lacks_none g.S.Stepper.table c.args.words.now (omega (arith, c.CAPACITY.ensures, g.met.S.Stepper.same_capacity, c.if-words-CAPACITY.false)) c.in_default.field-0 (sym whole.value) whole.law.0 whole.law.1 whole.law.2 c.in-None.ensures
