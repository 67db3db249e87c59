-- Where the child begins, by `Offspring`.
use Rattle.std.proofs.Common.{sym, subst, arith}
use Rattle.terms.proofs.Fillings.{ends_within}
use Rattle.steppers.specs.Placed.{StartOf}
use Rattle.steppers.proofs.Offspring.{no_start, start_of_other, start_past, start_broken, start_there}
use Rattle.steppers.proofs.look.child_start.Goals as goal

pub returns-in_err-word : goal.returns-in_err-word
returns-in_err-word c =
    subst (StartOf c.args.node.now c.args.i) (sym c.from_residual.ensures) (no_start _ _ c.in_err-word.ensures.cases)

pub returns-in_err-count : goal.returns-in_err-count
returns-in_err-count c =
    subst (StartOf c.args.node.now c.args.i) (sym c.from_residual-in_err-count.ensures) (start_of_other _ _ _ c.in_ok-word.ensures.cases.0 _ (sym c.in_err-count.ensures))

pub returns-then-i-count : goal.returns-then-i-count
returns-then-i-count c =
    start_past _ _ _ c.in_ok-word.ensures.cases.0 _ c.in_ok-count.count (sym c.in_ok-count.ensures) c.if-i-count.true

pub returns-in_default : goal.returns-in_default
returns-in_default c =
    start_broken _ _ _ c.in_ok-word.ensures.cases.0 _ c.in_ok-count.count (sym c.in_ok-count.ensures) c.if-i-count.false c.in_default.field-0 (sym c.in_default.ensures)

pub overflow_add-result : goal.overflow_add-result
overflow_add-result c = omega (arith, ends_within _ _ _ _ (sym c.in-Ok.ensures), c.in_ok-word.ensures.cases.1)

pub returns : goal.returns
returns c =
    start_there _ _ _ c.in_ok-word.ensures.cases.0 _ c.in_ok-count.count (sym c.in_ok-count.ensures) c.if-i-count.false c.in-Ok.skipped (sym c.in-Ok.ensures)
