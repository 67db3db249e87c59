-- What is seen of the child, by `Offspring`.
use Rattle.std.proofs.Common.{sym, subst}
use Rattle.std.proofs.lemmas.List.{take_rest}
use Rattle.steppers.specs.Placed.{SeenOf, SeenChild}
use Rattle.steppers.proofs.Offspring.{child_unseen, child_seen}
use Rattle.steppers.proofs.look.look_at_child.Goals as goal

pub returns-in_err-start : goal.returns-in_err-start
returns-in_err-start c =
    subst (SeenChild c.args.node.now c.args.i) (sym c.from_residual.ensures) (child_unseen _ _ c.in_err-start.ensures)

pub returns : goal.returns
returns c =
    child_seen _ _ c.in_ok-start.start _ c.in_ok-start.ensures (subst (λ l. SeenOf l c.look.result) (take_rest c.args.node.now c.in_ok-start.start) c.look.ensures)
