use Rattle.steppers.proofs.Insides.{stops_inside}
use Rattle.std.proofs.Common.{sym, subst, rules}
use Rattle.steppers.specs.Placed.{InsideOf}
use Rattle.steppers.proofs.look.inside.Goals as goal

pub returns : goal.returns
returns c =
    subst (InsideOf c.args.words.now) (sym c.unwrap_or.ensures) (stops_inside _ (λ w r p. search rules) c.args.words.now c.first_stop.result c.first_stop.ensures)
