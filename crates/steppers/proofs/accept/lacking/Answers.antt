use Rattle.std.proofs.Common.{rules}
use Rattle.steppers.proofs.Forests.{stops_lacking}
use Rattle.steppers.proofs.accept.lacking.Goals as goal

pub returns : goal.returns
returns g c = stops_lacking g.S.Stepper.table.has _ (λ w r p. search rules) c.args.words.now c.first_stop.result c.first_stop.ensures
