use Rattle.steppers.specs.Loading.{holdable_none}
use Rattle.steppers.proofs.Machining.{no_term}
use Rattle.steppers.proofs.machine.Machine.new.Goals as goal

pub invariant_of-result : goal.invariant_of-result
invariant_of-result g c = record { holds = holdable_none g.S.Stepper.table _ c.in_ok-new.ensures }

pub returns : goal.returns
returns g c = no_term _ c.in_ok-new.ensures
