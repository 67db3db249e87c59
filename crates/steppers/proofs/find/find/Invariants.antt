-- What the loop keeps.
use Rattle.std.proofs.Common.{◌-◌, ◌≤◌, length}
use Rattle.steppers.proofs.Spots.{Spotted}
use Rattle.steppers.proofs.find.find.Given as goal

-- the way to the spot has come to the words from `outer` on
abbrev pub invariant-loop-i : goal.invariant-loop-i
invariant-loop-i g l = (l.outer ≤ length l.words) × Spotted g.S.Stepper.table l.words l.inputs l.outer

abbrev pub decreases-loop-i : goal.decreases-loop-i
decreases-loop-i g l = length l.words - l.outer
