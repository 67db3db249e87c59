-- What the loop keeps.
use Rattle.std.proofs.Common.{◌-◌, ◌≤◌, length}
use Rattle.steppers.specs.Walks.{Reaches}
use Rattle.steppers.proofs.walk.first_stop.Given as goal

-- the walk has come to the words from `at` on
abbrev pub invariant-loop-at : goal.invariant-loop-at
invariant-loop-at g l = (l.at ≤ length l.words) × Reaches (goal.F-post g l.passed) l.words l.at

abbrev pub decreases-loop-at : goal.decreases-loop-at
decreases-loop-at g l = length l.words - l.at
