use Rattle.std.proofs.Common.{◌≡◌, drop}
use Rattle.lists.specs.Sides.{once_each}
use Rattle.lists.proofs.sides.once_each.Given as goal

abbrev pub invariant-loop-i : goal.invariant-loop-i
invariant-loop-i l = once_each (drop l.i l.words) ≡ once_each l.words
