-- What the loop keeps.
use Rattle.std.proofs.Common.{◌≡◌, ◌+◌, ◌*◌, ◌≤◌, drop}
use Rattle.terms.specs.Fronts.{later, ending}
use Rattle.terms.proofs.front.trees_end.Given as goal

-- what is left of the run, with so many still wanted, gives the answer; a word wants at most nine
abbrev pub invariant-loop-i : goal.invariant-loop-i
invariant-loop-i l = (later l.i (ending l.variables l.wanted (drop l.i l.words)) ≡ ending l.variables l.trees l.words) × (l.wanted ≤ l.trees + 9 * l.i)
