use Rattle.std.proofs.Common.{◌≡◌, [], map, take, drop}
use Rattle.lists.specs.Lines.{sides_of}
use Rattle.lists.specs.Acceptance.{overlap_fault}
use Rattle.lists.proofs.faults.Draft.overlap_fault.Given as goal

abbrev pub invariant-loop-i : goal.invariant-loop-i
invariant-loop-i l = overlap_fault (map sides_of (take l.i l.self.rules.now)) (map sides_of (drop l.i l.self.rules.now)) ≡ overlap_fault [] (map sides_of l.self.rules.now)
