use Rattle.std.proofs.Common.{◌≡◌, map, drop}
use Rattle.lists.specs.Lines.{sides_of}
use Rattle.lists.specs.Acceptance.{side_fault}
use Rattle.lists.proofs.faults.Draft.side_fault.Given as goal

abbrev pub invariant-loop-i : goal.invariant-loop-i
invariant-loop-i l = side_fault l.self.layer l.self.forms.now l.i (map sides_of (drop l.i l.self.rules.now)) ≡ side_fault l.self.layer l.self.forms.now 0 (map sides_of l.self.rules.now)
