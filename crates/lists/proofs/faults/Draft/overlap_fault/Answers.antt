use Rattle.std.proofs.Common.{sym, ◌∙◌, arith}
use Rattle.lists.proofs.Faulting.{overlap_here, no_overlap, overlaps_end}
use Rattle.lists.proofs.faults.Draft.overlap_fault.Goals as goal

pub returns-then-overlaps_some : goal.returns-then-overlaps_some
returns-then-overlaps_some c =
    sym (overlap_here _ _ c.rule-item.result c.loop-i-test.true c.rule-item.is (omega arith) (sym c.if-overlaps_some.ensures)) ∙ c.loop-i.invariant

pub loop-i-preserved : goal.loop-i-preserved
loop-i-preserved c =
    no_overlap _ _ c.rule-item.result c.loop-i-test.true c.rule-item.is (sym c.if-overlaps_some.ensures) ∙ c.loop-i.invariant

pub returns : goal.returns
returns c = sym (overlaps_end _ _ c.loop-i-test.false) ∙ c.loop-i.invariant
