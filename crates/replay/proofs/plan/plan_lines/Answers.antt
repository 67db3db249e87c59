use Rattle.std.proofs.Common.{vec_items}
use Rattle.replay.proofs.Planning.{plans_none, plans_next}
use Rattle.replay.proofs.plan.plan_lines.Goals as goal

pub loop-line-init : goal.loop-line-init
loop-line-init c = plans_none _ _ c.new-entries.ensures.items c.new-calls.ensures.items

pub loop-line-preserved : goal.loop-line-preserved
loop-line-preserved c =
    plans_next vec_items _ _ c.line-item.result c.deref.result.now _ _ _ _ c.in_ok-plan_line.field-0 c.loop-line-test.true c.line-item.is c.deref.ensures.value c.in_ok-push.ensures.items c.loop-line.invariant c.in_ok-plan_line.ensures
