use Rattle.std.proofs.Common.{[], map, take, vec_items}
use Rattle.replay.specs.Plans.{PlansAll}
use Rattle.replay.proofs.plan.plan_lines.Given as goal

abbrev pub invariant-loop-line : goal.invariant-loop-line
invariant-loop-line l = PlansAll (map vec_items (take l.line-index l.lines)) [] (vec_items l.entries) (vec_items l.calls)
