use Rattle.std.proofs.Common.{sym, ◌∙◌}
use Rattle.lists.proofs.Faulting.{bad_shape, bad_variables, good_rule, rules_end}
use Rattle.lists.proofs.faults.Draft.side_fault.Goals as goal

pub returns-then-not-is_shaped : goal.returns-then-not-is_shaped
returns-then-not-is_shaped c =
    sym (bad_shape _ _ _ _ c.rule-item.result c.loop-i-test.true c.rule-item.is _ (sym c.if-not-is_shaped.ensures)) ∙ c.loop-i.invariant

pub returns-then-not-is_linear : goal.returns-then-not-is_linear
returns-then-not-is_linear c =
    sym (bad_variables _ _ _ _ c.rule-item.result c.loop-i-test.true c.rule-item.is _ (sym c.if-not-is_shaped.ensures) (sym c.if-not-is_linear.ensures)) ∙ c.loop-i.invariant

pub loop-i-preserved : goal.loop-i-preserved
loop-i-preserved c =
    good_rule _ _ _ _ c.rule-item.result c.loop-i-test.true c.rule-item.is _ (sym c.if-not-is_shaped.ensures) (sym c.if-not-is_linear.ensures) ∙ c.loop-i.invariant

pub returns : goal.returns
returns c = sym (rules_end _ _ _ _ _ c.loop-i-test.false) ∙ c.loop-i.invariant
