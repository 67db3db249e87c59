-- What is done at a node, by `Spots`.
use Rattle.std.proofs.Common.{sym, ap, ◌∙◌}
use Rattle.terms.specs.Words.{node_of}
use Rattle.steppers.specs.Placed.{own_label}
use Rattle.steppers.proofs.Spots.{no_act, act_other, act_own}
use Rattle.steppers.proofs.find.act_at.Goals as goal

pub returns-in_default : goal.returns-in_default
returns-in_default g c = no_act g.S.Stepper.table c.args.node.now c.args.inputs c.in_default.ensures.item.3

pub returns-in_default-own_label : goal.returns-in_default-own_label
returns-in_default-own_label g c =
    let word = c.in-Some.ensures.item.3 in
    act_other g.S.Stepper.table c.args.node.now c.args.inputs word.0 (ap (λ w. own_label g.S.Stepper.table.has (node_of w)) (sym (word.1 0)) ∙ sym c.in_default-own_label.ensures)

pub returns : goal.returns
returns g c =
    let word = c.in-Some.ensures.item.3 in
    act_own g.S.Stepper.table c.args.node.now c.args.inputs word.0 c.in-Some-own_label.label _ (ap (λ w. own_label g.S.Stepper.table.has (node_of w)) (sym (word.1 0)) ∙ sym c.in-Some-own_label.ensures) c.act.ensures
