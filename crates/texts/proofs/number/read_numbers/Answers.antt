use Rattle.std.proofs.Common.{rules, tests, drop, sym, ap, ◌∙◌, arith}
use Rattle.std.proofs.lemmas.List.{length_push}
use Rattle.texts.specs.Texts.{numbers, pieces}
use Rattle.texts.proofs.Yielding.{piece_turn, pieces_end}
use Rattle.texts.proofs.Numbering.{resumed, resumed_none, bad_field, next_field, fields_end}
use Rattle.texts.proofs.number.read_numbers.Goals as goal

pub loop-field-init : goal.loop-field-init
loop-field-init c = ap (λ l. resumed l (numbers (pieces 44 c.args.fields.now))) c.new-values.ensures.items ∙ resumed_none _

pub returns-in_default : goal.returns-in_default
returns-in_default c =
    let split = c.split-field-items.ensures in
    let turn = piece_turn _ _ 44 c.args.fields.now _ _ c.into_iter-field-iterator.ensures.into_iter_gives split.rest split.done split.closure c.loop-field.yielded _ c.loop-field.yielded_by (λ x r q k. search (rules, tests)) _ _ c.in-Some.field c.in-Some.is c.next.ensures.steps in
    sym (bad_field _ _ _ _ turn (sym c.in_default.ensures)) ∙ c.loop-field.invariant

pub loop-field-preserved : goal.loop-field-preserved
loop-field-preserved c =
    let split = c.split-field-items.ensures in
    let turn = piece_turn _ _ 44 c.args.fields.now _ _ c.into_iter-field-iterator.ensures.into_iter_gives split.rest split.done split.closure c.loop-field.yielded _ c.loop-field.yielded_by (λ x r q k. search (rules, tests)) _ _ c.in-Some.field c.in-Some.is c.next.ensures.steps in
    let more = length_push c.loop-field.yielded c.in-Some.field in
    (λ i. resumed (c.in_ok-push.ensures.items i) (numbers (drop (more i) (pieces 44 c.args.fields.now))))
    ∙ sym (next_field _ _ _ _ turn _ (sym c.in-Some-read_number.ensures)) ∙ c.loop-field.invariant

pub returns : goal.returns
returns c =
    let split = c.split-field-items.ensures in
    let all = pieces_end _ _ 44 c.args.fields.now _ _ c.into_iter-field-iterator.ensures.into_iter_gives split.rest split.done split.closure c.loop-field.yielded _ c.loop-field.yielded_by (λ x r q k. search (rules, tests)) _ _ c.in-None.is c.next.ensures.steps in
    sym (fields_end _ (pieces 44 c.args.fields.now) _ (omega (arith, all))) ∙ c.loop-field.invariant
