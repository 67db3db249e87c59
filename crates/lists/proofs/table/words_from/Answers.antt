use Rattle.std.proofs.Common.{length, drop, vec_items, sym, ap, ◌∙◌, arith}
use Rattle.std.proofs.lemmas.List.{take_rest}
use Rattle.std.proofs.lemmas.Bool.{eqb-true, eqb-false}
use Rattle.lists.specs.Lines.{words_of}
use Rattle.texts.proofs.Numbering.{resumed, resumed_none}
use Rattle.lists.proofs.Wording.{bad_word, next_word, words_end, word_half}
use Rattle.lists.proofs.table.words_from.Goals as goal

pub loop-rest-init : goal.loop-rest-init
loop-rest-init c = ap (λ l. resumed l (words_of c.args.fields.now)) c.new-words.ensures.items ∙ resumed_none _

pub loop-rest-preserved : goal.loop-rest-preserved
loop-rest-preserved c =
    let next = next_word (vec_items c.loop-rest.words) _ _ c.in-len2-up.len_at_least (sym c.in-Some.ensures) in
    simp take_rest (ap (λ l. resumed l (words_of (drop 2 c.loop-rest.rest.now))) c.in_ok-push.ensures.items ∙ sym next ∙ c.loop-rest.invariant)

pub returns-in_default-word_from : goal.returns-in_default-word_from
returns-in_default-word_from c = sym (bad_word (vec_items c.loop-rest.words) _ c.in-len2-up.len_at_least (sym c.in_default-word_from.ensures)) ∙ c.loop-rest.invariant

pub returns-then-is_empty : goal.returns-then-is_empty
returns-then-is_empty c = sym (words_end _ _ (eqb-true _ 0 (sym c.if-is_empty.ensures))) ∙ c.loop-rest.invariant

pub returns-else-is_empty : goal.returns-else-is_empty
returns-else-is_empty c =
    let some = eqb-false (length c.loop-rest.rest.now) 0 (sym c.if-is_empty.ensures) in
    sym (word_half (vec_items c.loop-rest.words) c.loop-rest.rest.now (omega arith)) ∙ c.loop-rest.invariant
