use Rattle.std.proofs.Common.{[], vec_items, Ok, sym, ap, ◌∙◌, inl, inr, ⊎_elim}
use Rattle.std.proofs.lemmas.List.{map-id}
use Rattle.std.proofs.lemmas.Result.{err_from_is_err_and}
use Rattle.texts.specs.Texts.{readings}
use Rattle.lists.specs.Lines.{judge_forms, with_forms, declared_by}
use Rattle.lists.proofs.Judging.{no_header, bad_header, header_is, passed_on}
use Rattle.lists.proofs.header.read_header.Goals as goal

pub returns-in_default : goal.returns-in_default
returns-in_default c = inr (no_header _ c.in_default.ensures)

pub returns-in_default-2 : goal.returns-in_default-2
returns-in_default-2 c = inr (bad_header _ _ _ c.in-Some.ensures.0 (sym c.in_ok-head.ensures ∙ c.in_default-2.is))

pub returns-in_err-forms : goal.returns-in_err-forms
returns-in_err-forms c =
    let head = header_is _ _ _ c.in-Some.ensures.0 c.in-Some-2.head (sym c.in_ok-head.ensures ∙ c.in-Some-2.is) ∙ ap (λ t. with_forms c.in-Some-2.head (judge_forms c.in-Some-2.head.layer [] c.in-Some-2.head.forms (readings t))) (sym c.rest.ensures) in
    let p = err_from_is_err_and c.from_residual-in_err-forms.result c.from_residual-in_err-forms.ensures.1 in
    passed_on declared_by _ _ _ _ p.1 p.2 (⊎_elim inl (λ e. inr (head ∙ ap (with_forms c.in-Some-2.head) e)) c.in_err-forms.ensures)

pub returns : goal.returns
returns c =
    let head = header_is _ _ _ c.in-Some.ensures.0 c.in-Some-2.head (sym c.in_ok-head.ensures ∙ c.in-Some-2.is) ∙ ap (λ t. with_forms c.in-Some-2.head (judge_forms c.in-Some-2.head.layer [] c.in-Some-2.head.forms (readings t))) (sym c.rest.ensures) in
    head ∙ ap (with_forms c.in-Some-2.head) (c.in_ok-forms.ensures ∙ ap (λ l. Ok l) (map-id (vec_items c.in_ok-forms.forms)))
