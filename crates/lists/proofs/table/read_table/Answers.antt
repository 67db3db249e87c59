use Rattle.std.proofs.Common.{[], sym, ap, ◌∙◌, subst, inr}
use Rattle.std.proofs.lemmas.Bool.{ne_eqb, eqb-true, not-true, not-false, and_left, and_right}
use Rattle.texts.specs.Texts.{readings}
use Rattle.lists.specs.Lines.{Answers, judge_rules, all_sides}
use Rattle.lists.proofs.Judging.{no_table, bad_table, table_is, table_differs}
use Rattle.lists.proofs.table.read_table.Goals.{then-ne-via-then-ne, then-ne-via-else-ne+then-rules-head}
use Rattle.lists.proofs.table.read_table.Goals as goal

pub returns-in_default : goal.returns-in_default
returns-in_default c = inr (no_table _ _ c.in_default.ensures)

pub returns-in_default-2 : goal.returns-in_default-2
returns-in_default-2 c = inr (bad_table _ _ _ _ c.in-Some.ensures.0 (sym c.in_ok-declared.ensures ∙ c.in_default-2.is))

pub returns-then-ne : goal.returns-then-ne
returns-then-ne c =
    let has = sym c.in_ok-declared.ensures ∙ c.in-Some-2.is in
    inr (table_differs _ _ _ _ c.in-Some.ensures.0 _ _ has (elim c.then-ne.branch [
      | then-ne-via-then-ne w ↦ and_left _ _ (not-true _ (sym c.ne.ensures ∙ w.if-ne.true))
      | then-ne-via-else-ne+then-rules-head w ↦ and_right _ _ (ne_eqb _ _ w.if-rules-head.true)
    ]))

pub returns : goal.returns
returns c =
    let has = sym c.in_ok-declared.ensures ∙ c.in-Some-2.is in
    let same = eqb-true _ _ (not-false _ (sym c.ne.ensures ∙ c.if-ne.false)) in
    let is = table_is _ _ _ _ c.in-Some.ensures.0 _ _ has same c.if-rules-head.false ∙ ap (λ t. judge_rules [] c.args.head.now.rules (readings t)) (sym c.rest.ensures) in
    subst (λ s. Answers all_sides s c.read_lines.result) (sym is) c.read_lines.ensures
