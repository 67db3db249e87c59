use Rattle.std.proofs.Common.{Some, sym, ap, ◌∙◌, subst}
use Rattle.texts.specs.declared.text.Word.{Word}
use Rattle.texts.specs.Pieces.{Begins, line_means}
use Rattle.texts.proofs.Firsts.{short_line, is_head_lem, is_form, is_rule, is_table, table_said, table_at, table_none, no_word}
use Rattle.texts.proofs.text.field_of.Goals as goal

pub returns-in_err-word : goal.returns-in_err-word
returns-in_err-word c =
    ap line_means c.from_residual.ensures ∙ sym (short_line _ c.in_err-word.ensures.cases)

pub returns-in_err-first_word : goal.returns-in_err-first_word
returns-in_err-first_word c =
    let cut = c.in_ok-word.ensures.cases in
    ap line_means c.from_residual-in_err-first_word.ensures ∙ sym (no_word _ _ _ cut.0 cut.1 c.in_err-first_word.ensures)

pub returns-in-Head : goal.returns-in-Head
returns-in-Head c =
    let cut = c.in_ok-word.ensures.cases in
    let word = subst (λ (w : Word). Begins c.in_ok-word.word.now (Some w)) c.in-Head.is c.in_ok-first_word.ensures in
    sym (is_head_lem _ _ _ cut.0 cut.1 word)

pub returns-in-Form : goal.returns-in-Form
returns-in-Form c =
    let cut = c.in_ok-word.ensures.cases in
    let word = subst (λ (w : Word). Begins c.in_ok-word.word.now (Some w)) c.in-Form.is c.in_ok-first_word.ensures in
    sym (is_form _ _ _ cut.0 cut.1 word)

pub returns-in-Rule : goal.returns-in-Rule
returns-in-Rule c =
    let cut = c.in_ok-word.ensures.cases in
    let word = subst (λ (w : Word). Begins c.in_ok-word.word.now (Some w)) c.in-Rule.is c.in_ok-first_word.ensures in
    sym (is_rule _ _ _ cut.0 cut.1 word)

pub returns-in_err-behind_comma-in-Table : goal.returns-in_err-behind_comma-in-Table
returns-in_err-behind_comma-in-Table c =
    let cut = c.in_ok-word.ensures.cases in
    let word = subst (λ (w : Word). Begins c.in_ok-word.word.now (Some w)) c.in-Table.is c.in_ok-first_word.ensures in
    ap line_means c.from_residual-in_err-behind_comma-in-Table.ensures
    ∙ sym (is_table _ _ _ cut.0 cut.1 word ∙ ap table_said (sym c.in_err-behind_comma-in-Table.ensures) ∙ table_none)

pub returns-in_ok-behind_comma-in-Table : goal.returns-in_ok-behind_comma-in-Table
returns-in_ok-behind_comma-in-Table c =
    let cut = c.in_ok-word.ensures.cases in
    let word = subst (λ (w : Word). Begins c.in_ok-word.word.now (Some w)) c.in-Table.is c.in_ok-first_word.ensures in
    sym (is_table _ _ _ cut.0 cut.1 word ∙ ap table_said (sym c.in_ok-behind_comma-in-Table.ensures) ∙ table_at _)
