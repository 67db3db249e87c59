use Rattle.std.proofs.Common.{sym, ◌∙◌}
use Rattle.std.proofs.lemmas.Result.{IfOk-weaker}
use Rattle.lists.proofs.Lining.{line_has}
use Rattle.lists.proofs.header.line_numbers.Goals as goal

pub returns-in-Some : goal.returns-in-Some
returns-in-Some c =
    let has = line_has _ _ _ _ c.first_field.ensures c.in-Some.ensures in
    IfOk-weaker c.read_numbers.result _ _ (λ v e. e ∙ sym has) c.read_numbers.ensures

pub returns-in-None : goal.returns-in-None
returns-in-None c = sym (line_has _ _ _ _ c.first_field.ensures c.in-None.ensures)
