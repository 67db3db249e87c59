use Rattle.std.proofs.Common.{rules, tests, map, not, sym, ◌∙◌}
use Rattle.std.specs.List.{list_any}
use Rattle.std.proofs.lemmas.Iterator.{YieldsList-from_slice}
use Rattle.std.proofs.lemmas.Iterator.Search.{position_from_yields_List}
use Rattle.lists.specs.Lines.{sides_of}
use Rattle.lists.specs.Sides.{is_for}
use Rattle.lists.proofs.Faulting.{form_fault-position}
use Rattle.lists.proofs.faults.Draft.form_fault.Goals as goal

pub returns-in_err-i : goal.returns-in_err-i
returns-in_err-i c =
    let first = position_from_yields_List (λ f. not (list_any (is_for f) (map sides_of c.args.self.now.rules.now))) c.position.new.self _ _ c.position.ensures.ran (YieldsList-from_slice c.args.self.now.forms.now cc) (λ x b q k. search (rules, tests)) in
    c.from_residual.ensures ∙ sym (form_fault-position _ _ _ (sym first ∙ c.in_err-i.was))

pub returns : goal.returns
returns c =
    let first = position_from_yields_List (λ f. not (list_any (is_for f) (map sides_of c.args.self.now.rules.now))) c.position.new.self _ _ c.position.ensures.ran (YieldsList-from_slice c.args.self.now.forms.now cc) (λ x b q k. search (rules, tests)) in
    sym (form_fault-position _ _ _ (sym first ∙ c.in_ok-i.was))
