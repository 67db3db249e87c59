use Rattle.std.proofs.Common.{rules, tests, ◌∙◌}
use Rattle.std.proofs.lemmas.Iterator.{YieldsList-from_slice}
use Rattle.std.proofs.lemmas.Iterator.Search.{any_from_yields_List}
use Rattle.lists.specs.Lines.{sides_of}
use Rattle.lists.specs.Sides.{is_for}
use Rattle.lists.proofs.Faulting.{list_any-map}
use Rattle.lists.proofs.faults.has_rule.Goals as goal

pub returns : goal.returns
returns c =
    any_from_yields_List (λ r. is_for c.args.form (sides_of r)) c.any.new.self _ _ c.any.ensures.ran (YieldsList-from_slice c.args.rules.now cc) (λ x b q k. search (rules, tests))
    ∙ list_any-map sides_of (is_for c.args.form) c.args.rules.now
