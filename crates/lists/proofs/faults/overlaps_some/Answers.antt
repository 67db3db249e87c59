use Rattle.std.proofs.Common.{rules, tests, ◌∙◌}
use Rattle.std.proofs.lemmas.Iterator.{YieldsList-from_slice}
use Rattle.std.proofs.lemmas.Iterator.Search.{any_from_yields_List}
use Rattle.lists.specs.Lines.{sides_of}
use Rattle.lists.specs.Sides.{overlapping}
use Rattle.lists.proofs.Faulting.{list_any-map}
use Rattle.lists.proofs.faults.overlaps_some.Goals as goal

pub returns : goal.returns
returns c =
    any_from_yields_List (λ o. overlapping (sides_of o).left (sides_of c.args.rule.now).left) c.any.new.self _ _ c.any.ensures.ran (YieldsList-from_slice c.args.others.now cc) (λ x b q k. search (rules, tests))
    ∙ list_any-map sides_of (λ o. overlapping o.left (sides_of c.args.rule.now).left) c.args.others.now
