use Rattle.std.proofs.Common.{rules, tests, ℕ, not, ◌∙◌}
use Rattle.std.proofs.lemmas.Iterator.{YieldsList-from_slice, YieldsList-from_zip}
use Rattle.std.proofs.lemmas.Iterator.Search.{all_from_yields_List}
use Rattle.lists.specs.Sides.{clash}
use Rattle.lists.proofs.Scanning.{agree-zip}
use Rattle.lists.proofs.sides.all_agree.Goals as goal

pub returns : goal.returns
returns c =
    all_from_yields_List (λ (p : ℕ × ℕ). not (clash p.0 p.1)) c.all.new.self _ _ c.all.ensures.ran
    (YieldsList-from_zip (YieldsList-from_slice c.args.these.now cc) (YieldsList-from_slice c.args.those.now cc))
    (λ x b q k. search (rules, tests))
    ∙ agree-zip _ _
