use Rattle.std.proofs.Common.{sym, ◌∙◌}
use Rattle.std.proofs.lemmas.List.{take_rest}
use Rattle.lists.proofs.Scanning.{once_stops, once_goes, once_end}
use Rattle.lists.proofs.sides.once_each.Goals as goal

pub returns-then-is_repeated : goal.returns-then-is_repeated
returns-then-is_repeated c =
    let again = simp take_rest at (sym c.if-is_repeated.ensures) in
    sym (once_stops _ _ c.loop-i-test.true again) ∙ c.loop-i.invariant

pub loop-i-preserved : goal.loop-i-preserved
loop-i-preserved c =
    let again = simp take_rest at (sym c.if-is_repeated.ensures) in
    once_goes _ _ c.loop-i-test.true again ∙ c.loop-i.invariant

pub returns : goal.returns
returns c = sym (once_end _ _ c.loop-i-test.false) ∙ c.loop-i.invariant
