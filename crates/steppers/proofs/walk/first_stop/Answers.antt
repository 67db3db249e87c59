-- The turns and the exits of the loop.
use Rattle.std.proofs.Common.{◌≡◌, ◌+◌, ◌≤◌, false, length, drop, Ok, sym, ap, ◌∙◌, arith}
use Rattle.std.proofs.lemmas.List.{take_rest}
use Rattle.terms.specs.Fronts.{ending}
use Rattle.steppers.specs.Walks.{begins, goes_on, over, broken}
use Rattle.steppers.proofs.Beginnings.{skip_within}
use Rattle.steppers.proofs.walk.first_stop.Given as given
use Rattle.steppers.proofs.walk.first_stop.Goals as goal

pub loop-at-init : goal.loop-at-init
loop-at-init g c = (omega arith, begins)

pub returns-in_default-skip : goal.returns-in_default-skip
returns-in_default-skip g c =
    let rest = take_rest c.args.words.now (c.loop-at.at + 1) in
    broken c.loop-at.at c.in-Some.behind c.in_default-skip.field-0 c.loop-at.invariant.1 c.loop-at-test.true c.in-Some.ensures (ap (ending false c.in-Some.behind) (sym rest) ∙ sym c.in_default-skip.ensures)

-- behind the word the terms that go with it end, within the words
skips : (g : given.Over) (c : goal.In-Ok g) → (ending false c.in-Some.behind (drop (c.loop-at.at + 1) c.args.words.now) ≡ Ok c.in-Ok.size) × (c.loop-at.at + (1 + c.in-Ok.size) ≤ length c.args.words.now)
skips g c =
    skip_within c.args.words.now c.loop-at.at c.in-Some.behind c.in-Ok.size c.loop-at-test.true c.in-Ok.ensures

pub overflow_add-at-in-loop-at : goal.overflow_add-at-in-loop-at
overflow_add-at-in-loop-at g c = omega (arith, (skips g c).1)

pub overflow_add-at-in-loop-at-2 : goal.overflow_add-at-in-loop-at-2
overflow_add-at-in-loop-at-2 g c = omega (arith, (skips g c).1)

pub loop-at-preserved : goal.loop-at-preserved
loop-at-preserved g c =
    ((skips g c).1, goes_on c.loop-at.at c.in-Some.behind c.in-Ok.size c.loop-at.invariant.1 c.loop-at-test.true c.in-Some.ensures (skips g c).0)

pub returns : goal.returns
returns g c = over c.loop-at.at c.loop-at.invariant.1 c.loop-at-test.false
