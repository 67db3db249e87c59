-- The turns and the exits of the loop, by `Turns`; of one tree, what the answer means.
use Rattle.std.proofs.Common.{◌≡◌, ℕ, ◌-◌, Bool, List, length, get_or, Some, Ok, Err, Result, sym, ap, ◌∙◌, arith}
use Rattle.terms.specs.declared.front.Broken.{Broken}
use Rattle.terms.specs.Fronts.{ending}
use Rattle.terms.specs.Laws.{Ends}
use Rattle.terms.proofs.Verdicts.{ends}
use Rattle.terms.proofs.Turns.{later_none, none_wanted, words_over, word_broken, word_stands, wants_few}
use Rattle.terms.proofs.front.trees_end.Goals as goal

pub loop-i-init : goal.loop-i-init
loop-i-init c = (later_none _, omega arith)

-- of one tree, the answer is where it ends
ends_if_one : (v : Bool) (k : ℕ) (ws : List ℕ) (r : Result ℕ Broken) → r ≡ ending v k ws → k ≡ 1 → Ends v ws r
ends_if_one v k ws r e one = ends v ws r (ap (λ n. ending v n ws) (sym one) ∙ sym e)

pub returns-then-wanted-eq0 : goal.returns-then-wanted-eq0
returns-then-wanted-eq0 c =
    let value = none_wanted _ _ _ _ _ c.if-wanted-eq0.true c.loop-i.invariant.0 in
    record { value = value; law = ends_if_one _ _ _ _ value }

pub returns-in_default : goal.returns-in_default
returns-in_default c =
    let value = word_broken _ _ _ _ c.loop-i.wanted (c.loop-i.wanted - 1) (omega arith) c.loop-i-test.true (sym c.in_default.ensures) c.loop-i.invariant.0 in
    record { value = value; law = ends_if_one _ _ _ _ value }

pub loop-i-preserved : goal.loop-i-preserved
loop-i-preserved c =
    let wants = sym c.in-Some.ensures ∙ ap Some (sym c.from.ensures) in
    let few = wants_few c.args.variables (get_or c.args.words.now c.loop-i.i 0) c.from.result wants in
    (word_stands _ _ _ _ c.loop-i.wanted (c.loop-i.wanted - 1) _ (omega arith) c.loop-i-test.true wants c.loop-i.invariant.0, omega arith)

-- behind the loop, its place is the run's length
pub returns-then-wanted-eq0-2 : goal.returns-then-wanted-eq0-2
returns-then-wanted-eq0-2 c =
    let all : length c.args.words.now ≡ c.loop-i.i = omega arith in
    let value = ap Ok all ∙ none_wanted _ _ _ _ _ c.if-wanted-eq0-2.true c.loop-i.invariant.0 in
    record { value = value; law = ends_if_one _ _ _ _ value }

pub returns-else-wanted-eq0-2 : goal.returns-else-wanted-eq0-2
returns-else-wanted-eq0-2 c =
    let all : length c.args.words.now ≡ c.loop-i.i = omega arith in
    let value = (λ j. Err (record { place = all j })) ∙ words_over _ _ _ _ c.loop-i.wanted (c.loop-i.wanted - 1) (omega arith) c.loop-i-test.false c.loop-i.invariant.0 in
    record { value = value; law = ends_if_one _ _ _ _ value }
