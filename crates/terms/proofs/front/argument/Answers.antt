-- The child that is answered: its bounds, and that it is the one at its place.
use Rattle.std.proofs.Common.{◌≡◌, ℕ, ◌+◌, ◌<◌, ◌≤◌, false, List, ◌∷◌, length, take, drop, Some, Ok, Err, Result, sym, ap, ◌∙◌, subst, one-add, arith, Bor}
use Rattle.std.proofs.lemmas.List.{length-drop, length-take-le, take_rest}
use Rattle.std.specs.Result.{result_ok}
use Rattle.terms.specs.declared.front.Broken.{Broken}
use Rattle.terms.specs.Fronts.{wants, ending, child_at}
use Rattle.terms.specs.Words.{node_of}
use Rattle.terms.specs.Laws.{Answered}
use Rattle.terms.proofs.Fillings.{ends_within}
use Rattle.terms.proofs.front.argument.Goals as goal
use Rattle.terms.proofs.front.argument.Goals.{In_ok-skipped}

-- the child that is answered
answered_some : (all : List ℕ) (i w : ℕ) (ws : List ℕ) (skipped size : ℕ) (r : Bor (List ℕ)) → all ≡ w ∷ ws → skipped ≤ length ws → size ≤ length (drop skipped ws) → child_at i (w ∷ ws) ≡ Some (record { place = 1 + skipped; length = size }) → r.now ≡ take size (drop skipped ws) → Answered all (child_at i all) (Some r)
answered_some all i w ws skipped size r is far within e now =
    let left = length-drop skipped ws in
    let front : drop (1 + skipped) (w ∷ ws) ≡ drop skipped ws = ap (λ n. drop n (w ∷ ws)) (one-add skipped) in
    subst (λ l. Answered l (child_at i l) (Some r)) (sym is)
    (subst (λ o. Answered (w ∷ ws) o (Some r)) (sym e)
    (now ∙ ap (take size) (sym front), ap length now ∙ length-take-le size (drop skipped ws) within, omega arith))

-- where child i stands, by the end of the terms before it and its own
child_is : (i w n : ℕ) (ws : List ℕ) (skipped size : ℕ) → Some n ≡ wants false (node_of w) → i < n → ending false i ws ≡ Ok skipped → ending false 1 (drop skipped ws) ≡ Ok size → child_at i (w ∷ ws) ≡ Some (record { place = 1 + skipped; length = size })
child_is i w n ws skipped size has within before ended = grind arith

-- a result whose value is known is that value
ok_told : (r : Result ℕ Broken) (n : ℕ) → Some n ≡ result_ok r → r ≡ Ok n
ok_told (Ok m) n e = cc
ok_told (Err b) n e = cc

-- the terms before the child end within the words behind the first
skips : (c : In_ok-skipped) → c.in_ok-skipped.skipped ≤ length c.in_ok-word.behind.now
skips c =
    let ended : ending false c.args.i c.in_ok-word.behind.now ≡ Ok c.in_ok-skipped.skipped = grind arith in
    ends_within false c.args.i c.in_ok-word.behind.now c.in_ok-skipped.skipped ended

pub offset_bounds-behind-skipped : goal.offset_bounds-behind-skipped
offset_bounds-behind-skipped c = omega (arith, skips c, c.in_ok-word.ensures.cases.1)

pub slice_bounds-child-count : goal.slice_bounds-child-count
slice_bounds-child-count c = skips c

pub slice_bounds-child-start : goal.slice_bounds-child-start
slice_bounds-child-start c = skips c

pub returns : goal.returns
returns c =
    let w = c.in_ok-word.word.now in
    let ws = c.in_ok-word.behind.now in
    let skipped = c.in_ok-skipped.skipped in
    let size = c.in_ok-size.size in
    let rest = take_rest ws skipped in
    let before : ending false c.args.i ws ≡ Ok skipped = sym c.trees_end.ensures.value ∙ ok_told c.trees_end.result skipped c.in_ok-skipped.ensures.value in
    let told : c.end.result ≡ Ok size = ok_told (c.end.result) size c.in_ok-size.ensures.value in
    let ended : ending false 1 (drop skipped ws) ≡ Ok size = ap (ending false 1) (sym rest) ∙ sym c.end.ensures.value ∙ told in
    let child : child_at c.args.i (w ∷ ws) ≡ Some (record { place = 1 + skipped; length = size }) = child_is _ w _ ws skipped size c.in_ok-wanted_by.ensures (omega arith) before ended in
    let within = ends_within false 1 (drop skipped ws) size ended in
    answered_some _ c.args.i w ws skipped size _ c.in_ok-word.ensures.cases.0 (skips (goal.at.returns c).In_ok-skipped) within child (ap (take size) rest)
