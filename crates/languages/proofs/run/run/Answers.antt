-- The calls are made one by one, as `Running` says.
use Rattle.std.proofs.Common.{refl, ◌∙◌, arith}
use Rattle.std.proofs.lemmas.List.{nil_from_length}
use Rattle.languages.proofs.Running.{none_made, one_made, all_made}
use Rattle.languages.proofs.run.run.Goals as goal

pub loop-call-init : goal.loop-call-init
loop-call-init g c =
    let made = c.in_ok-answers.ensures in
    (none_made (g.L.Language.meaning c.args.language.now) _ _ _ _ refl made.items, refl, omega arith)

pub loop-call-preserved : goal.loop-call-preserved
loop-call-preserved g c =
    let next = c.in-Some.ensures.steps in
    let inv = c.loop-call.invariant in
    let made = c.make.ensures in
    (one_made _ _ _ _ _ _ inv.0 _ _ _ c.in-Some.call _ c.make.result inv.1 next.0 c.push_reserved.ensures.items made.answer, made.stays ∙ inv.1, omega arith)

pub returns : goal.returns
returns g c =
    let inv = c.loop-call.invariant in
    let last = c.in-None.ensures.steps in
    let rest = c.loop-call.call-iterator.rest in
    let ran = all_made _ _ _ _ _ _ inv.0 (g.met.L.Language.laws c.args.language.now) (nil_from_length rest.items (omega arith)) in
    record { promise = rw c.into_iter-call-iterator.ensures.into_iter_gives.0 at ran; stays = inv.1 }
