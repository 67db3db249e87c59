use Rattle.std.proofs.Common.{Some, sym, ap, ◌∙◌, rules}
use Rattle.replay.proofs.Reading.{read_more}
use Rattle.replay.proofs.words.read_words.Goals as goal

pub loop-first-preserved : goal.loop-first-preserved
loop-first-preserved c =
    (search rules, read_more _ _ _ _ _ _ _ c.loop-first.invariant.1 c.in-Some.ensures (sym (c.in-Ok.ensures.value ∙ ap Some (sym c.from.ensures))) c.in_ok-push.ensures.items)
