use Rattle.std.proofs.Common.{ℕ, List, ◌++◌, codes, refl, ap}
use Rattle.std.proofs.Output.{has_written_append, has_written_of_eq}
use Rattle.replay.proofs.Shown.{word_is, none_behind, behind_next}
use Rattle.replay.proofs.panel.write_behind.Goals as goal

pub loop-word-init : goal.loop-word-init
loop-word-init g c plain = none_behind g.W.Write.write_str_gives c.args.f.now plain

pub loop-word-preserved : goal.loop-word-preserved
loop-word-preserved g c plain =
    has_written_of_eq g.W.Write.write_str_gives _ _ _ _ (behind_next _ _ c.loop-word-test.true)
    (has_written_append g.W.Write.write_str_gives _ _ c.loop-word.f _ _ (c.loop-word.invariant plain)
    (has_written_of_eq g.W.Write.write_str_gives _ _ _ _ (ap (λ (t : List ℕ). codes " " ++ t) (word_is _ _ _ c.from-word.ensures.0 c.from-word.ensures.1)) (c.in_ok-write.ensures.writes (c.loop-word.invariant plain).plain refl)))
