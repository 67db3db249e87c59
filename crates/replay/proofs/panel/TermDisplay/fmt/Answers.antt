use Rattle.std.proofs.Common.{refl}
use Rattle.std.proofs.Output.{has_written_append, has_written_of_eq}
use Rattle.replay.proofs.Shown.{word_is, none_at_all, term_is}
use Rattle.replay.proofs.panel.TermDisplay.fmt.Goals as goal

pub returns-in_default-clause-writes : goal.returns-in_default-clause-writes
returns-in_default-clause-writes g c plain ok = none_at_all g.W.Write.write_str_gives c.args.f.now plain _ c.in_default.ensures.cases

pub returns-clause-writes : goal.returns-clause-writes
returns-clause-writes g c plain ok =
    let written = c.in_ok-write.ensures.writes plain refl in
    let first = has_written_of_eq g.W.Write.write_str_gives _ _ _ _ (word_is _ _ _ c.from-first.ensures.0 c.from-first.ensures.1) written in
    has_written_of_eq g.W.Write.write_str_gives _ _ _ _ (term_is _ _ _ c.in-Some.ensures.cases.0)
    (has_written_append g.W.Write.write_str_gives _ _ c.write.new.self _ _ first (c.write_behind.ensures first.plain ok))
