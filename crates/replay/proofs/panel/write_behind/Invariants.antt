use Rattle.std.proofs.Common.{take}
use Rattle.std.specs.Fmt.{IsPlainFormatter, HasWritten}
use Rattle.replay.specs.Panel.{behind_text}
use Rattle.replay.proofs.panel.write_behind.Given as goal

-- the words before the index have been written
abbrev pub invariant-loop-word : goal.invariant-loop-word
invariant-loop-word g l = IsPlainFormatter l.initial.f → HasWritten g.W.Write.write_str_gives l.initial.f (behind_text (take l.word-index l.words)) l.f
