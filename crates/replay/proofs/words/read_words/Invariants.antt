use denote.Text.{Utf8}
use denote.Shadow.{shadow}
use Rattle.std.proofs.Common.{length, vec_items}
use Rattle.replay.specs.Commands.{words_of}
use Rattle.replay.proofs.Reading.{Read}
use Rattle.replay.proofs.words.read_words.Given as goal

abbrev pub invariant-loop-first : goal.invariant-loop-first
invariant-loop-first l = shadow (Utf8 l.rest) × Read (words_of l.text) (words_of l.rest) (vec_items l.words)

abbrev pub decreases-loop-first : goal.decreases-loop-first
decreases-loop-first l = length (words_of l.rest)
