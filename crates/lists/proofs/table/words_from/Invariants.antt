use Rattle.std.proofs.Common.{◌≡◌, length, vec_items}
use Rattle.lists.specs.Lines.{words_of}
use Rattle.texts.proofs.Numbering.{resumed}
use Rattle.lists.proofs.table.words_from.Given as goal

abbrev pub invariant-loop-rest : goal.invariant-loop-rest
invariant-loop-rest l = resumed (vec_items l.words) (words_of l.rest) ≡ words_of l.fields

abbrev pub decreases-loop-rest : goal.decreases-loop-rest
decreases-loop-rest l = length l.rest
