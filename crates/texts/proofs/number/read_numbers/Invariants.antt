use Rattle.std.proofs.Common.{◌≡◌, length, drop, vec_items}
use Rattle.texts.specs.Texts.{numbers, pieces}
use Rattle.texts.proofs.Numbering.{resumed}
use Rattle.texts.proofs.number.read_numbers.Given as goal

abbrev pub invariant-loop-field : goal.invariant-loop-field
invariant-loop-field l = resumed (vec_items l.values) (numbers (drop (length l.yielded) (pieces 44 l.fields))) ≡ numbers (pieces 44 l.fields)
