-- The three parts of the law, from `Marks`.
use Rattle.std.proofs.Common.{false}
use Rattle.terms.proofs.Marks.{bare_unmarked, bare_made, bare_same}
use Rattle.terms.proofs.laws.marks_come_off.Goals as goal

pub returns : goal.returns
returns c = (bare_unmarked, λ t h. bare_made t false h, bare_same)
