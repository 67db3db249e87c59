use Rattle.texts.proofs.Cutting.{no_lines, next_line}
use Rattle.texts.proofs.text.cut_line.Goals as goal

pub returns : goal.returns
returns c = record { line = λ some. next_line _ c.cut.result some c.cut.ensures; none = λ empty. no_lines _ empty }
