use Rattle.expansion.proofs.Forming as forming
use Rattle.expansion.proofs.PlainMarks as plainly
use Rattle.expansion.proofs.laws.expansion_keeps_terms.Goals as goal

pub returns : goal.returns
returns c = record { formed = forming.formed; plain = plainly.plain_marks_off }
