use Rattle.texts.proofs.Spelt.{read_if_spelled, spelled_if_read}
use Rattle.texts.proofs.laws.lines_are_spelled.Goals as goal

pub returns : goal.returns
returns c = λ text rs unbroken. (spelled_if_read rs text unbroken, read_if_spelled rs text)
