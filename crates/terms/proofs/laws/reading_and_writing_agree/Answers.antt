-- The three laws, from `Readings`.
use Rattle.terms.proofs.Readings.{reading, writing, one_term}
use Rattle.terms.proofs.laws.reading_and_writing_agree.Goals as goal

pub returns : goal.returns
returns c = record { reading = reading; writing = writing; one = one_term }
