use Rattle.expansion.proofs.FirstOffence.{first_found}
use Rattle.expansion.proofs.laws.the_first_offence_is_found.Goals as goal

pub returns : goal.returns
returns c = first_found
