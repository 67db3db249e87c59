use Rattle.expansion.proofs.Undoing as undoing
use Rattle.expansion.proofs.Exact as exactly
use Rattle.expansion.proofs.OneTerm as once
use Rattle.expansion.proofs.laws.unexpansion_is_the_way_back.Goals as goal

pub returns : goal.returns
returns c = record { undoes = undoing.undoes; exact = exactly.exact; one = once.one_term }
