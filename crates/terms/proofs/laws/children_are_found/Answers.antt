use Rattle.terms.proofs.Children.{children_found}
use Rattle.terms.proofs.laws.children_are_found.Goals as goal

pub returns : goal.returns
returns c = children_found
