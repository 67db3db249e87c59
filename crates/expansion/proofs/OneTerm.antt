-- No two terms have the same expansion.
use Rattle.expansion.specs.Laws.{OneTermAnExpansion}
use Rattle.expansion.proofs.Undoing.{undoes}

-- each of the two is what the expansion unexpands to
pub one_term : OneTermAnExpansion
one_term k rules t u c sound first second =
    let e = undoes k rules t c sound first in
    let f = undoes k rules u c sound second in
    cc
