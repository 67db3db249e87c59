-- What a verdict on the two texts of a list says.
use Rattle.std.specs.Prelude.{◌≡◌, ℕ, List, length, Ok, Err, Result}
use Rattle.lists.specs.declared.list.RuleList.{RuleList}
use Rattle.lists.specs.Acceptance.{Listed}
use Rattle.lists.specs.Held.{listed_in, Decided}
use Rattle.replay.specs.declared.verdict.Summary.{Summary}
use Rattle.lists.specs.declared.refusal.Refusal.{Refusal}

abbrev pub summary_of : Listed → Summary
summary_of l = record { layer = l.layer; forms = length l.forms; rules = length l.rules }

-- the verdict on a header and a table, for a place that held `was` and holds `is`: an accepted list is the one that is then in force
abbrev pub Judged : List ℕ → List ℕ → RuleList → RuleList → Result Summary Refusal → Type 0
Judged header table was is (Ok s) = Decided header table was is (Ok tt) × (s ≡ summary_of (listed_in is))
Judged header table was is (Err e) = Decided header table was is (Err e)
