-- What a place for a list holds, and what a call of acceptance answers and leaves there.
use Rattle.std.specs.Prelude.{◌≡◌, ℕ, ◌⊎◌, List, Ok, Err, vec_items, Result}
use Rattle.lists.specs.declared.list.RuleList.{RuleList}
use Rattle.lists.specs.declared.refusal.Refusal.{Refusal}
use Rattle.lists.specs.declared.refusal.Refusal.TheVariants.{NoMemory}
use Rattle.lists.specs.Lines.{all_sides}
use Rattle.lists.specs.Acceptance.{Listed, accepted}

abbrev pub listed_in : RuleList → Listed
listed_in l = record { layer = l.layer; forms = vec_items l.forms; rules = all_sides l.rules }

-- the place held `was` and holds `is`: an accepted list takes the place of the earlier one, and a refusal leaves the place as it was
abbrev pub Decided : List ℕ → List ℕ → RuleList → RuleList → Result (Unit {0}) Refusal → Type 0
Decided header table was is (Ok x) = accepted header table ≡ Ok (listed_in is)
Decided header table was is (Err e) = (is ≡ was) × ((e ≡ NoMemory) ⊎ (accepted header table ≡ Err e))
