-- The numbers of each refusal: cause, layer and place.
use Rattle.std.specs.Prelude.{ℕ, ◌+◌}
use Rattle.terms.specs.declared.fault.Fault.{Fault}
use Rattle.lists.specs.declared.refusal.Place.{Place}
use Rattle.lists.specs.declared.refusal.Place.TheVariants.{Head, Form, Table, Rule}
use Rattle.lists.specs.declared.refusal.Refusal.{Refusal}
use Rattle.lists.specs.declared.refusal.Refusal.TheVariants.{TextTooLong, LineBroken, LineMissing, LineExtra, TableDiffers, WrongShape, WrongVariables, Overlap, NoRule, NoMemory}

-- lines count from 1, and those of the table from 1,001; the first line is followed by one line for each form or rule
abbrev pub place_of : Place → ℕ
place_of Head = 1
place_of (Form i) = 2 + i
place_of Table = 1001
place_of (Rule i) = 1002 + i

abbrev pub fault : ℕ → ℕ → Fault
fault cause place = record { cause = cause; layer = 9; place = place }

abbrev pub fault_of : Refusal → Fault
fault_of TextTooLong = fault 10 0
fault_of (LineBroken line) = fault 11 (place_of line)
fault_of (LineMissing line) = fault 12 (place_of line)
fault_of (LineExtra line) = fault 12 (place_of line)
fault_of TableDiffers = fault 12 (place_of Table)
fault_of (WrongShape rule) = fault 13 (place_of (Rule rule))
fault_of (WrongVariables rule) = fault 14 (place_of (Rule rule))
fault_of (Overlap rule) = fault 15 (place_of (Rule rule))
fault_of (NoRule form) = fault 16 (place_of (Form form))
fault_of NoMemory = fault 19 0
