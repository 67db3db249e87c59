-- The numbers of each refusal, the effect of each answer of a step, and how answers are written.
use Rattle.std.specs.Prelude.{ℕ, List, ◌++◌, codes, decimal}
use Rattle.terms.specs.declared.fault.Fault.{Fault}
use Rattle.languages.specs.declared.refusal.Refusal.{Refusal}
use Rattle.languages.specs.declared.refusal.Refusal.TheVariants.{NotAbove, TooLong, NoTerm, LowMark, Unmatched, ExpansionTooLong, NoSuchForm, NothingHeld, ShortBuffer}
use Rattle.languages.specs.declared.answers.Loaded.{Loaded}
use Rattle.languages.specs.declared.answers.Stepped.{Stepped}
use Rattle.languages.specs.declared.answers.Stepped.TheVariants.{Moved, Ended, Stuck, Full}

abbrev fault : ℕ → ℕ → ℕ → Fault
fault cause layer place = record { cause = cause; layer = layer; place = place }

abbrev pub fault_of : Refusal → Fault
fault_of (NotAbove layer) = fault 20 layer 0
fault_of (TooLong layer most) = fault 21 layer most
fault_of (NoTerm layer place) = fault 22 layer place
fault_of (LowMark layer place) = fault 23 layer place
fault_of (Unmatched layer place) = fault 24 layer place
fault_of (ExpansionTooLong layer) = fault 25 layer 0
fault_of (NoSuchForm place) = fault 26 0 place
fault_of NothingHeld = fault 30 0 0
fault_of (ShortBuffer height length) = fault 31 height length

abbrev pub effect_of : Stepped → ℕ
effect_of (Moved effect) = effect
effect_of Ended = 0
effect_of Stuck = 0
effect_of Full = 0

abbrev pub loaded_text : Loaded → List ℕ
loaded_text l = codes "words " ++ (decimal l.words ++ (codes ", uses " ++ decimal l.uses))

abbrev pub stepped_text : Stepped → List ℕ
stepped_text (Moved effect) = codes "moved, effect " ++ decimal effect
stepped_text Ended = codes "ended"
stepped_text Stuck = codes "stuck"
stepped_text Full = codes "full"
