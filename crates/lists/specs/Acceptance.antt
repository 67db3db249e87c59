-- Which two texts are accepted as a list, and which refusal the others get.
use Rattle.std.specs.Prelude.{ℕ, suc, Bool, true, false, cond, ◌&&◌, List, [], ◌∷◌, ◌++◌, length, Some, None, Ok, Err, Option, Result, nat_le}
use Rattle.std.specs.Option.{option_or}
use Rattle.lists.specs.declared.parts.Form.{Form}
use Rattle.lists.specs.declared.refusal.Refusal.{Refusal}
use Rattle.lists.specs.declared.refusal.Refusal.TheVariants.{TextTooLong, WrongShape, WrongVariables, Overlap, NoRule}
use Rattle.texts.specs.Texts.{readings}
use Rattle.lists.specs.Lines.{Sides, Declared, judge_header, judge_table}
use Rattle.std.specs.List.{list_any}
use Rattle.lists.specs.Sides.{shaped, linear, is_for}
use Rattle.lists.specs.Sound.{overlaps_some}

-- a list: its layer, its forms and the sides of its rules
pub record Listed : Type 0 where
  pub layer : ℕ
  pub forms : List Form
  pub rules : List Sides

-- a new list has layer 1, no form and no rule
abbrev pub blank : Listed
blank = record { layer = 1; forms = []; rules = [] }

-- the rules from rule i on, one by one: of one rule the shape, and then the variables
unfoldable pub side_fault : ℕ → List Form → ℕ → List Sides → Option Refusal
side_fault k forms i [] = None
side_fault k forms i (s ∷ ss) = cond (shaped k forms s) (cond (linear s) (side_fault k forms (suc i) ss) (Some (WrongVariables i))) (Some (WrongShape i))

-- the first rule that overlaps an earlier one
unfoldable pub overlap_fault : List Sides → List Sides → Option Refusal
overlap_fault earlier [] = None
overlap_fault earlier (s ∷ ss) = cond (overlaps_some earlier s) (Some (Overlap (length earlier))) (overlap_fault (earlier ++ s ∷ []) ss)

-- the first form, from form i on, without a rule
unfoldable pub form_fault : List Sides → ℕ → List Form → Option Refusal
form_fault rules i [] = None
form_fault rules i (f ∷ fs) = cond (list_any (is_for f) rules) (form_fault rules (suc i) fs) (Some (NoRule i))

-- what is wrong with a list whose lines are all in order: first in a rule's sides, then an overlap, then a form without a rule
unfoldable pub fault_in : Listed → Option Refusal
unfolding side_fault overlap_fault form_fault
fault_in l = option_or (option_or (side_fault l.layer l.forms 0 l.rules) (overlap_fault [] l.rules)) (form_fault l.rules 0 l.forms)

abbrev pub unless_fault : Listed → Option Refusal → Result Listed Refusal
unless_fault l None = Ok l
unless_fault l (Some e) = Err e

abbrev pub with_table : Declared → Result (List Sides) Refusal → Result Listed Refusal
with_table d (Err e) = Err e
with_table d (Ok rules) = let l : Listed = record { layer = d.head.layer; forms = d.forms; rules = rules } in unless_fault l (fault_in l)

abbrev pub with_header : List ℕ → Result Declared Refusal → Result Listed Refusal
with_header table (Err e) = Err e
with_header table (Ok d) = with_table d (judge_table d.head (readings table))

-- the texts have at most 16,384 bytes each
abbrev pub short_enough : List ℕ → List ℕ → Bool
short_enough header table = nat_le (length header) 16384 && nat_le (length table) 16384

-- the list that two texts are accepted as, or their refusal
unfoldable pub accepted : List ℕ → List ℕ → Result Listed Refusal
unfolding judge_header judge_table readings fault_in
accepted header table = elim (short_enough header table) [ false ↦ Err TextTooLong | true ↦ with_header table (judge_header (readings header)) ]
