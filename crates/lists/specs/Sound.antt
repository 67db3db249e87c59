-- What every list keeps, as tests.
use Rattle.std.specs.Prelude.{ℕ, Bool, true, not, ◌&&◌, List, [], ◌∷◌, ◌++◌, nat_le, nat_lt}
use Rattle.lists.specs.declared.parts.Form.{Form}
use Rattle.lists.specs.Lines.{Sides, owned}
use Rattle.std.specs.List.{list_all, list_any}
use Rattle.lists.specs.Sides.{shaped, linear, overlapping, is_for}

-- each label is owned by layer k and higher than the one before, and each count is at most 8
unfoldable pub rising_from : ℕ → ℕ → List Form → Bool
rising_from k before [] = true
rising_from k before (f ∷ fs) = (owned k f.label && nat_lt before f.label && nat_le f.count 8) && rising_from k f.label fs

abbrev pub rising : ℕ → List Form → Bool
rising k forms = rising_from k 0 forms

-- each rule's sides have their shape
abbrev pub all_shaped : ℕ → List Form → List Sides → Bool
all_shaped k forms rules = list_all (shaped k forms) rules

-- each rule's variables stand as they may
abbrev pub all_linear : List Sides → Bool
all_linear rules = list_all linear rules

-- no rule overlaps an earlier one
abbrev pub overlaps_some : List Sides → Sides → Bool
overlaps_some earlier s = list_any (λ e. overlapping e.left s.left) earlier

unfoldable pub none_overlap_from : List Sides → List Sides → Bool
none_overlap_from earlier [] = true
none_overlap_from earlier (s ∷ ss) = not (overlaps_some earlier s) && none_overlap_from (earlier ++ s ∷ []) ss

abbrev pub none_overlap : List Sides → Bool
none_overlap rules = none_overlap_from [] rules

-- each form has a rule
abbrev pub all_ruled : List Form → List Sides → Bool
all_ruled forms rules = list_all (λ f. list_any (is_for f) rules) forms
