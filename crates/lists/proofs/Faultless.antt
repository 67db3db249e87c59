-- A list has no fault exactly when it passes the tests that every list passes.
use Rattle.std.proofs.Common.{◌≡◌, ℕ, suc, Bool, true, false, cond, not, List, [], ◌∷◌, ◌++◌, Some, None, Option, sym, refl}
use Rattle.std.proofs.lemmas.Option.{none-some}
use Rattle.std.specs.Option.{option_or}
use Rattle.std.proofs.lemmas.Bool.{and_parts, and_from, not_from_false, not-true}
use Rattle.lists.specs.declared.parts.Form.{Form}
use Rattle.lists.specs.declared.refusal.Refusal.{Refusal}
use Rattle.lists.specs.Lines.{Sides}
use Rattle.std.specs.List.{list_all, list_any}
use Rattle.lists.specs.Sides.{shaped, linear, is_for}
use Rattle.lists.specs.Sound.{all_shaped, all_linear, overlaps_some, none_overlap_from, none_overlap, all_ruled}
use Rattle.lists.specs.Acceptance.{Listed, side_fault, overlap_fault, form_fault, fault_in}

-- a fault comes unless the test passes, and then the rest decides
unless : (b : Bool) (o : Option Refusal) (e : Refusal) → cond b o (Some e) ≡ None → (b ≡ true) × (o ≡ None)
unless true o e p = (refl, p)
unless false o e p = absurd (none-some _ (sym p))

-- a fault comes if the test passes, and else the rest decides
if_not : (b : Bool) (o : Option Refusal) (e : Refusal) → cond b (Some e) o ≡ None → (b ≡ false) × (o ≡ None)
if_not true o e p = absurd (none-some _ (sym p))
if_not false o e p = (refl, p)

pub sides_faultless : (k : ℕ) (forms : List Form) (i : ℕ) (ss : List Sides) → side_fault k forms i ss ≡ None → (all_shaped k forms ss ≡ true) × (all_linear ss ≡ true)
unfolding side_fault
sides_faultless k forms i [] e = (refl, refl)
sides_faultless k forms i (s ∷ ss) e =
    let shape = unless _ _ _ e in
    let variables = unless _ _ _ shape.1 in
    let rest = sides_faultless k forms (suc i) ss variables.1 in
    (and_from _ _ shape.0 rest.0, and_from _ _ variables.0 rest.1)

pub faultless_sides : (k : ℕ) (forms : List Form) (i : ℕ) (ss : List Sides) → all_shaped k forms ss ≡ true → all_linear ss ≡ true → side_fault k forms i ss ≡ None
unfolding side_fault
faultless_sides k forms i [] a b = refl
faultless_sides k forms i (s ∷ ss) a b =
    let p = and_parts (shaped k forms s) (list_all (shaped k forms) ss) a in
    let q = and_parts (linear s) (list_all linear ss) b in
    rw (p.0, q.0) (faultless_sides k forms (suc i) ss p.1 q.1)

pub overlaps_faultless : (earlier ss : List Sides) → overlap_fault earlier ss ≡ None → none_overlap_from earlier ss ≡ true
unfolding overlap_fault none_overlap_from
overlaps_faultless earlier [] e = refl
overlaps_faultless earlier (s ∷ ss) e =
    let here = if_not _ _ _ e in
    and_from _ _ (not_from_false _ here.0) (overlaps_faultless (earlier ++ s ∷ []) ss here.1)

pub faultless_overlaps : (earlier ss : List Sides) → none_overlap_from earlier ss ≡ true → overlap_fault earlier ss ≡ None
unfolding overlap_fault none_overlap_from
faultless_overlaps earlier [] e = refl
faultless_overlaps earlier (s ∷ ss) e =
    let p = and_parts (not (overlaps_some earlier s)) (none_overlap_from (earlier ++ s ∷ []) ss) e in
    rw (not-true _ p.0) (faultless_overlaps (earlier ++ s ∷ []) ss p.1)

pub forms_faultless : (rules : List Sides) (i : ℕ) (fs : List Form) → form_fault rules i fs ≡ None → all_ruled fs rules ≡ true
unfolding form_fault
forms_faultless rules i [] e = refl
forms_faultless rules i (f ∷ fs) e =
    let here = unless _ _ _ e in
    and_from _ _ here.0 (forms_faultless rules (suc i) fs here.1)

pub faultless_forms : (rules : List Sides) (i : ℕ) (fs : List Form) → all_ruled fs rules ≡ true → form_fault rules i fs ≡ None
unfolding form_fault
faultless_forms rules i [] e = refl
faultless_forms rules i (f ∷ fs) e =
    let p = and_parts (list_any (is_for f) rules) (list_all (λ g. list_any (is_for g) rules) fs) e in
    rw p.0 (faultless_forms rules (suc i) fs p.1)

-- no fault in either place
neither : (o p : Option Refusal) → option_or o p ≡ None → (o ≡ None) × (p ≡ None)
neither None p e = (refl, e)
neither (Some x) p e = absurd (none-some _ (sym e))

pub record Faultless (l : Listed) : Type 0 where
  pub shaped : all_shaped l.layer l.forms l.rules ≡ true
  pub linear : all_linear l.rules ≡ true
  pub apart : none_overlap l.rules ≡ true
  pub ruled : all_ruled l.forms l.rules ≡ true

pub no_fault : (l : Listed) → fault_in l ≡ None → Faultless l
unfolding fault_in
no_fault l e =
    let all = neither (option_or (side_fault l.layer l.forms 0 l.rules) (overlap_fault [] l.rules)) (form_fault l.rules 0 l.forms) e in
    let two = neither (side_fault l.layer l.forms 0 l.rules) (overlap_fault [] l.rules) all.0 in
    let sides = sides_faultless l.layer l.forms 0 l.rules two.0 in
    record { shaped = sides.0; linear = sides.1; apart = overlaps_faultless [] l.rules two.1; ruled = forms_faultless l.rules 0 l.forms all.1 }

pub faultless : (l : Listed) → Faultless l → fault_in l ≡ None
unfolding fault_in
faultless l f =
    rw (faultless_sides l.layer l.forms 0 l.rules f.shaped f.linear, faultless_overlaps [] l.rules f.apart, faultless_forms l.rules 0 l.forms f.ruled)
