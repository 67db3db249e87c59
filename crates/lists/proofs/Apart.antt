-- Left sides that overlap, and rules of which no two do: the tests as statements, both ways.
use Rattle.std.proofs.Common.{◌≡◌, ℕ, zero, suc, ◌<◌, Bool, true, false, not, eqb, List, [], ◌∷◌, ◌++◌, length, get_or, sym, refl, ap, ◌∙◌, subst, ⊎_elim, arith}
use Rattle.std.specs.List.{ContainsAt, AllByRecursion}
use Rattle.std.proofs.ByRecursion.{has_append_left, has_push, has_push_cases}
use Rattle.std.proofs.lemmas.Bool.{and_parts, and_from, eq-eqb, eqb-true, both_ways, not-true, not_from_false, false≢true}
use Rattle.lists.specs.declared.parts.Form.{Form}
use Rattle.lists.specs.Lines.{Sides}
use Rattle.std.specs.List.{list_any}
use Rattle.lists.specs.Sides.{clash, agree, overlapping, form_word, is_for}
use Rattle.lists.specs.Sound.{overlaps_some, none_overlap_from, none_overlap, all_ruled}
use Rattle.lists.specs.Laws.{Overlaps, HasRule}
use Rattle.std.proofs.ByRecursion.{All-weaker}
use Rattle.lists.proofs.Quantified.{all_if_every, every_if_all, has_if_any, any_if_has, none_if_not_any, not_any_if_none}

-- no place with two different atoms
NoClash : List ℕ → List ℕ → Type 0
NoClash vs ws = (i : ℕ) → i < length vs → i < length ws → clash (get_or vs i 0) (get_or ws i 0) ≡ false

no_clash : (vs ws : List ℕ) → agree vs ws ≡ true → NoClash vs ws
unfolding agree NoClash
no_clash [] ws e i l m = absurd (omega arith)
no_clash (v ∷ vs) [] e i l m = absurd (omega arith)
no_clash (v ∷ vs) (w ∷ ws) e zero l m = not-true _ (and_parts (not (clash v w)) (agree vs ws) e).0
no_clash (v ∷ vs) (w ∷ ws) e (suc i) l m = no_clash vs ws (and_parts (not (clash v w)) (agree vs ws) e).1 i (omega arith) (omega arith)

agree_if : (vs ws : List ℕ) → NoClash vs ws → agree vs ws ≡ true
unfolding agree NoClash
agree_if [] ws p = refl
agree_if (v ∷ vs) [] p = refl
agree_if (v ∷ vs) (w ∷ ws) p = and_from _ _ (not_from_false _ (p 0 (omega arith) (omega arith))) (agree_if vs ws (λ i l m. p (suc i) (omega arith) (omega arith)))

overlaps : (left other : List ℕ) → overlapping left other ≡ true → Overlaps left other
unfolding NoClash
overlaps [] other e = absurd (false≢true e)
overlaps (v ∷ vs) [] e = absurd (false≢true e)
overlaps (v ∷ vs) (w ∷ ws) e =
    let p = and_parts (eqb v w) (agree vs ws) e in
    (v, vs, ws, refl, ap (λ x. x ∷ ws) (sym (eqb-true v w p.0)), no_clash vs ws p.1)

if_overlaps : (left other : List ℕ) → Overlaps left other → overlapping left other ≡ true
unfolding NoClash
if_overlaps left other o =
    (λ i. overlapping (o.3 i) (o.4 i)) ∙ and_from _ _ (eq-eqb o.0 o.0 refl) (agree_if o.1 o.2 o.5)

-- no rule of the first list overlaps one of the second
Cross : List Sides → List Sides → Type 0
Cross earlier ss = (e : Sides) (j : ℕ) (d : Sides) → ContainsAt earlier e → j < length ss → overlapping e.left (get_or ss j d).left ≡ false

Pairs : List Sides → Type 0
Pairs ss = (i j : ℕ) (d : Sides) → i < j → j < length ss → overlapping (get_or ss i d).left (get_or ss j d).left ≡ false

none_first : (earlier : List Sides) (s e : Sides) → overlaps_some earlier s ≡ false → ContainsAt earlier e → overlapping e.left s.left ≡ false
none_first earlier s e not_some has = by (overlapping e.left s.left) refl
  where
    by : (t : Bool) → overlapping e.left s.left ≡ t → t ≡ false
    by false is = refl
    by true is = absurd (none_if_not_any (λ x. overlapping x.left s.left) earlier e not_some has is)

none_overlap_lem : (earlier ss : List Sides) → none_overlap_from earlier ss ≡ true → Cross earlier ss × Pairs ss
unfolding none_overlap_from Cross Pairs
none_overlap_lem earlier [] e = ((λ x j d has l. absurd (omega arith)), (λ i j d lt l. absurd (omega arith)))
none_overlap_lem earlier (s ∷ ss) e =
    let p = and_parts (not (overlaps_some earlier s)) (none_overlap_from (earlier ++ s ∷ []) ss) e in
    let rest = none_overlap_lem (earlier ++ s ∷ []) ss p.1 in
    (cross (not-true _ p.0) rest.0, pairs rest.0 rest.1)
  where
    cross : overlaps_some earlier s ≡ false → Cross (earlier ++ s ∷ []) ss → Cross earlier (s ∷ ss)
    cross n r x zero d has l = none_first earlier s x n has
    cross n r x (suc j) d has l = r x j d (has_append_left earlier (s ∷ []) x has) (omega arith)

    pairs : Cross (earlier ++ s ∷ []) ss → Pairs ss → Pairs (s ∷ ss)
    pairs c r zero zero d lt l = absurd (omega arith)
    pairs c r zero (suc j) d lt l = c s j d (has_push earlier s) (omega arith)
    pairs c r (suc i) zero d lt l = absurd (omega arith)
    pairs c r (suc i) (suc j) d lt l = r i j d (omega arith) (omega arith)

if_none : (earlier ss : List Sides) → Cross earlier ss → Pairs ss → none_overlap_from earlier ss ≡ true
unfolding none_overlap_from Cross Pairs
if_none earlier [] c p = refl
if_none earlier (s ∷ ss) c p =
    and_from _ _
    (not_from_false _ (not_any_if_none (λ x. overlapping x.left s.left) earlier (λ x has is. both_ways (overlapping x.left s.left) (c x 0 s has (omega arith)) is)))
    (if_none (earlier ++ s ∷ []) ss
    (λ x j d has l. ⊎_elim (λ h. c x (suc j) d h (omega arith)) (λ is. subst (λ y. overlapping y.left (get_or ss j d).left ≡ false) is (p 0 (suc j) d (omega arith) (omega arith))) (has_push_cases earlier s x has))
    (λ i j d lt l. p (suc i) (suc j) d (omega arith) (omega arith)))

pub apart_if_none : (rules : List Sides) → none_overlap rules ≡ true → (i j : ℕ) (d : Sides) → i < j → j < length rules → Overlaps (get_or rules i d).left (get_or rules j d).left → ⊥
unfolding Pairs
apart_if_none rules e i j d lt l o = both_ways _ ((none_overlap_lem [] rules e).1 i j d lt l) (if_overlaps _ _ o)

pub none_if_apart : (rules : List Sides) → ((i j : ℕ) (d : Sides) → i < j → j < length rules → Overlaps (get_or rules i d).left (get_or rules j d).left → ⊥) → none_overlap rules ≡ true
unfolding Cross Pairs
none_if_apart rules p = if_none [] rules (λ e j d has l. absurd (omega (arith, has.1))) (λ i j d lt l. by (get_or rules i d).left (get_or rules j d).left (p i j d lt l))
  where
    by : (left other : List ℕ) → (Overlaps left other → ⊥) → overlapping left other ≡ false
    by left other n = by_test (overlapping left other) refl
      where
        by_test : (t : Bool) → overlapping left other ≡ t → t ≡ false
        by_test false e = refl
        by_test true e = absurd (n (overlaps left other e))

-- a rule for a form
for_form : (f : Form) (s : Sides) (left : List ℕ) → left ≡ s.left → elim left [ [] ↦ false | w ∷ ws ↦ eqb (form_word f) w ] ≡ true → (args : List ℕ) × (s.left ≡ form_word f ∷ args)
for_form f s [] is e = absurd (false≢true e)
for_form f s (w ∷ ws) is e = (ws, sym is ∙ ap (λ x. x ∷ ws) (sym (eqb-true (form_word f) w e)))

pub ruled_if : (forms : List Form) (rules : List Sides) → all_ruled forms rules ≡ true → AllByRecursion (HasRule rules) forms
ruled_if forms rules e = All-weaker _ _ (λ f is. let r = has_if_any (is_for f) rules is in let a = for_form f r.0 r.0.left refl r.2 in (r.0, a.0, r.1, a.1)) forms (all_if_every (λ f. list_any (is_for f) rules) forms e)

pub if_ruled : (forms : List Form) (rules : List Sides) → AllByRecursion (HasRule rules) forms → all_ruled forms rules ≡ true
if_ruled forms rules a =
    every_if_all (λ f. list_any (is_for f) rules) forms
    (All-weaker _ _ (λ f h. any_if_has (is_for f) rules h.0 h.2 (ap (λ left. elim left [ [] ↦ false | w ∷ ws ↦ eqb (form_word f) w ]) h.3 ∙ eq-eqb (form_word f) (form_word f) refl)) forms a)
