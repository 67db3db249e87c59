-- The offence that is found is the first one.
use Rattle.std.proofs.Common.{◌≡◌, ℕ, ◌+◌, ◌<◌, ◌≤◌, Bool, true, false, leb, ◌⊎◌, List, length, Some, None, Option, refl, ap, ◌∙◌, subst, inl, inr, ⊎_elim, arith, length-append}
use Rattle.std.proofs.lemmas.Bool.{leb-true, leb-false}
use Rattle.terms.specs.Trees.{Tree, Trees, atom, variable, body, head, form, none, more, written, written_all}
use Rattle.lists.specs.Lines.{owned}
use Rattle.languages.proofs.Asked.{apart}
use Rattle.expansion.specs.Rules.{Rule}
use Rattle.expansion.specs.Matches.{Numbered, matching, lost}
use Rattle.expansion.specs.Offences.{Offence, mark, unmatched, moved, later, or_else, offence, offences, offences_kept, place_of, Offends, OffendsIn, OffendsKept}
use Rattle.expansion.specs.Laws.{FirstOffenceIsFound}

-- what was found is the first offence of those that P has, or P has none
abbrev FirstIn : (Offence → Type 0) → Option Offence → Type 0
FirstIn P None = (o : Offence) → P o → ⊥
FirstIn P (Some f) = P f × ((o : Offence) → P o → place_of f ≤ place_of o)

-- an offence that P has, seen from n words before
abbrev Later : (Offence → Type 0) → ℕ → Offence → Type 0
Later P n o = (f : Offence) × P f × (o ≡ moved n f)

-- an offence that is moved stands so many words further on
moved_place : (n : ℕ) (f : Offence) → place_of (moved n f) ≡ n + place_of f
moved_place n (mark place) = refl
moved_place n (unmatched place) = refl

-- where an offence seen from before stands
later_place : (P : Offence → Type 0) (n : ℕ) (o : Offence) (h : Later P n o) → place_of o ≡ n + place_of h.0
later_place P n o h = ap place_of h.2 ∙ moved_place n h.0

-- the first of some offences is the first of the same ones said otherwise
first_same : (P Q : Offence → Type 0) (o : Option Offence) → ((f : Offence) → P f → Q f) → ((f : Offence) → Q f → P f) → FirstIn P o → FirstIn Q o
first_same P Q None to back h = λ o q. h o (back o q)
first_same P Q (Some f) to back h = (to f h.0, λ o q. h.1 o (back o q))

-- the first stays the first when all are seen from before
first_later : (P : Offence → Type 0) (n : ℕ) (o : Option Offence) → FirstIn P o → FirstIn (Later P n) (later n o)
first_later P n None h = λ o l. h l.0 l.1
first_later P n (Some f) h = ((f, h.0, refl), λ o l. omega (arith, moved_place n f, later_place P n o l, h.1 l.0 l.1))

-- the first of two parts, where those of the first part stand before word n, and the second part begins there
first_either : (P Q : Offence → Type 0) (n : ℕ) (o p : Option Offence) → ((f : Offence) → P f → place_of f < n) → FirstIn P o → FirstIn Q p → FirstIn (λ f. P f ⊎ Later Q n f) (or_else o (later n p))
first_either P Q n None p below first second =
    first_same (Later Q n) (λ f. P f ⊎ Later Q n f) (later n p) (λ f l. inr l) (λ f. ⊎_elim (λ x. absurd (first f x)) (λ l. l)) (first_later Q n p second)
first_either P Q n (Some f) p below first second =
    (inl first.0, λ o. ⊎_elim (λ x. first.1 o x) (λ l. omega (arith, below f first.0, later_place Q n o l)))

-- a mark offends if its layer is k or lower, and otherwise what is inside may
abbrev AtMark : ℕ → ℕ → ℕ → (Offence → Type 0) → Offence → Type 0
AtMark j k n P o = ((j ≤ k) × (o ≡ mark 0)) ⊎ ((k < j) × Later P n o)

-- the first at a mark, by the mark's layer
first_mark : (j k n : ℕ) (P : Offence → Type 0) (o : Option Offence) → FirstIn P o → (b : Bool) → leb j k ≡ b → FirstIn (AtMark j k n P) (elim b [ true ↦ Some (mark 0) | false ↦ later n o ])
first_mark j k n P o first true e = (inl (leb-true j k e, refl), λ f h. omega arith)
first_mark j k n P o first false e =
    first_same (Later P n) (AtMark j k n P) (later n o) (λ f l. inr (leb-false j k e, l)) (λ f. ⊎_elim (λ x. absurd (omega (arith, leb-false j k e, x.0))) (λ y. y.1)) (first_later P n o first)

module _ (k : ℕ) (rules : List Rule) where
  mutual
    unfolding Offends written

    -- an offence stands inside its tree
    place_inside : (t : Tree) (o : Offence) → Offends k rules t o → place_of o < length (written t)
    place_inside (atom v) o h = absurd h
    place_inside (variable n) o h = absurd h
    place_inside (body j t) o (inl h) = omega (arith, ap place_of h.1)
    place_inside (body j t) o (inr h) = omega (arith, later_place (Offends k rules t) 1 o h.1, place_inside t h.1.0 h.1.1)
    place_inside (head j r ds t) o (inl h) = omega (arith, ap place_of h.1)
    place_inside (head j r ds t) o (inr h) =
        omega (arith, length-append (written_all ds) (written t), later_place (Offends k rules t) (1 + length (written_all ds)) o h.1, place_inside t h.1.0 h.1.1)
    place_inside (form l ts) o (inl h) = omega (arith, later_place (OffendsIn k rules ts) 1 o h.1, place_among ts h.1.0 h.1.1)
    place_inside (form l ts) o (inr (inl h)) = omega (arith, ap place_of h.2)
    place_inside (form l ts) o (inr (inr (h, (m, g, s)))) =
        omega (arith, later_place (OffendsKept k rules m.rule.right m.rule.arguments ts) 1 o s, place_kept m.rule.right m.rule.arguments ts s.0 s.1)

    -- an offence of some trees stands inside them
    place_among : (ts : Trees) (o : Offence) → OffendsIn k rules ts o → place_of o < length (written_all ts)
    place_among none o h = absurd h
    place_among (more t ts) o (inl h) = omega (arith, length-append (written t) (written_all ts), place_inside t o h)
    place_among (more t ts) o (inr h) =
        omega (arith, length-append (written t) (written_all ts), later_place (OffendsIn k rules ts) (length (written t)) o h, place_among ts h.0 h.1)

    -- so does one of the trees that a rule keeps
    place_kept : (right : Tree) (arguments ts : Trees) (o : Offence) → OffendsKept k rules right arguments ts o → place_of o < length (written_all ts)
    place_kept right none none o h = absurd h
    place_kept right (more a rest) none o h = absurd h
    place_kept right none (more t ts) o h = absurd h
    place_kept right (more a rest) (more t ts) o (inl h) = omega (arith, length-append (written t) (written_all ts), place_inside t o h.1)
    place_kept right (more a rest) (more t ts) o (inr h) =
        omega (arith, length-append (written t) (written_all ts), later_place (OffendsKept k rules right rest ts) (length (written t)) o h, place_kept right rest ts h.0 h.1)

  -- the first at a form, by whether the layer owns it and by the rule that matches
  first_form : (l : ℕ) (ts : Trees) → FirstIn (OffendsIn k rules ts) (offences k rules ts) → ((right : Tree) (arguments : Trees) → FirstIn (OffendsKept k rules right arguments ts) (offences_kept k rules right arguments ts)) → FirstIn (Offends k rules (form l ts)) (offence k rules (form l ts))
  unfolding offence Offends
  first_form l ts all kept = by_test (owned k l) refl (matching 0 rules l ts) refl
    where
      unowned_only : owned k l ≡ false → (f : Offence) → Offends k rules (form l ts) f → Later (OffendsIn k rules ts) 1 f
      unowned_only e f (inl h) = h.1
      unowned_only e f (inr (inl h)) = let z = h.0 in apart (cc)
      unowned_only e f (inr (inr h)) = let z = h.0 in apart (cc)

      kept_only : (m : Numbered) → owned k l ≡ true → matching 0 rules l ts ≡ Some m → (f : Offence) → Offends k rules (form l ts) f → Later (OffendsKept k rules m.rule.right m.rule.arguments ts) 1 f
      kept_only m e g f (inl h) = let z = h.0 in apart (cc)
      kept_only m e g f (inr (inl h)) = let z = h.1 in apart (cc)
      kept_only m e g f (inr (inr (h, (n, i, s)))) =
          let is : n ≡ m = cc in
          let P : Numbered → Type 0 = λ x. Later (OffendsKept k rules x.rule.right x.rule.arguments ts) 1 f in
          subst P is s

      by_test : (b : Bool) → owned k l ≡ b → (o : Option Numbered) → matching 0 rules l ts ≡ o → FirstIn (Offends k rules (form l ts)) (elim b [ false ↦ later 1 (offences k rules ts) | true ↦ elim o [ None ↦ Some (unmatched 0) | Some m ↦ later 1 (offences_kept k rules m.rule.right m.rule.arguments ts) ] ])
      by_test false e o g =
          first_same (Later (OffendsIn k rules ts) 1) (Offends k rules (form l ts)) (later 1 (offences k rules ts)) (λ f s. inl (e, s)) (unowned_only e) (first_later (OffendsIn k rules ts) 1 (offences k rules ts) all)
      by_test true e None g = (inr (inl (e, g, refl)), λ o h. omega arith)
      by_test true e (Some m) g =
          let right = m.rule.right in
          let arguments = m.rule.arguments in
          first_same (Later (OffendsKept k rules right arguments ts) 1) (Offends k rules (form l ts)) (later 1 (offences_kept k rules right arguments ts)) (λ f s. inr (inr (e, (m, g, s)))) (kept_only m e g) (first_later (OffendsKept k rules right arguments ts) 1 (offences_kept k rules right arguments ts) (kept right arguments))

  -- the first in a child, if the rule keeps it
  first_child : (right a t : Tree) → FirstIn (Offends k rules t) (offence k rules t) → (b : Bool) → lost right a ≡ b → FirstIn (λ o. (lost right a ≡ false) × Offends k rules t o) (elim b [ true ↦ None | false ↦ offence k rules t ])
  first_child right a t first true e = λ o h. let z = h.0 in apart (cc)
  first_child right a t first false e =
      first_same (Offends k rules t) (λ o. (lost right a ≡ false) × Offends k rules t o) (offence k rules t) (λ f x. (e, x)) (λ f x. x.1) first

  mutual
    unfolding offence Offends

    -- the first in a tree
    first_tree : (t : Tree) → FirstIn (Offends k rules t) (offence k rules t)
    first_tree (atom v) = λ o h. h
    first_tree (variable n) = λ o h. h
    first_tree (body j t) = first_mark j k 1 (Offends k rules t) (offence k rules t) (first_tree t) (leb j k) refl
    first_tree (head j r ds t) = first_mark j k (1 + length (written_all ds)) (Offends k rules t) (offence k rules t) (first_tree t) (leb j k) refl
    first_tree (form l ts) = first_form l ts (first_trees ts) (λ right arguments. first_kept right arguments ts)

    -- the first in some trees
    first_trees : (ts : Trees) → FirstIn (OffendsIn k rules ts) (offences k rules ts)
    first_trees none = λ o h. h
    first_trees (more t ts) = first_either (Offends k rules t) (OffendsIn k rules ts) (length (written t)) (offence k rules t) (offences k rules ts) (place_inside t) (first_tree t) (first_trees ts)

    -- the first in the trees that a rule keeps
    first_kept : (right : Tree) (arguments ts : Trees) → FirstIn (OffendsKept k rules right arguments ts) (offences_kept k rules right arguments ts)
    first_kept right none none = λ o h. h
    first_kept right (more a rest) none = λ o h. h
    first_kept right none (more t ts) = λ o h. h
    first_kept right (more a rest) (more t ts) =
        first_either (λ o. (lost right a ≡ false) × Offends k rules t o) (OffendsKept k rules right rest ts) (length (written t)) (elim (lost right a) [ true ↦ None | false ↦ offence k rules t ]) (offences_kept k rules right rest ts) (λ f x. place_inside t f x.1) (first_child right a t (first_tree t) (lost right a) refl) (first_kept right rest ts)

-- the law
pub first_found : FirstOffenceIsFound
first_found k rules t formed = opened (offence k rules t) (first_tree k rules t)
  where
    opened : (o : Option Offence) → FirstIn (Offends k rules t) o → elim o as (λ x. Type 0) [ None ↦ ((f : Offence) → Offends k rules t f → ⊥) | Some f ↦ Offends k rules t f × ((g : Offence) → Offends k rules t g → place_of f ≤ place_of g) ]
    opened None h = h
    opened (Some f) h = h
