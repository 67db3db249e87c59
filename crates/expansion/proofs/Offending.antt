-- What it says of a term's parts that nothing in the term offends.
use Rattle.std.proofs.Common.{◌≡◌, ℕ, ◌+◌, ◌<◌, Bool, true, false, leb, List, length, Some, None, Option, sym, refl, ◌∙◌}
use Rattle.std.proofs.lemmas.Bool.{leb-false}
use Rattle.terms.specs.Trees.{Tree, Trees, body, head, form, more, written, written_all}
use Rattle.lists.specs.Lines.{owned}
use Rattle.languages.proofs.Asked.{apart}
use Rattle.expansion.specs.Rules.{Rule}
use Rattle.expansion.specs.Matches.{Numbered, matching, lost}
use Rattle.expansion.specs.Offences.{Offence, mark, unmatched, later, or_else, offence, offences, offences_kept}

-- without an offence seen from further on there is none
none_later : (n : ℕ) (o : Option Offence) → later n o ≡ None → o ≡ None
none_later n None e = refl
none_later n (Some (mark place)) e = apart (cc)
none_later n (Some (unmatched place)) e = apart (cc)

-- without an offence in either there is none in both
none_either : (o p : Option Offence) → or_else o p ≡ None → (o ≡ None) × (p ≡ None)
none_either None p e = (refl, e)
none_either (Some f) p e = apart (cc)

-- at a mark, by whether its layer is k or lower
abbrev at_mark : ℕ → Option Offence → Bool → Option Offence
at_mark n o true = Some (mark 0)
at_mark n o false = later n o

-- a mark that does not offend is of a higher layer
none_mark : (j k n : ℕ) (o : Option Offence) → at_mark n o (leb j k) ≡ None → (k < j) × (o ≡ None)
none_mark j k n o e = by_test (leb j k) refl e
  where
    by_test : (b : Bool) → leb j k ≡ b → at_mark n o b ≡ None → (k < j) × (o ≡ None)
    by_test true h f = apart (cc)
    by_test false h f = (leb-false j k h, none_later n o f)

module _ (k : ℕ) (rules : List Rule) where
  -- nor does anything inside a body mark that does not offend
  pub body_quiet : (j : ℕ) (t : Tree) → offence k rules (body j t) ≡ None → (k < j) × (offence k rules t ≡ None)
  unfolding offence
  body_quiet j t e = none_mark j k 1 (offence k rules t) (same (leb j k) ∙ e)
    where
      same : (b : Bool) → at_mark 1 (offence k rules t) b ≡ elim b [ true ↦ Some (mark 0) | false ↦ later 1 (offence k rules t) ]
      same true = refl
      same false = refl

  -- nor inside a head mark
  pub head_quiet : (j r : ℕ) (ds : Trees) (t : Tree) → offence k rules (head j r ds t) ≡ None → (k < j) × (offence k rules t ≡ None)
  unfolding offence
  head_quiet j r ds t e = none_mark j k n (offence k rules t) (same (leb j k) ∙ e)
    where
      n : ℕ
      n = 1 + length (written_all ds)

      same : (b : Bool) → at_mark n (offence k rules t) b ≡ elim b [ true ↦ Some (mark 0) | false ↦ later n (offence k rules t) ]
      same true = refl
      same false = refl

  -- at an owned form, by the rule that matches
  abbrev owned_offence : Trees → Option Numbered → Option Offence
  owned_offence ts None = Some (unmatched 0)
  owned_offence ts (Some m) = later 1 (offences_kept k rules m.rule.right m.rule.arguments ts)

  -- at a form, by whether the layer owns it
  abbrev form_offence : Trees → Bool → Option Numbered → Option Offence
  form_offence ts false o = later 1 (offences k rules ts)
  form_offence ts true o = owned_offence ts o

  -- that is a form's offence
  form-offence : (l : ℕ) (ts : Trees) → offence k rules (form l ts) ≡ form_offence ts (owned k l) (matching 0 rules l ts)
  unfolding offence
  form-offence l ts = same (owned k l)
    where
      inner : (o : Option Numbered) → elim o [ None ↦ Some (unmatched 0) | Some m ↦ later 1 (offences_kept k rules m.rule.right m.rule.arguments ts) ] ≡ owned_offence ts o
      inner None = refl
      inner (Some m) = refl

      same : (b : Bool) → elim b [ false ↦ later 1 (offences k rules ts) | true ↦ elim (matching 0 rules l ts) [ None ↦ Some (unmatched 0) | Some m ↦ later 1 (offences_kept k rules m.rule.right m.rule.arguments ts) ] ] ≡ form_offence ts b (matching 0 rules l ts)
      same false = refl
      same true = inner (matching 0 rules l ts)

  -- a form that does not offend: the layer does not own it and no child offends, or a rule matches and no child offends that the rule keeps
  pub data QuietForm (l : ℕ) (ts : Trees) : Type 0 where
    unowned : owned k l ≡ false → offences k rules ts ≡ None → QuietForm l ts
    takes_rule : (m : Numbered) → owned k l ≡ true → matching 0 rules l ts ≡ Some m → offences_kept k rules m.rule.right m.rule.arguments ts ≡ None → QuietForm l ts

  -- which of the two it is
  pub form_quiet : (l : ℕ) (ts : Trees) → offence k rules (form l ts) ≡ None → QuietForm l ts
  form_quiet l ts e = by_test (owned k l) refl (matching 0 rules l ts) refl (sym (form-offence l ts) ∙ e)
    where
      by_test : (b : Bool) → owned k l ≡ b → (o : Option Numbered) → matching 0 rules l ts ≡ o → form_offence ts b o ≡ None → QuietForm l ts
      by_test false h o g f = unowned h (none_later 1 (offences k rules ts) f)
      by_test true h None g f = apart (cc)
      by_test true h (Some m) g f = takes_rule m h g (none_later 1 (offences_kept k rules m.rule.right m.rule.arguments ts) f)

  -- of children none of which offends, the first does not, and none of the others
  pub more_quiet : (t : Tree) (ts : Trees) → offences k rules (more t ts) ≡ None → (offence k rules t ≡ None) × (offences k rules ts ≡ None)
  unfolding offences
  more_quiet t ts e =
      let both = none_either (offence k rules t) (later (length (written t)) (offences k rules ts)) e in
      (both.0, none_later (length (written t)) (offences k rules ts) both.1)

  -- the same of children that a rule keeps
  pub kept_quiet : (right a : Tree) (rest : Trees) (t : Tree) (ts : Trees) → offences_kept k rules right (more a rest) (more t ts) ≡ None → (lost right a ≡ false → offence k rules t ≡ None) × (offences_kept k rules right rest ts ≡ None)
  unfolding offences
  kept_quiet right a rest t ts e =
      let both = none_either (elim (lost right a) [ true ↦ None | false ↦ offence k rules t ]) (later (length (written t)) (offences_kept k rules right rest ts)) e in
      (λ h. by_test (lost right a) h both.0, none_later (length (written t)) (offences_kept k rules right rest ts) both.1)
    where
      by_test : (b : Bool) → b ≡ false → ◌≡◌ {A = Option Offence} (elim b [ true ↦ None | false ↦ offence k rules t ]) None → offence k rules t ≡ None
      by_test true h f = apart (cc)
      by_test false h f = f
