-- With the marks off, the expansion of a term without marks is its plain expansion.
use Rattle.std.proofs.Common.{◌≡◌, ℕ, Bool, true, false, cond, List, Some, None, Option, sym, refl, ap, ◌∙◌}
use Rattle.terms.specs.Trees.{Tree, Trees, atom, variable, body, head, form, none, more, bare, bare_all, Unmarked, UnmarkedAll}
use Rattle.lists.specs.Lines.{owned}
use Rattle.expansion.specs.Rules.{Rule}
use Rattle.expansion.specs.Matches.{Numbered, matching, is_variable_of, value_of}
use Rattle.expansion.specs.Expansion.{instance, instances, plain_instance, plain_instances, taken_if, plain_taken_if, expanded, expanded_all, plain, plain_all}
use Rattle.expansion.specs.Laws.{Right, RightAll, SoundRules, MarksOffIsPlain}
use Rattle.expansion.proofs.Taking.{matched_from}

-- the value of a variable, with the marks off
bare_value : (n : ℕ) (arguments values : Trees) → bare (value_of n arguments values) ≡ value_of n arguments (bare_all values)
unfolding value_of bare
bare_value n none values = refl
bare_value n (more a rest) none = refl
bare_value n (more a rest) (more t ts) = by_test (is_variable_of n a) (bare_value n rest ts)
  where
    by_test : (b : Bool) → bare (value_of n rest ts) ≡ value_of n rest (bare_all ts) → bare (cond b t (value_of n rest ts)) ≡ cond b (bare t) (value_of n rest (bare_all ts))
    by_test true h = refl
    by_test false h = h

mutual
  unfolding instance plain_instance bare Right

  -- a right side filled in, with the marks off
  bare-instance : (k : ℕ) (arguments values : Trees) (u : Tree) → Right k u → bare (instance k arguments values u) ≡ plain_instance arguments (bare_all values) u
  bare-instance k arguments values (atom v) h = refl
  bare-instance k arguments values (variable n) h = bare_value n arguments values
  bare-instance k arguments values (body j u) h = absurd h
  bare-instance k arguments values (head j r ds u) h = absurd h
  bare-instance k arguments values (form l us) h = ap (form l) (bare-instances k arguments values us h.3)

  -- and its children
  bare-instances : (k : ℕ) (arguments values us : Trees) → RightAll k us → bare_all (instances k arguments values us) ≡ plain_instances arguments (bare_all values) us
  bare-instances k arguments values none h = refl
  bare-instances k arguments values (more u us) h =
      let one = bare-instance k arguments values u h.0 in
      let others = bare-instances k arguments values us h.1 in
      cc

mutual
  unfolding bare Unmarked

  -- a term without marks stays as it is
  bare_unmarked : (t : Tree) → Unmarked t → bare t ≡ t
  bare_unmarked (atom v) h = refl
  bare_unmarked (variable n) h = refl
  bare_unmarked (body j t) h = absurd h
  bare_unmarked (head j r ds t) h = absurd h
  bare_unmarked (form l ts) h = ap (form l) (all_unmarked ts h)

  -- and so do its children
  all_unmarked : (ts : Trees) → UnmarkedAll ts → bare_all ts ≡ ts
  all_unmarked none h = refl
  all_unmarked (more t ts) h =
      let one = bare_unmarked t h.0 in
      let others = all_unmarked ts h.1 in
      cc

module _ (k : ℕ) (rules : List Rule) (sound : SoundRules k rules) where
  -- an owned form takes its rule, or stays
  bare_taken : (l : ℕ) (ts : Trees) → UnmarkedAll ts → bare_all (expanded_all k rules ts) ≡ plain_all k rules ts → (o : Option Numbered) → matching 0 rules l ts ≡ o → bare (taken_if k l ts (expanded_all k rules ts) o) ≡ plain_taken_if l ts (plain_all k rules ts) o
  unfolding bare
  bare_taken l ts unmarked inside None e = ap (form l) (all_unmarked ts unmarked)
  bare_taken l ts unmarked inside (Some m) e =
      let is = matched_from 0 rules l ts m e in
      let rule = m.rule in
      bare-instance k rule.arguments (expanded_all k rules ts) rule.right (sound.each is.0 rule is.2).right
      ∙ ap (λ values. plain_instance rule.arguments values rule.right) inside

  -- a form, by whether the layer owns it
  bare-form : (l : ℕ) (ts : Trees) → UnmarkedAll ts → bare_all (expanded_all k rules ts) ≡ plain_all k rules ts → bare (expanded k rules (form l ts)) ≡ plain k rules (form l ts)
  unfolding expanded plain bare
  bare-form l ts unmarked inside = by_test (owned k l)
    where
      by_test : (b : Bool) → bare (elim b [ false ↦ form l (expanded_all k rules ts) | true ↦ taken_if k l ts (expanded_all k rules ts) (matching 0 rules l ts) ]) ≡ elim b [ false ↦ form l (plain_all k rules ts) | true ↦ plain_taken_if l ts (plain_all k rules ts) (matching 0 rules l ts) ]
      by_test false = ap (form l) inside
      by_test true = bare_taken l ts unmarked inside (matching 0 rules l ts) refl

  mutual
    unfolding expanded plain bare Unmarked

    -- a term without marks
    bare-expanded : (t : Tree) → Unmarked t → bare (expanded k rules t) ≡ plain k rules t
    bare-expanded (atom v) h = refl
    bare-expanded (variable n) h = refl
    bare-expanded (body j t) h = absurd h
    bare-expanded (head j r ds t) h = absurd h
    bare-expanded (form l ts) h = bare-form l ts h (bare-expanded_all ts h)

    -- and its children
    bare-expanded_all : (ts : Trees) → UnmarkedAll ts → bare_all (expanded_all k rules ts) ≡ plain_all k rules ts
    bare-expanded_all none h = refl
    bare-expanded_all (more t ts) h =
        let one = bare-expanded t h.0 in
        let others = bare-expanded_all ts h.1 in
        cc

-- with the marks off, the expansion of a term without marks is its plain expansion
pub plain_marks_off : MarksOffIsPlain
plain_marks_off k rules t c sound unmarked expands = ap bare (sym expands.2) ∙ bare-expanded k rules sound t unmarked
