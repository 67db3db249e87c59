-- What expands unexpands to itself.
use Rattle.std.proofs.Common.{◌≡◌, ℕ, ◌<◌, Bool, true, false, cond, eqb, List, Some, None, sym, refl, ap, ◌∙◌, arith}
use Rattle.std.proofs.lemmas.Bool.{lt-ltb, le-ltb, eq-eqb, eqb-true}
use Rattle.terms.specs.Trees.{Tree, Trees, atom, variable, body, head, form, none, more, count, WellMade, WellMadeAll, WellFormed}
use Rattle.lists.specs.Lines.{owned}
use Rattle.languages.proofs.Asked.{apart}
use Rattle.expansion.specs.Rules.{Rule, stands}
use Rattle.expansion.specs.Matches.{Numbered, matching, rule_at, lost, dropped, losses, value_of}
use Rattle.expansion.specs.Expansion.{instance, taken, expanded, expanded_all}
use Rattle.expansion.specs.Unexpansion.{cons_if, form_if, body_if, head_if, untaken, root_label, root_children, unexpanded, unexpanded_all, found}
use Rattle.expansion.specs.Offences.{offence, offences, offences_kept}
use Rattle.expansion.specs.Laws.{SoundRules, UnexpansionUndoesExpansion}
use Rattle.expansion.proofs.Taking.{matched, dropped-count, unowned_expands, owned_expands}
use Rattle.expansion.proofs.Finding.{found_root}
use Rattle.expansion.proofs.Refilling.{refills}
use Rattle.expansion.proofs.Offending.{body_quiet, head_quiet, QuietForm, unowned, takes_rule, form_quiet, more_quiet, kept_quiet}

module _ (k : ℕ) (rules : List Rule) where
  -- a body mark of a higher layer is kept
  body_back : (j : ℕ) (t : Tree) → k < j → unexpanded k rules (body j t) ≡ body_if j (unexpanded k rules t)
  unfolding unexpanded
  body_back j t h = rw (lt-ltb k j h, unexpanded) refl

  -- so is a head mark of a higher layer
  head_back : (j r : ℕ) (ds : Trees) (t : Tree) → k < j → unexpanded k rules (head j r ds t) ≡ head_if j r ds (unexpanded k rules t)
  unfolding unexpanded
  head_back j r ds t h = rw (lt-ltb k j h, unexpanded) refl

  -- and a form that the layer does not own
  form_back : (l : ℕ) (ts : Trees) → owned k l ≡ false → unexpanded k rules (form l ts) ≡ form_if l (unexpanded_all k rules ts)
  unfolding unexpanded
  form_back l ts h = rw (h, unexpanded) refl

  -- a head mark of the layer is matched with the rule of its number
  rule_back : (r : ℕ) (ds : Trees) (t : Tree) (rule : Rule) → rule_at r rules ≡ Some rule → count ds ≡ losses rule.right rule.arguments → unexpanded k rules (head k r ds t) ≡ untaken rule ds (found k rules t (root_label rule.right) (root_children rule.right))
  unfolding unexpanded
  rule_back r ds t rule at size = rw (le-ltb k k (omega arith), unexpanded) (rw (eq-eqb k k refl) (rw at (rw (eq-eqb (count ds) (losses rule.right rule.arguments) size) refl)))

  -- what a rule made of a form gives the form again, if each variable on the right does
  taken_back : SoundRules k rules → (l : ℕ) (ts : Trees) (m : Numbered) → matching 0 rules l ts ≡ Some m → ((n : ℕ) → stands n m.rule.right ≡ true → unexpanded k rules (value_of n m.rule.arguments (expanded_all k rules ts)) ≡ Some (value_of n m.rule.arguments ts)) → unexpanded k rules (taken k ts (expanded_all k rules ts) m) ≡ Some (form l ts)
  taken_back sound l ts m e back =
      let is = matched rules l ts m e in
      let rule = m.rule in
      let keeps = sound.each m.number rule is.0 in
      let ds = dropped rule.right rule.arguments ts in
      let f = found_root k rules rule.arguments ts (expanded_all k rules ts) rule.right keeps.root keeps.right back in
      let filled = refills rule.right f.0 rule.arguments ts keeps.arguments is.2 (λ n s r. f.2 n r) in
      rule_back m.number ds (instance k rule.arguments (expanded_all k rules ts) rule.right) rule is.0 (dropped-count rule.right rule.arguments ts is.2)
      ∙ ap (untaken rule ds) f.1
      ∙ ap (form_if rule.label) filled
      ∙ ap (λ n. Some (form n ts)) is.1

  -- a variable's value: the first child, if the first argument is the variable, or else one of the others
  value_back : (right a : Tree) (rest : Trees) (t : Tree) (ts : Trees) (n : ℕ) → stands n right ≡ true → (lost right a ≡ false → unexpanded k rules (expanded k rules t) ≡ Some t) → unexpanded k rules (value_of n rest (expanded_all k rules ts)) ≡ Some (value_of n rest ts) → unexpanded k rules (value_of n (more a rest) (more (expanded k rules t) (expanded_all k rules ts))) ≡ Some (value_of n (more a rest) (more t ts))
  unfolding value_of
  value_back right (atom v) rest t ts n s first others = others
  value_back right (variable m) rest t ts n s first others = by_test (eqb m n) refl
    where
      by_test : (b : Bool) → eqb m n ≡ b → unexpanded k rules (cond b (expanded k rules t) (value_of n rest (expanded_all k rules ts))) ≡ Some (cond b t (value_of n rest ts))
      by_test true e = first (ap (λ i. cond (stands i right) false true) (eqb-true m n e) ∙ ap (λ b. cond b false true) s)
      by_test false e = others
  value_back right (body j u) rest t ts n s first others = others
  value_back right (head j r ds u) rest t ts n s first others = others
  value_back right (form l us) rest t ts n s first others = others

  module _ (sound : SoundRules k rules) where
    -- a form that does not offend, if its children and its variables' values come back
    quiet_back : (l : ℕ) (ts : Trees) → (offences k rules ts ≡ None → unexpanded_all k rules (expanded_all k rules ts) ≡ Some ts) → ((right : Tree) (arguments : Trees) → offences_kept k rules right arguments ts ≡ None → (n : ℕ) → stands n right ≡ true → unexpanded k rules (value_of n arguments (expanded_all k rules ts)) ≡ Some (value_of n arguments ts)) → QuietForm k rules l ts → unexpanded k rules (expanded k rules (form l ts)) ≡ Some (form l ts)
    quiet_back l ts all values (unowned h e) =
        ap (unexpanded k rules) (unowned_expands k rules l ts h) ∙ form_back l (expanded_all k rules ts) h ∙ ap (form_if l) (all e)
    quiet_back l ts all values (takes_rule m h g e) =
        ap (unexpanded k rules) (owned_expands k rules l ts m h g) ∙ taken_back sound l ts m g (values m.rule.right m.rule.arguments e)

    mutual
      unfolding expanded unexpanded WellMade value_of

      -- a term in which nothing offends
      tree_back : (t : Tree) → WellFormed t → offence k rules t ≡ None → unexpanded k rules (expanded k rules t) ≡ Some t
      tree_back (atom v) f e = refl
      tree_back (variable n) f e = let z = f.0 in apart (cc)
      tree_back (body j t) f e =
          let quiet = body_quiet k rules j t e in
          body_back j (expanded k rules t) quiet.0 ∙ ap (body_if j) (tree_back t f.1 quiet.1)
      tree_back (head j r ds t) f e =
          let quiet = head_quiet k rules j r ds t e in
          head_back j r ds (expanded k rules t) quiet.0 ∙ ap (head_if j r ds) (tree_back t f.2 quiet.1)
      tree_back (form l ts) f e =
          quiet_back l ts (λ quiet. trees_back ts f.2 quiet) (λ right arguments quiet n s. values_back ts f.2 right arguments quiet n s) (form_quiet k rules l ts e)

      -- children none of which offends
      trees_back : (ts : Trees) → WellMadeAll ts false → offences k rules ts ≡ None → unexpanded_all k rules (expanded_all k rules ts) ≡ Some ts
      trees_back none f e = refl
      trees_back (more t ts) f e =
          let quiet = more_quiet k rules t ts e in
          ap (λ o. cons_if o (unexpanded_all k rules (expanded_all k rules ts))) (tree_back t f.0 quiet.0) ∙ ap (cons_if (Some t)) (trees_back ts f.1 quiet.1)

      -- the values of the variables that stand on the right
      values_back : (ts : Trees) → WellMadeAll ts false → (right : Tree) (arguments : Trees) → offences_kept k rules right arguments ts ≡ None → (n : ℕ) → stands n right ≡ true → unexpanded k rules (value_of n arguments (expanded_all k rules ts)) ≡ Some (value_of n arguments ts)
      values_back none f right none e n s = refl
      values_back none f right (more a rest) e n s = refl
      values_back (more t ts) f right none e n s = refl
      values_back (more t ts) f right (more a rest) e n s =
          let quiet = kept_quiet k rules right a rest t ts e in
          value_back right a rest t ts n s (λ h. tree_back t f.0 (quiet.0 h)) (values_back ts f.1 right rest quiet.1 n s)

-- the law
pub undoes : UnexpansionUndoesExpansion
undoes k rules t c sound expands = ap (unexpanded k rules) (sym expands.2) ∙ tree_back k rules sound t expands.0 expands.1
