-- Which rule a form takes, what the rule drops, and what the form expands to.
use Rattle.std.proofs.Common.{◌≡◌, ℕ, suc, ◌+◌, Bool, true, false, cond, eqb, List, [], ◌∷◌, Some, Option, sym, refl, ap, ◌∙◌, subst, arith}
use Rattle.std.proofs.lemmas.Bool.{and_parts, eqb-true}
use Rattle.terms.specs.Trees.{Tree, Trees, atom, variable, body, head, form, none, more, count}
use Rattle.lists.specs.Lines.{owned}
use Rattle.languages.proofs.Asked.{apart}
use Rattle.expansion.specs.Rules.{Rule}
use Rattle.expansion.specs.Matches.{Numbered, is_number, takes, takes_all, fits, matching, rule_at, lost, dropped, losses}
use Rattle.expansion.specs.Expansion.{taken, taken_if, expanded, expanded_all}

-- the rule found from number n on stands i places further, and it matches
abbrev pub Matched : ℕ → List Rule → ℕ → Trees → Numbered → Type 0
Matched n rules l ts m = (i : ℕ) × (m.number ≡ n + i) × (rule_at i rules ≡ Some m.rule) × (fits m.rule l ts ≡ true)

-- at one rule of the list, by whether it matches
matched_one : (n : ℕ) (rule : Rule) (rules : List Rule) (l : ℕ) (ts : Trees) (m : Numbered) → (matching (suc n) rules l ts ≡ Some m → Matched (suc n) rules l ts m) → (b : Bool) → fits rule l ts ≡ b → cond b (Some (record { number = n; rule = rule })) (matching (suc n) rules l ts) ≡ Some m → Matched n (rule ∷ rules) l ts m
unfolding rule_at
matched_one n rule rules l ts m rest true h e =
    let is : record { number = n; rule = rule } ≡ m = cc in
    let P : Numbered → Type 0 = λ x. Matched n (rule ∷ rules) l ts x in
    subst P is (0, omega arith, refl, h)
matched_one n rule rules l ts m rest false h e = let r = rest e in (suc r.0, omega (arith, r.1), r.2, r.3)

-- the whole list
pub matched_from : (n : ℕ) (rules : List Rule) (l : ℕ) (ts : Trees) (m : Numbered) → matching n rules l ts ≡ Some m → Matched n rules l ts m
unfolding matching
matched_from n [] l ts m e = apart (cc)
matched_from n (rule ∷ rules) l ts m e = matched_one n rule rules l ts m (λ f. matched_from (suc n) rules l ts m f) (fits rule l ts) refl e

-- the rule that a form takes is the one with its number, has the form's label, and its arguments take the children
pub matched : (rules : List Rule) (l : ℕ) (ts : Trees) (m : Numbered) → matching 0 rules l ts ≡ Some m → (rule_at m.number rules ≡ Some m.rule) × (m.rule.label ≡ l) × (takes_all m.rule.arguments ts ≡ true)
matched rules l ts m e =
    let r = matched_from 0 rules l ts m e in
    let i : m.number ≡ r.0 = omega (arith, r.1) in
    let f = and_parts (eqb m.rule.label l) (takes_all m.rule.arguments ts) r.3 in
    (rw i r.2, eqb-true m.rule.label l f.0, f.1)

-- a tree that an atom takes is that atom
pub is_number_lem : (v : ℕ) (t : Tree) → is_number v t ≡ true → t ≡ atom v
is_number_lem v (atom w) e = ap atom (sym (eqb-true v w e))
is_number_lem v (variable n) e = apart (cc)
is_number_lem v (body k t) e = apart (cc)
is_number_lem v (head k r ds t) e = apart (cc)
is_number_lem v (form l ts) e = apart (cc)

-- a rule drops as many trees as it has variables that are missing on the right
pub dropped-count : (right : Tree) (arguments ts : Trees) → takes_all arguments ts ≡ true → count (dropped right arguments ts) ≡ losses right arguments
unfolding takes_all dropped losses count
dropped-count right none none e = refl
dropped-count right none (more t ts) e = refl
dropped-count right (more a rest) none e = apart (cc)
dropped-count right (more a rest) (more t ts) e = by_test (lost right a) (dropped-count right rest ts (and_parts (takes a t) (takes_all rest ts) e).1)
  where
    by_test : (b : Bool) → count (dropped right rest ts) ≡ losses right rest → count (cond b (more t (dropped right rest ts)) (dropped right rest ts)) ≡ cond b (suc (losses right rest)) (losses right rest)
    by_test true h = ap suc h
    by_test false h = h

module _ (k : ℕ) (rules : List Rule) (l : ℕ) (ts : Trees) where
  -- a form's expansion, by whether the layer owns it and by the rule that matches
  abbrev pub expanded_by : Bool → Option Numbered → Tree
  expanded_by false o = form l (expanded_all k rules ts)
  expanded_by true o = taken_if k l ts (expanded_all k rules ts) o

  -- that is what the form expands to
  pub expanded_by_lem : (b : Bool) (o : Option Numbered) → owned k l ≡ b → matching 0 rules l ts ≡ o → expanded k rules (form l ts) ≡ expanded_by b o
  unfolding expanded
  expanded_by_lem b o h e = same (owned k l) ∙ ap (λ c. expanded_by c (matching 0 rules l ts)) h ∙ ap (expanded_by b) e
    where
      same : (c : Bool) → elim c [ false ↦ form l (expanded_all k rules ts) | true ↦ taken_if k l ts (expanded_all k rules ts) (matching 0 rules l ts) ] ≡ expanded_by c (matching 0 rules l ts)
      same true = refl
      same false = refl

  -- a form that the layer does not own stays
  pub unowned_expands : owned k l ≡ false → expanded k rules (form l ts) ≡ form l (expanded_all k rules ts)
  unowned_expands h = expanded_by_lem false (matching 0 rules l ts) h refl

  -- an owned form takes its rule
  pub owned_expands : (m : Numbered) → owned k l ≡ true → matching 0 rules l ts ≡ Some m → expanded k rules (form l ts) ≡ taken k ts (expanded_all k rules ts) m
  owned_expands m h e = expanded_by_lem true (Some m) h e
