-- The rule that a form takes: it is a rule of the list that fits, and a rule that fits is taken.
use Rattle.std.proofs.Common.{◌≡◌, ℕ, zero, suc, Bool, true, false, cond, List, [], ◌∷◌, Some, Option, sym, refl, ap, ◌∙◌, arith}
use Rattle.std.proofs.lemmas.Bool.{and_from, eq-eqb}
use Rattle.terms.specs.Trees.{Trees}
use Rattle.languages.proofs.Asked.{apart}
use Rattle.expansion.specs.Rules.{Rule}
use Rattle.expansion.specs.Matches.{Numbered, takes_all, fits, matching, rule_at}
use Rattle.expansion.specs.Laws.{SoundRules}
use Rattle.expansion.proofs.Taking.{Matched, matched_from}

-- if a rule of the list fits, some rule matches
matching_some : (n i : ℕ) (rules : List Rule) (rule : Rule) (l : ℕ) (ts : Trees) → rule_at i rules ≡ Some rule → fits rule l ts ≡ true → (m : Numbered) × (matching n rules l ts ≡ Some m)
unfolding matching rule_at
matching_some n i [] rule l ts e h = apart (cc)
matching_some n zero (first ∷ rules) rule l ts e h =
    let is : first ≡ rule = cc in
    (record { number = n; rule = first }, ap (λ b. cond b (Some (record { number = n; rule = first })) (matching (suc n) rules l ts)) (ap (λ x. fits x l ts) is ∙ h))
matching_some n (suc i) (first ∷ rules) rule l ts e h = by_test (fits first l ts) (matching_some (suc n) i rules rule l ts e h)
  where
    by_test : (b : Bool) → (m : Numbered) × (matching (suc n) rules l ts ≡ Some m) → (m : Numbered) × (cond b (Some (record { number = n; rule = first })) (matching (suc n) rules l ts) ≡ Some m)
    by_test true rest = (record { number = n; rule = first }, refl)
    by_test false rest = rest

-- a numbered rule is its number and its rule
numbered_is : (o : Option Numbered) (m : Numbered) (r : ℕ) (rule : Rule) → o ≡ Some m → m.number ≡ r → m.rule ≡ rule → o ≡ Some (record { number = r; rule = rule })
numbered_is o m r rule e number this =
    e ∙ ap Some (ap (λ x. record { number = x; rule = m.rule }) number ∙ ap (λ x. record { number = r; rule = x }) this)

-- what matches where the rule r fits is that rule
matching_one : (k : ℕ) (rules : List Rule) (r : ℕ) (rule : Rule) (l : ℕ) (ts : Trees) (m : Numbered) → SoundRules k rules → rule_at r rules ≡ Some rule → fits rule l ts ≡ true → matching 0 rules l ts ≡ Some m → Matched 0 rules l ts m → matching 0 rules l ts ≡ Some (record { number = r; rule = rule })
matching_one k rules r rule l ts m sound e h found is =
    let same : is.0 ≡ r = sound.apart is.0 r m.rule rule l ts is.2 e is.3 h in
    let number : m.number ≡ r = is.1 ∙ omega arith in
    let here : rule_at r rules ≡ Some m.rule = ap (λ i. rule_at i rules) (sym same) ∙ is.2 in
    numbered_is (matching 0 rules l ts) m r rule found number (cc)

-- the left side of a rule matches that rule
pub matching_left : (k : ℕ) (rules : List Rule) (r : ℕ) (rule : Rule) (ts : Trees) → SoundRules k rules → rule_at r rules ≡ Some rule → takes_all rule.arguments ts ≡ true → matching 0 rules rule.label ts ≡ Some (record { number = r; rule = rule })
matching_left k rules r rule ts sound e takes =
    let h : fits rule rule.label ts ≡ true = and_from _ _ (eq-eqb _ _ refl) takes in
    let found = matching_some 0 r rules rule rule.label ts e h in
    matching_one k rules r rule rule.label ts found.0 sound e h found.1 (matched_from 0 rules rule.label ts found.0 found.1)
