-- Expansion by one list, from the outside in, and plain expansion.
use Rattle.std.specs.Prelude.{ℕ, suc, ◌+◌, true, false, cond, List, Some, None, Option}
use Rattle.terms.specs.Trees.{Tree, Trees, atom, variable, body, head, form, none, more}
use Rattle.lists.specs.Lines.{owned}
use Rattle.expansion.specs.Rules.{Rule}
use Rattle.expansion.specs.Matches.{Numbered, matching, kept, dropped, value_of}

-- a right side filled in: each form, the root too, in a body mark of layer k, atoms bare, variables as their values
unfoldable mutual
  pub instance : ℕ → Trees → Trees → Tree → Tree
  instance k arguments values (atom v) = atom v
  instance k arguments values (variable n) = value_of n arguments values
  instance k arguments values (body j t) = body j (instance k arguments values t)
  instance k arguments values (head j r ds t) = head j r ds (instance k arguments values t)
  instance k arguments values (form l ts) = body k (form l (instances k arguments values ts))

  pub instances : ℕ → Trees → Trees → Trees → Trees
  instances k arguments values none = none
  instances k arguments values (more t ts) = more (instance k arguments values t) (instances k arguments values ts)

-- the same without marks
unfoldable mutual
  pub plain_instance : Trees → Trees → Tree → Tree
  plain_instance arguments values (atom v) = atom v
  plain_instance arguments values (variable n) = value_of n arguments values
  plain_instance arguments values (body j t) = body j (plain_instance arguments values t)
  plain_instance arguments values (head j r ds t) = head j r ds (plain_instance arguments values t)
  plain_instance arguments values (form l ts) = form l (plain_instances arguments values ts)

  pub plain_instances : Trees → Trees → Trees → Trees
  plain_instances arguments values none = none
  plain_instances arguments values (more t ts) = more (plain_instance arguments values t) (plain_instances arguments values ts)

-- An owned form becomes a head mark that drops the trees of variables missing on the right, unexpanded; its inside is the right side, filled in with expanded trees.
abbrev pub taken : ℕ → Trees → Trees → Numbered → Tree
taken k ts expanded_ts m =
    head k m.number (dropped m.rule.right m.rule.arguments ts) (instance k m.rule.arguments expanded_ts m.rule.right)

abbrev pub taken_if : ℕ → ℕ → Trees → Trees → Option Numbered → Tree
taken_if k l ts expanded_ts None = form l ts
taken_if k l ts expanded_ts (Some m) = taken k ts expanded_ts m

-- expansion at layer k: atoms stay, marks stay with their dropped terms, a form that k does not own stays, an owned form takes the rule that matches
unfoldable mutual
  pub expanded : ℕ → List Rule → Tree → Tree
  expanded k rules (atom v) = atom v
  expanded k rules (variable n) = variable n
  expanded k rules (body j t) = body j (expanded k rules t)
  expanded k rules (head j r ds t) = head j r ds (expanded k rules t)
  expanded k rules (form l ts) = elim (owned k l) [ false ↦ form l (expanded_all k rules ts) | true ↦ taken_if k l ts (expanded_all k rules ts) (matching 0 rules l ts) ]

  pub expanded_all : ℕ → List Rule → Trees → Trees
  expanded_all k rules none = none
  expanded_all k rules (more t ts) = more (expanded k rules t) (expanded_all k rules ts)

-- how many rules are taken: in what is dropped, none
abbrev pub uses_if : Option Numbered → ℕ → (Numbered → ℕ) → ℕ
uses_if None n f = n
uses_if (Some m) n f = suc (f m)

unfoldable mutual
  pub uses_of : ℕ → List Rule → Tree → ℕ
  uses_of k rules (atom v) = 0
  uses_of k rules (variable n) = 0
  uses_of k rules (body j t) = uses_of k rules t
  uses_of k rules (head j r ds t) = uses_of k rules t
  uses_of k rules (form l ts) = elim (owned k l) [ false ↦ uses_all k rules ts | true ↦ uses_if (matching 0 rules l ts) 0 (λ m. uses_kept k rules m.rule.right m.rule.arguments ts) ]

  pub uses_all : ℕ → List Rule → Trees → ℕ
  uses_all k rules none = 0
  uses_all k rules (more t ts) = uses_of k rules t + uses_all k rules ts

  -- in the trees of variables that stand on the right
  pub uses_kept : ℕ → List Rule → Tree → Trees → Trees → ℕ
  uses_kept k rules right arguments none = 0
  uses_kept k rules right none (more t ts) = 0
  uses_kept k rules right (more a rest) (more t ts) = cond (kept right a) (uses_of k rules t) 0 + uses_kept k rules right rest ts

-- plain expansion of a term without marks
abbrev pub plain_taken_if : ℕ → Trees → Trees → Option Numbered → Tree
plain_taken_if l ts plain_ts None = form l ts
plain_taken_if l ts plain_ts (Some m) = plain_instance m.rule.arguments plain_ts m.rule.right

unfoldable mutual
  pub plain : ℕ → List Rule → Tree → Tree
  plain k rules (atom v) = atom v
  plain k rules (variable n) = variable n
  plain k rules (body j t) = body j (plain k rules t)
  plain k rules (head j r ds t) = head j r ds (plain k rules t)
  plain k rules (form l ts) = elim (owned k l) [ false ↦ form l (plain_all k rules ts) | true ↦ plain_taken_if l ts (plain_all k rules ts) (matching 0 rules l ts) ]

  pub plain_all : ℕ → List Rule → Trees → Trees
  plain_all k rules none = none
  plain_all k rules (more t ts) = more (plain k rules t) (plain_all k rules ts)
