-- Which rule a form takes, and what its variables stand for.
use Rattle.std.specs.Prelude.{ℕ, zero, suc, Bool, true, false, cond, ◌&&◌, List, [], ◌∷◌, Some, None, Option, ◌==◌}
use Rattle.terms.specs.Trees.{Tree, Trees, atom, variable, body, head, form, none, more}
use Rattle.expansion.specs.Rules.{Rule, stands}

-- the tree is this number, and no mark is around it
abbrev pub is_number : ℕ → Tree → Bool
is_number v (atom w) = v == w
is_number v (variable n) = false
is_number v (body k t) = false
is_number v (head k r ds t) = false
is_number v (form l ts) = false

-- an argument of a left side takes the tree: an atom only itself, a variable any
abbrev pub takes : Tree → Tree → Bool
takes (atom v) t = is_number v t
takes (variable n) t = true
takes (body k u) t = false
takes (head k r ds u) t = false
takes (form l us) t = false

-- as many arguments as trees, and each takes its own
unfoldable pub takes_all : Trees → Trees → Bool
takes_all none none = true
takes_all none (more t ts) = false
takes_all (more a rest) none = false
takes_all (more a rest) (more t ts) = takes a t && takes_all rest ts

-- the rule matches the form with these children
abbrev pub fits : Rule → ℕ → Trees → Bool
fits rule l ts = rule.label == l && takes_all rule.arguments ts

-- a rule with its number
pub record Numbered : Type 0 where
  pub number : ℕ
  pub rule : Rule

-- the first rule that matches, numbered from n
unfoldable pub matching : ℕ → List Rule → ℕ → Trees → Option Numbered
matching n [] l ts = None
matching n (rule ∷ rules) l ts = cond (fits rule l ts) (Some (record { number = n; rule = rule })) (matching (suc n) rules l ts)

-- rule n, counted from 0
unfoldable pub rule_at : ℕ → List Rule → Option Rule
rule_at n [] = None
rule_at zero (rule ∷ rules) = Some rule
rule_at (suc n) (rule ∷ rules) = rule_at n rules

-- the argument is a variable, and stands on the right
abbrev pub kept : Tree → Tree → Bool
kept right (atom v) = false
kept right (variable n) = stands n right
kept right (body k t) = false
kept right (head k r ds t) = false
kept right (form l ts) = false

-- the argument is a variable that is missing on the right
abbrev pub lost : Tree → Tree → Bool
lost right (atom v) = false
lost right (variable n) = cond (stands n right) false true
lost right (body k t) = false
lost right (head k r ds t) = false
lost right (form l ts) = false

-- the trees that a rule drops: those of variables missing on the right, in the order of the left
unfoldable pub dropped : Tree → Trees → Trees → Trees
dropped right none ts = none
dropped right (more a rest) none = none
dropped right (more a rest) (more t ts) = cond (lost right a) (more t (dropped right rest ts)) (dropped right rest ts)

-- how many that are
unfoldable pub losses : Tree → Trees → ℕ
losses right none = 0
losses right (more a rest) = cond (lost right a) (suc (losses right rest)) (losses right rest)

abbrev pub is_variable_of : ℕ → Tree → Bool
is_variable_of n (atom v) = false
is_variable_of n (variable m) = m == n
is_variable_of n (body k t) = false
is_variable_of n (head k r ds t) = false
is_variable_of n (form l ts) = false

-- the tree at the place where variable n stands among the arguments
unfoldable pub value_of : ℕ → Trees → Trees → Tree
value_of n none ts = atom 0
value_of n (more a rest) none = atom 0
value_of n (more a rest) (more t ts) = cond (is_variable_of n a) t (value_of n rest ts)
