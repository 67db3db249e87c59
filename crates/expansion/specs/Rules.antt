-- The rules of a list as trees.
use Rattle.std.specs.Prelude.{ℕ, ◌/◌, Bool, false, ◌||◌, List, [], ◌∷◌, map, Some, None, ◌==◌}
use Rattle.terms.specs.Trees.{Tree, Trees, atom, variable, body, head, form, none, more, read}
use Rattle.lists.specs.Lines.{Sides}
use Rattle.lists.specs.Acceptance.{Listed}

-- a rule: the label of its form, the arguments on the left (each a variable or an atom), and the tree on the right
pub record Rule : Type 0 where
  pub label : ℕ
  pub arguments : Trees
  pub right : Tree

abbrev pub trees_of : List ℕ → Trees
trees_of ws = elim (read ws) [ None ↦ none | Some ts ↦ ts ]

abbrev pub tree_of : Trees → Tree
tree_of none = atom 0
tree_of (more t ts) = t

abbrev pub rule_left : List ℕ → Tree → Rule
rule_left [] right = record { label = 0; arguments = none; right = right }
rule_left (w ∷ ws) right = record { label = w / 16777216; arguments = trees_of ws; right = right }

-- the rule that two sides spell
unfoldable pub rule_of : Sides → Rule
unfolding read
rule_of s = rule_left s.left (tree_of (trees_of s.right))

abbrev pub rules_of : Listed → List Rule
rules_of l = map rule_of l.rules

-- variable n stands in the tree
unfoldable mutual
  pub stands : ℕ → Tree → Bool
  stands n (atom v) = false
  stands n (variable m) = m == n
  stands n (body k t) = stands n t
  stands n (head k r ds t) = stands_any n ds || stands n t
  stands n (form l ts) = stands_any n ts

  pub stands_any : ℕ → Trees → Bool
  stands_any n none = false
  stands_any n (more t ts) = stands n t || stands_any n ts
