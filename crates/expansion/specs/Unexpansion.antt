-- The way back: unexpansion by one list, and the matching of a right side.
use Rattle.std.specs.Prelude.{ℕ, true, false, cond, List, [], ◌∷◌, ◌++◌, Some, None, Option, ◌==◌, nat_lt}
use Rattle.terms.specs.Trees.{Tree, Trees, atom, variable, body, head, form, none, more, count}
use Rattle.lists.specs.Lines.{owned}
use Rattle.expansion.specs.Rules.{Rule, stands}
use Rattle.expansion.specs.Matches.{is_number, rule_at, losses}

-- a variable and the tree that was found for it
pub record Bound : Type 0 where
  pub index : ℕ
  pub value : Tree

abbrev pub single : ℕ → Option Tree → Option (List Bound)
single n None = None
single n (Some t) = Some (record { index = n; value = t } ∷ [])

abbrev pub both : Option (List Bound) → Option (List Bound) → Option (List Bound)
both None q = None
both (Some bs) None = None
both (Some bs) (Some cs) = Some (bs ++ cs)

-- the tree that was found for variable n
unfoldable pub lookup : ℕ → List Bound → Option Tree
lookup n [] = None
lookup n (b ∷ bs) = cond (b.index == n) (Some b.value) (lookup n bs)

abbrev pub cons_if : Option Tree → Option Trees → Option Trees
cons_if None q = None
cons_if (Some t) None = None
cons_if (Some t) (Some ts) = Some (more t ts)

-- the left side filled in: variables that stand on the right from the matching, the others from the dropped terms, in order
unfoldable pub refilled : Tree → Trees → Trees → List Bound → Option Trees
refilled right none none bs = Some none
refilled right none (more d ds) bs = None
refilled right (more (atom v) rest) ds bs = cons_if (Some (atom v)) (refilled right rest ds bs)
refilled right (more (variable n) rest) none bs = elim (stands n right) [ true ↦ cons_if (lookup n bs) (refilled right rest none bs) | false ↦ None ]
refilled right (more (variable n) rest) (more d ds) bs = elim (stands n right) [ true ↦ cons_if (lookup n bs) (refilled right rest (more d ds) bs) | false ↦ cons_if (Some d) (refilled right rest ds bs) ]
refilled right (more (body k t) rest) ds bs = None
refilled right (more (head k r es t) rest) ds bs = None
refilled right (more (form l ts) rest) ds bs = None

abbrev pub form_if : ℕ → Option Trees → Option Tree
form_if l None = None
form_if l (Some ts) = Some (form l ts)

abbrev pub body_if : ℕ → Option Tree → Option Tree
body_if k None = None
body_if k (Some t) = Some (body k t)

abbrev pub head_if : ℕ → ℕ → Trees → Option Tree → Option Tree
head_if k r ds None = None
head_if k r ds (Some t) = Some (head k r ds t)

-- the left side of a rule, from what its head mark dropped and what the matching of its right side found
abbrev pub untaken : Rule → Trees → Option (List Bound) → Option Tree
untaken rule ds None = None
untaken rule ds (Some bs) = form_if rule.label (refilled rule.right rule.arguments ds bs)

abbrev pub untaken_if : Option Rule → Trees → (Rule → Option (List Bound)) → Option Tree
untaken_if None ds f = None
untaken_if (Some rule) ds f = cond (count ds == losses rule.right rule.arguments) (untaken rule ds (f rule)) None

-- the root of a right side, which is a form: its label and its children
abbrev pub root_label : Tree → ℕ
root_label (atom v) = 0
root_label (variable n) = 0
root_label (body k t) = 0
root_label (head k r ds t) = 0
root_label (form l ts) = l

abbrev pub root_children : Tree → Trees
root_children (atom v) = none
root_children (variable n) = none
root_children (body k t) = none
root_children (head k r ds t) = none
root_children (form l ts) = ts

-- nothing is bound, if the tree is this number
abbrev pub if_number : ℕ → Tree → Option (List Bound)
if_number v t = cond (is_number v t) (Some []) None

-- Unexpansion at layer k keeps atoms, marks of higher layers and forms that k does not own, and goes on inside them.
-- A head mark of layer k becomes the left side of its rule. A body mark of layer k elsewhere, a mark of a lower layer, and an owned form give nothing.
-- Where matching meets a variable, unexpansion goes on; where unexpansion meets a head mark of layer k, matching does.
unfoldable mutual
  pub unexpanded : ℕ → List Rule → Tree → Option Tree
  unexpanded k rules (atom v) = Some (atom v)
  unexpanded k rules (variable n) = None
  unexpanded k rules (body j t) = elim (nat_lt k j) [ true ↦ body_if j (unexpanded k rules t) | false ↦ None ]
  unexpanded k rules (head j r ds t) =
      elim (nat_lt k j) [ true ↦ head_if j r ds (unexpanded k rules t) | false ↦ elim (k == j) [ false ↦ None | true ↦ untaken_if (rule_at r rules) ds (λ rule. found k rules t (root_label rule.right) (root_children rule.right)) ] ]
  unexpanded k rules (form l ts) = elim (owned k l) [ true ↦ None | false ↦ form_if l (unexpanded_all k rules ts) ]

  pub unexpanded_all : ℕ → List Rule → Trees → Option Trees
  unexpanded_all k rules none = Some none
  unexpanded_all k rules (more t ts) = cons_if (unexpanded k rules t) (unexpanded_all k rules ts)

  -- a tree that should be a form of a right side, in its body mark: what stands for its variables, unexpanded
  pub found : ℕ → List Rule → Tree → ℕ → Trees → Option (List Bound)
  found k rules (atom w) l us = None
  found k rules (variable m) l us = None
  found k rules (body j t) l us = elim (k == j) [ false ↦ None | true ↦ found_form k rules t l us ]
  found k rules (head j r ds t) l us = None
  found k rules (form m ts) l us = None

  pub found_form : ℕ → List Rule → Tree → ℕ → Trees → Option (List Bound)
  found_form k rules (atom w) l us = None
  found_form k rules (variable m) l us = None
  found_form k rules (body j t) l us = None
  found_form k rules (head j r ds t) l us = None
  found_form k rules (form m ts) l us = elim (l == m) [ false ↦ None | true ↦ found_all k rules ts us ]

  -- the children of such a form: atoms are themselves, and at a variable unexpansion goes on
  pub found_all : ℕ → List Rule → Trees → Trees → Option (List Bound)
  found_all k rules none none = Some []
  found_all k rules none (more u us) = None
  found_all k rules (more t ts) none = None
  found_all k rules (more t ts) (more (atom v) us) = both (if_number v t) (found_all k rules ts us)
  found_all k rules (more t ts) (more (variable n) us) = both (single n (unexpanded k rules t)) (found_all k rules ts us)
  found_all k rules (more t ts) (more (body j u) us) = None
  found_all k rules (more t ts) (more (head j r ds u) us) = None
  found_all k rules (more t ts) (more (form l vs) us) = both (found k rules t l vs) (found_all k rules ts us)
