-- Terms as trees: their writing as words, their reading from words, and the marks taken off.
use Rattle.std.specs.Prelude.{◌≡◌, ℕ, zero, suc, ◌<◌, ◌≤◌, Bool, true, false, List, [], ◌∷◌, ◌++◌, Some, None, Option}
use Rattle.terms.specs.declared.words.Node.{Node}
use Rattle.terms.specs.declared.words.Node.TheVariants.{Atom, Variable, Body, Head, Form}
use Rattle.terms.specs.Words.{word, head_payload, is_layer, is_head, is_form_label, node_of}

mutual
  pub data Tree : Type 0 where
    -- a number
    atom : ℕ → Tree
    -- a variable's index
    variable : ℕ → Tree
    -- a body mark: its layer and its child
    body : ℕ → Tree → Tree
    -- a head mark: its layer and rule, the dropped terms, the inside term
    head : ℕ → ℕ → Trees → Tree → Tree
    -- a form: its label and its children
    form : ℕ → Trees → Tree

  pub data Trees : Type 0 where
    none : Trees
    more : Tree → Trees → Trees

unfoldable pub count : Trees → ℕ
count none = 0
count (more t ts) = suc (count ts)

-- the words of a tree, in preorder
unfoldable mutual
  pub written : Tree → List ℕ
  written (atom v) = word 0 v ∷ []
  written (variable n) = word 2 n ∷ []
  written (body k t) = word 3 k ∷ written t
  written (head k r ds t) = word 4 (head_payload k r (count ds)) ∷ (written_all ds ++ written t)
  written (form l ts) = word l (count ts) ∷ written_all ts

  pub written_all : Trees → List ℕ
  written_all none = []
  written_all (more t ts) = written t ++ written_all ts

-- every number of the tree is in its range; variables stand only if they may
unfoldable mutual
  pub WellMade : Tree → Bool → Type 0
  WellMade (atom v) variables = v < 16777216
  WellMade (variable n) variables = (variables ≡ true) × (n < 8)
  WellMade (body k t) variables = (is_layer k ≡ true) × WellMade t variables
  WellMade (head k r ds t) variables = (is_head k r (count ds) ≡ true) × WellMadeAll ds variables × WellMade t variables
  WellMade (form l ts) variables = (is_form_label l ≡ true) × (count ts ≤ 8) × WellMadeAll ts variables

  pub WellMadeAll : Trees → Bool → Type 0
  WellMadeAll none variables = Unit {0}
  WellMadeAll (more t ts) variables = WellMade t variables × WellMadeAll ts variables

-- a well-formed term has no variables
abbrev pub WellFormed : Tree → Type 0
WellFormed t = WellMade t false

-- the first n trees, and those behind them
unfoldable pub first : ℕ → Trees → Option (Trees × Trees)
first zero ts = Some (none, ts)
first (suc n) none = None
first (suc n) (more t ts) = elim (first n ts) [ None ↦ None | Some p ↦ Some (more t p.0, p.1) ]

unfoldable pub in_head : ℕ → ℕ → Trees → Trees → Option Trees
in_head k r ds none = None
in_head k r ds (more t ts) = Some (more (head k r ds t) ts)

-- a node in front of trees takes as many of them as it has children
unfoldable pub put : Node → Trees → Option Trees
unfolding first in_head
put (Atom v) ts = Some (more (atom v) ts)
put (Variable n) ts = Some (more (variable n) ts)
put (Body k) none = None
put (Body k) (more t ts) = Some (more (body k t) ts)
put (Head k r d) ts = elim (first d ts) [ None ↦ None | Some p ↦ in_head k r p.0 p.1 ]
put (Form l n) ts = elim (first n ts) [ None ↦ None | Some p ↦ Some (more (form l p.0) p.1) ]

-- the trees that a run of words is the writing of, read from its end
unfoldable pub read : List ℕ → Option Trees
read [] = Some none
read (w ∷ ws) = elim (node_of w) [ None ↦ None | Some n ↦ elim (read ws) [ None ↦ None | Some ts ↦ put n ts ] ]

-- the one tree among these, if there is one
abbrev pub only : Trees → Option Tree
only none = None
only (more t none) = Some t
only (more t (more u us)) = None

-- the one tree that the words are the writing of; no words are none
unfoldable pub term_of : List ℕ → Option Tree
unfolding read
term_of words = elim (read words) [ None ↦ None | Some ts ↦ only ts ]

-- the tree with its marks taken off: each mark gives place to its child or its inside term
unfoldable mutual
  pub bare : Tree → Tree
  bare (atom v) = atom v
  bare (variable n) = variable n
  bare (body k t) = bare t
  bare (head k r ds t) = bare t
  bare (form l ts) = form l (bare_all ts)

  pub bare_all : Trees → Trees
  bare_all none = none
  bare_all (more t ts) = more (bare t) (bare_all ts)

-- the tree has no marks
unfoldable mutual
  pub Unmarked : Tree → Type 0
  Unmarked (atom v) = Unit {0}
  Unmarked (variable n) = Unit {0}
  Unmarked (body k t) = ⊥
  Unmarked (head k r ds t) = ⊥
  Unmarked (form l ts) = UnmarkedAll ts

  pub UnmarkedAll : Trees → Type 0
  UnmarkedAll none = Unit {0}
  UnmarkedAll (more t ts) = Unmarked t × UnmarkedAll ts

-- child i, from 0; a head mark's inside term comes behind its dropped terms
unfoldable pub nth : ℕ → Trees → Option Tree
nth i none = None
nth zero (more t ts) = Some t
nth (suc i) (more t ts) = nth i ts

unfoldable pub join : Trees → Trees → Trees
join none us = us
join (more t ts) us = more t (join ts us)

unfoldable pub children_of : Tree → Trees
unfolding join
children_of (atom v) = none
children_of (variable n) = none
children_of (body k t) = more t none
children_of (head k r ds t) = join ds (more t none)
children_of (form l ts) = ts
