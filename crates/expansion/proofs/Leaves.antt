-- Words that all are variables and atoms, the trees that they are read as, and the variables that stand in trees.
use Rattle.std.proofs.Common.{◌≡◌, ℕ, zero, suc, ◌<◌, Bool, true, false, ◌||◌, eqb, List, [], ◌∷◌, ◌++◌, length, get_or, Some, None, Option, sym, refl, ap, ◌∙◌, subst, ⊎_elim, arith}
use Rattle.std.specs.List.{ContainsAt, AllByRecursion}
use Rattle.std.proofs.ByRecursion.{has_append_left, has_append_right}
use Rattle.std.proofs.lemmas.Bool.{eqb-true, eq-eqb, or_cases, or_left, or_right}
use Rattle.terms.specs.declared.words.Node.{Node}
use Rattle.terms.specs.declared.words.Node.TheVariants.{Atom, Variable, Body, Head, Form}
use Rattle.terms.specs.Words.{word, head_payload, node_of}
use Rattle.terms.specs.Trees.{Tree, Trees, atom, variable, body, head, form, none, more, count, written, written_all, put, read}
use Rattle.terms.proofs.Nodes.{Stands, stands as stands_for, node_variable}
use Rattle.terms.proofs.Shapes.{word_of}
use Rattle.lists.specs.Sides.{is_variable, is_atom, is_argument}
use Rattle.lists.specs.Laws.{OncePlaced}
use Rattle.languages.proofs.Asked.{apart}
use Rattle.expansion.specs.Rules.{stands, stands_any}
use Rattle.expansion.specs.Laws.{Arguments}

-- an atom or a variable
abbrev pub Leaf : Tree → Type 0
Leaf (atom v) = v < 16777216
Leaf (variable n) = n < 8
Leaf (body k t) = ⊥
Leaf (head k r ds t) = ⊥
Leaf (form l ts) = ⊥

-- trees that all are
abbrev pub Leaves : Trees → Type 0
Leaves none = Unit {0}
Leaves (more t ts) = Leaf t × Leaves ts

-- one word for each tree
abbrev pub words : Trees → List ℕ
words none = []
words (more t ts) = word_of t ∷ words ts

-- as many words as trees
pub words_count : (ts : Trees) → length (words ts) ≡ count ts
unfolding count
words_count none = refl
words_count (more t ts) = ap suc (words_count ts)

-- leaves are written as these words
pub leaves_written : (ts : Trees) → Leaves ts → written_all ts ≡ words ts
unfolding written written_all
leaves_written none l = refl
leaves_written (more (atom v) ts) l = ap (λ ws. word 0 v ∷ ws) (leaves_written ts l.1)
leaves_written (more (variable n) ts) l = ap (λ ws. word 2 n ∷ ws) (leaves_written ts l.1)
leaves_written (more (body k t) ts) l = absurd l.0
leaves_written (more (head k r ds t) ts) l = absurd l.0
leaves_written (more (form m us) ts) l = absurd l.0

-- one word more in front, by what it stands for and what is read behind it
abbrev reads : Option Node → Option Trees → Option Trees
reads None r = None
reads (Some n) r = elim r [ None ↦ None | Some ts ↦ put n ts ]

-- that is how a run is read
read_more : (w : ℕ) (ws : List ℕ) → read (w ∷ ws) ≡ reads (node_of w) (read ws)
unfolding read
read_more w ws = same (node_of w)
  where
    same : (o : Option Node) → elim o [ None ↦ None | Some n ↦ elim (read ws) [ None ↦ None | Some ts ↦ put n ts ] ] ≡ reads o (read ws)
    same None = refl
    same (Some n) = refl

-- the run is read as leaves, one for each word
abbrev pub ReadAs : List ℕ → Type 0
ReadAs ws = (ts : Trees) × (read ws ≡ Some ts) × (words ts ≡ ws) × Leaves ts

-- one argument in front of arguments that are read
read_leaf : (w : ℕ) (ws : List ℕ) (ts : Trees) (o : Option Node) → node_of w ≡ o → Stands w o → (is_variable o || is_atom o) ≡ true → read ws ≡ Some ts → words ts ≡ ws → Leaves ts → ReadAs (w ∷ ws)
unfolding put
read_leaf w ws ts None n s h e i l = apart (cc)
read_leaf w ws ts (Some (Atom v)) n s h e i l = (more (atom v) ts, read_more w ws ∙ (λ j. reads (n j) (e j)), (λ j. sym s.0 j ∷ i j), (s.1, l))
read_leaf w ws ts (Some (Variable m)) n s h e i l = (more (variable m) ts, read_more w ws ∙ (λ j. reads (n j) (e j)), (λ j. sym s.0 j ∷ i j), (s.1, l))
read_leaf w ws ts (Some (Body k)) n s h e i l = apart (cc)
read_leaf w ws ts (Some (Head k r d)) n s h e i l = apart (cc)
read_leaf w ws ts (Some (Form m c)) n s h e i l = apart (cc)

-- a run of arguments is read as leaves
pub read_arguments : (ws : List ℕ) → AllByRecursion (λ w. is_argument w ≡ true) ws → ReadAs ws
unfolding read
read_arguments [] a = (none, refl, refl, tt)
read_arguments (w ∷ ws) a =
    let r = read_arguments ws a.1 in
    read_leaf w ws r.0 (node_of w) refl (stands_for w) a.0 r.1 r.2 r.3

-- what stands among the words stands behind one more
pub has_behind : (x : ℕ) (xs : List ℕ) (w : ℕ) → ContainsAt xs w → ContainsAt (x ∷ xs) w
has_behind x xs w h = (suc h.0, omega (arith, h.1), λ d. h.2 d)

-- the word of a variable that stands in a tree is among its words
mutual
  unfolding stands stands_any written written_all

  pub stands-written : (n : ℕ) (t : Tree) → stands n t ≡ true → ContainsAt (written t) (word 2 n)
  stands-written n (atom v) e = apart (cc)
  stands-written n (variable m) e = (0, omega arith, λ d. ap (word 2) (eqb-true m n e))
  stands-written n (body k t) e = has_behind (word 3 k) (written t) (word 2 n) (stands-written n t e)
  stands-written n (head k r ds t) e =
      has_behind (word 4 (head_payload k r (count ds))) (written_all ds ++ written t) (word 2 n)
      (⊎_elim (λ h. has_append_left (written_all ds) (written t) (word 2 n) (stands_all_written n ds h)) (λ h. has_append_right (written_all ds) (written t) (word 2 n) (stands-written n t h)) (or_cases (stands_any n ds) (stands n t) e))
  stands-written n (form l ts) e = has_behind (word l (count ts)) (written_all ts) (word 2 n) (stands_all_written n ts e)

  pub stands_all_written : (n : ℕ) (ts : Trees) → stands_any n ts ≡ true → ContainsAt (written_all ts) (word 2 n)
  stands_all_written n none e = apart (cc)
  stands_all_written n (more t ts) e =
      ⊎_elim (λ h. has_append_left (written t) (written_all ts) (word 2 n) (stands-written n t h)) (λ h. has_append_right (written t) (written_all ts) (word 2 n) (stands_all_written n ts h)) (or_cases (stands n t) (stands_any n ts) e)

-- the word of a variable among the words of leaves is one that stands there
pub has_stands : (n : ℕ) (ts : Trees) → Leaves ts → (i : ℕ) → i < length (words ts) → get_or (words ts) i 0 ≡ word 2 n → stands_any n ts ≡ true
unfolding stands stands_any
has_stands n none l i h e = absurd (omega arith)
has_stands n (more (atom v) ts) l zero h e = absurd (omega (arith, l.0))
has_stands n (more (variable m) ts) l zero h e = let is : m ≡ n = omega arith in or_left (eqb m n) (stands_any n ts) (eq-eqb m n is)
has_stands n (more (atom v) ts) l (suc i) h e = has_stands n ts l.1 i (omega arith) e
has_stands n (more (variable m) ts) l (suc i) h e = or_right (eqb m n) (stands_any n ts) (has_stands n ts l.1 i (omega arith) e)
has_stands n (more (body k t) ts) l i h e = absurd l.0
has_stands n (more (head k r ds t) ts) l i h e = absurd l.0
has_stands n (more (form m us) ts) l i h e = absurd l.0

-- variables once in a run are once behind its first word
pub once_behind : (w : ℕ) (ws : List ℕ) → OncePlaced (w ∷ ws) → OncePlaced ws
once_behind w ws o i j lt l v e = o (suc i) (suc j) (omega arith) (omega arith) v e

-- the word of a variable is one
pub variable_word : (n : ℕ) → n < 8 → is_variable (node_of (word 2 n)) ≡ true
variable_word n h = ap is_variable (node_variable n h)

-- leaves whose variables are once are the arguments of a left side
pub arguments_of : (ts : Trees) → Leaves ts → OncePlaced (words ts) → Arguments ts
unfolding Arguments
arguments_of none l o = tt
arguments_of (more (atom v) ts) l o = (l.0, arguments_of ts l.1 (once_behind (word 0 v) (words ts) o))
arguments_of (more (variable n) ts) l o = (l.0, lone (stands_any n ts) refl, arguments_of ts l.1 (once_behind (word 2 n) (words ts) o))
  where
    lone : (b : Bool) → stands_any n ts ≡ b → b ≡ false
    lone false e = refl
    lone true e =
        let H : List ℕ → Type 0 = λ ws. ContainsAt ws (word 2 n) in
        let h = subst H (leaves_written ts l.1) (stands_all_written n ts e) in
        absurd (o 0 (suc h.0) (omega arith) (omega (arith, h.1)) (variable_word n l.0) (sym (h.2 0)))
arguments_of (more (body k t) ts) l o = absurd l.0
arguments_of (more (head k r ds t) ts) l o = absurd l.0
arguments_of (more (form m us) ts) l o = absurd l.0
