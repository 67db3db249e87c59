-- To write and then read, or to read and then write, gives back the same.
use Rattle.std.proofs.Common.{◌≡◌, ℕ, Bool, true, false, List, [], ◌∷◌, ◌++◌, Some, None, Option, sym, refl, ap, ◌∙◌, subst, append_assoc, append-nil}
use Rattle.terms.specs.declared.words.Node.{Node}
use Rattle.terms.specs.declared.words.Node.TheVariants.{Atom, Variable, Body, Head, Form}
use Rattle.terms.specs.Words.{node_of, arity_of}
use Rattle.terms.specs.Trees.{Tree, Trees, atom, variable, body, head, form, none, more, written, written_all, WellMade, WellMadeAll, put, join, read, only, term_of}
use Rattle.terms.specs.Fronts.{wants}
use Rattle.terms.specs.Laws.{ReadingUndoesWriting, WritingUndoesReading, OneTermARun}
use Rattle.terms.proofs.Nodes.{Stands, stands}
use Rattle.terms.proofs.Shapes.{word_of, node_for, node_for_lem}
use Rattle.terms.proofs.Puts.{Put, put_made, put_head_back, put_form_back}

-- one word more in front, by what it stands for and what is read behind it
abbrev reads : Option Node → Option Trees → Option Trees
reads None r = None
reads (Some n) r = elim r [ None ↦ None | Some ts ↦ put n ts ]

read_more : (w : ℕ) (ws : List ℕ) → read (w ∷ ws) ≡ reads (node_of w) (read ws)
unfolding read
read_more w ws = same (node_of w)
  where
    same : (o : Option Node) → elim o [ None ↦ None | Some n ↦ elim (read ws) [ None ↦ None | Some ts ↦ put n ts ] ] ≡ reads o (read ws)
    same None = refl
    same (Some n) = refl

-- the first word of a tree, in front of words that are read
in_front : (t : Tree) (v : Bool) (ws : List ℕ) (ts : Trees) → WellMade t v → read ws ≡ Some ts → read (word_of t ∷ ws) ≡ put (node_for t) ts
in_front t v ws ts h e =
    let n = node_for_lem t v h in
    read_more (word_of t) ws ∙ (λ i. reads (n i) (e i))

mutual
  unfolding written written_all WellMade WellMadeAll put join

  read_tree : (t : Tree) (v : Bool) (ws : List ℕ) (us : Trees) → WellMade t v → read ws ≡ Some us → read (written t ++ ws) ≡ Some (more t us)
  read_tree (atom a) v ws us h e = in_front (atom a) v ws us h e
  read_tree (variable n) v ws us h e = in_front (variable n) v ws us h e
  read_tree (body k t) v ws us h e = in_front (body k t) v (written t ++ ws) (more t us) h (read_tree t v ws us h.1 e)
  read_tree (head k r ds t) v ws us h e =
      let behind = ap read (append_assoc (written_all ds) (written t) ws) ∙ read_trees ds v (written t ++ ws) (more t us) h.1 (read_tree t v ws us h.2 e) in
      in_front (head k r ds t) v ((written_all ds ++ written t) ++ ws) (join ds (more t us)) h behind ∙ put_head_back k r ds t us
  read_tree (form l ts) v ws us h e = in_front (form l ts) v (written_all ts ++ ws) (join ts us) h (read_trees ts v ws us h.2 e) ∙ put_form_back l ts us

  read_trees : (ts : Trees) (v : Bool) (ws : List ℕ) (us : Trees) → WellMadeAll ts v → read ws ≡ Some us → read (written_all ts ++ ws) ≡ Some (join ts us)
  read_trees none v ws us h e = e
  read_trees (more t ts) v ws us h e =
      ap read (append_assoc (written t) (written_all ts) ws) ∙ read_tree t v (written_all ts ++ ws) (join ts us) h.0 (read_trees ts v ws us h.1 e)

pub read-written : (t : Tree) (v : Bool) → WellMade t v → read (written t) ≡ Some (more t none)
unfolding read
read-written t v h = ap read (sym (append-nil (written t))) ∙ read_tree t v [] none h refl

-- the words of a tree are read as that tree
pub term_read : (t : Tree) (v : Bool) → WellMade t v → term_of (written t) ≡ Some t
unfolding term_of
term_read t v h = let f : Option Trees → Option Tree = λ p. elim p [ None ↦ None | Some ts ↦ only ts ] in ap f (read-written t v h)

pub reading : ReadingUndoesWriting
reading t h = read-written t true h

pub one_term : OneTermARun
one_term t u h k e =
    let a = read-written t false h in
    let b = read-written u false k in
    cc (ap read e)

-- what is read is well made, and is written as these words
abbrev Written : List ℕ → Option Trees → Type 0
Written ws None = Unit {0}
Written ws (Some ts) = WellMadeAll ts true × (written_all ts ≡ ws)

all_may_stand : (n : Node) → wants true (Some n) ≡ Some (arity_of n)
all_may_stand (Atom a) = refl
all_may_stand (Variable n) = refl
all_may_stand (Body k) = refl
all_may_stand (Head k r d) = refl
all_may_stand (Form l n) = refl

written_put : (w : ℕ) (ws : List ℕ) (n : Node) (us : Trees) → written_all us ≡ ws → (q : Option Trees) → Put w true n us q → Written (w ∷ ws) q
written_put w ws n us e None h = tt
written_put w ws n us e (Some ts) h = (h.0, h.1 ∙ ap (λ l. w ∷ l) e)

written_more : (w : ℕ) (ws : List ℕ) (o : Option Node) (r : Option Trees) → Stands w o → Written ws r → Written (w ∷ ws) (reads o r)
written_more w ws None r s h = tt
written_more w ws (Some n) None s h = tt
written_more w ws (Some n) (Some us) s h =
    written_put w ws n us h.1 (put n us) (put_made w true n us s (all_may_stand n) h.0)

written_read : (ws : List ℕ) → Written ws (read ws)
unfolding read WellMadeAll written_all
written_read [] = (tt, refl)
written_read (w ∷ ws) =
    subst (Written (w ∷ ws)) (sym (read_more w ws)) (written_more w ws (node_of w) (read ws) (stands w) (written_read ws))

pub writing : WritingUndoesReading
writing ws ts e = subst (Written ws) e (written_read ws)
