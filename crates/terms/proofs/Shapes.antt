-- A tree is its first word and its children; that word wants as many children as the tree has.
use Rattle.std.proofs.Common.{◌≡◌, ℕ, ◌+◌, Bool, ◌∷◌, ◌++◌, Some, None, sym, refl, ap, ◌∙◌, append_assoc, append-nil, arith}
use Rattle.std.proofs.lemmas.Bool.{cond-true}
use Rattle.terms.specs.declared.words.Node.{Node}
use Rattle.terms.specs.declared.words.Node.TheVariants.{Atom, Variable, Body, Head, Form}
use Rattle.terms.specs.Words.{word, head_payload, node_of}
use Rattle.terms.specs.Trees.{Tree, Trees, atom, variable, body, head, form, none, more, count, written, written_all, WellMade, WellMadeAll, join, children_of}
use Rattle.terms.specs.Fronts.{wants}
use Rattle.terms.proofs.Nodes.{node_atom, node_variable, node_body, node_head, node_form}

-- the first word of a tree
abbrev pub word_of : Tree → ℕ
word_of (atom v) = word 0 v
word_of (variable n) = word 2 n
word_of (body k t) = word 3 k
word_of (head k r ds t) = word 4 (head_payload k r (count ds))
word_of (form l ts) = word l (count ts)

-- the node that it stands for
abbrev pub node_for : Tree → Node
node_for (atom v) = Atom v
node_for (variable n) = Variable n
node_for (body k t) = Body k
node_for (head k r ds t) = Head k r (count ds)
node_for (form l ts) = Form l (count ts)

pub node_for_lem : (t : Tree) (v : Bool) → WellMade t v → node_of (word_of t) ≡ Some (node_for t)
unfolding WellMade
node_for_lem (atom a) v h = node_atom a h
node_for_lem (variable n) v h = node_variable n h.1
node_for_lem (body k t) v h = node_body k h.0
node_for_lem (head k r ds t) v h = node_head k r (count ds) h.0
node_for_lem (form l ts) v h = node_form l (count ts) h.0 h.1

pub written-join : (ts us : Trees) → written_all (join ts us) ≡ written_all ts ++ written_all us
unfolding written_all join
written-join none us = refl
written-join (more t ts) us = ap (λ l. written t ++ l) (written-join ts us) ∙ sym (append_assoc (written t) (written_all ts) (written_all us))

pub count-join : (ts us : Trees) → count (join ts us) ≡ count ts + count us
unfolding count join
count-join none us = omega arith
count-join (more t ts) us = let e = count-join ts us in omega arith

pub made_join : (ts us : Trees) (v : Bool) → WellMadeAll ts v → WellMadeAll us v → WellMadeAll (join ts us) v
unfolding WellMadeAll join
made_join none us v h k = k
made_join (more t ts) us v h k = (h.0, made_join ts us v h.1 k)

pub made_parts : (ts us : Trees) (v : Bool) → WellMadeAll (join ts us) v → WellMadeAll ts v × WellMadeAll us v
unfolding WellMadeAll join
made_parts none us v h = (tt, h)
made_parts (more t ts) us v h = let p = made_parts ts us v h.1 in ((h.0, p.0), p.1)

pub children_made : (t : Tree) (v : Bool) → WellMade t v → WellMadeAll (children_of t) v
unfolding WellMade WellMadeAll children_of
children_made (atom a) v h = tt
children_made (variable n) v h = tt
children_made (body k t) v h = (h.1, tt)
children_made (head k r ds t) v h = made_join ds (more t none) v h.1 (h.2, tt)
children_made (form l ts) v h = h.2

pub written_is : (t : Tree) → written t ≡ word_of t ∷ written_all (children_of t)
unfolding written written_all children_of
written_is (atom a) = refl
written_is (variable n) = refl
written_is (body k t) = ap (λ l. word 3 k ∷ l) (sym (append-nil (written t)))
written_is (head k r ds t) =
    ap (λ l. word 4 (head_payload k r (count ds)) ∷ l)
    (ap (λ l. written_all ds ++ l) (sym (append-nil (written t))) ∙ sym (written-join ds (more t none)))
written_is (form l ts) = refl

wanted : (t : Tree) (v : Bool) → WellMade t v → wants v (Some (node_for t)) ≡ Some (count (children_of t))
unfolding count children_of WellMade
wanted (atom a) v h = refl
wanted (variable n) v h = cond-true v (Some 0) None h.0
wanted (body k t) v h = refl
wanted (head k r ds t) v h = ap Some (sym (count-join ds (more t none)))
wanted (form l ts) v h = refl

-- the first word wants as many children as the tree has
pub wants_children : (t : Tree) (v : Bool) → WellMade t v → wants v (node_of (word_of t)) ≡ Some (count (children_of t))
wants_children t v h = ap (wants v) (node_for_lem t v h) ∙ wanted t v h
