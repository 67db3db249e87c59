-- What a node takes of the trees behind it: the trees that this gives, and the words that they are written as.
use Rattle.std.proofs.Common.{◌≡◌, ℕ, zero, suc, ◌+◌, ◌<◌, ◌≤◌, Bool, true, false, cond, ◌∷◌, ◌++◌, Some, None, Option, sym, refl, ap, ◌∙◌, subst, append_assoc, arith}
use Rattle.terms.specs.declared.words.Node.{Node}
use Rattle.terms.specs.declared.words.Node.TheVariants.{Atom, Variable, Body, Head, Form}
use Rattle.terms.specs.Words.{word, head_payload, is_head, arity_of}
use Rattle.terms.specs.Trees.{Tree, Trees, head, form, none, more, count, written, written_all, WellMade, WellMadeAll, first, in_head, put, join}
use Rattle.terms.specs.Fronts.{wants}
use Rattle.terms.proofs.Nodes.{Stands}
use Rattle.terms.proofs.Shapes.{written-join, count-join, made_parts}

-- the trees are the first n and those behind them; or they are fewer
abbrev Firsts : ℕ → Trees → Option (Trees × Trees) → Type 0
Firsts n ts None = count ts < n
Firsts n ts (Some p) = (ts ≡ join p.0 p.1) × (count p.0 ≡ n)

firsts : (n : ℕ) (ts : Trees) → Firsts n ts (first n ts)
unfolding first count join
firsts zero ts = (refl, refl)
firsts (suc n) none = omega arith
firsts (suc n) (more t ts) = step (first n ts) (firsts n ts)
  where
    step : (o : Option (Trees × Trees)) → Firsts n ts o → Firsts (suc n) (more t ts) (elim o [ None ↦ None | Some p ↦ Some (more t p.0, p.1) ])
    step None h = omega arith
    step (Some p) h = (ap (more t) h.0, ap suc h.1)

first-join : (ts us : Trees) → first (count ts) (join ts us) ≡ Some (ts, us)
unfolding first count join
first-join none us = refl
first-join (more t ts) us = ap (λ o. elim o [ None ↦ None | Some p ↦ Some (more t p.0, p.1) ]) (first-join ts us)

-- the trees behind the word w, with its node in front of them; or they are fewer than the node has children
abbrev pub Put : ℕ → Bool → Node → Trees → Option Trees → Type 0
Put w v n us None = count us < arity_of n
Put w v n us (Some ts) = WellMadeAll ts v × (written_all ts ≡ w ∷ written_all us) × (suc (count us) ≡ arity_of n + count ts)

put_form : (w l n : ℕ) (v : Bool) (us : Trees) (o : Option (Trees × Trees)) → Stands w (Some (Form l n)) → WellMadeAll us v → Firsts n us o → Put w v (Form l n) us (elim o [ None ↦ None | Some p ↦ Some (more (form l p.0) p.1) ])
unfolding WellMadeAll WellMade written written_all count
put_form w l n v us None s h f = f
put_form w l n v us (Some p) s h f =
    let parts = made_parts p.0 p.1 v (subst (λ x. WellMadeAll x v) f.0 h) in
    let words : written_all us ≡ written_all p.0 ++ written_all p.1 = ap written_all f.0 ∙ written-join p.0 p.1 in
    let size : count us ≡ count p.0 + count p.1 = ap count f.0 ∙ count-join p.0 p.1 in
    let same = f.1 in
    let is : w ≡ word l n = s.0 in
    let few : n ≤ 8 = s.2 in
    (((s.1, omega arith, parts.0), parts.1), cc, omega arith)

put_inside : (w k r d : ℕ) (v : Bool) (us ds rest : Trees) → Stands w (Some (Head k r d)) → WellMadeAll us v → us ≡ join ds rest → count ds ≡ d → Put w v (Head k r d) us (in_head k r ds rest)
unfolding in_head WellMadeAll WellMade written written_all count
put_inside w k r d v us ds none s h e same =
    let size : count us ≡ count ds + count none = ap count e ∙ count-join ds none in
    omega arith
put_inside w k r d v us ds (more t rest) s h e same =
    let parts = made_parts ds (more t rest) v (subst (λ x. WellMadeAll x v) e h) in
    let words : written_all us ≡ written_all ds ++ (written t ++ written_all rest) = ap written_all e ∙ written-join ds (more t rest) in
    let apart = append_assoc (written_all ds) (written t) (written_all rest) in
    let size : count us ≡ count ds + suc (count rest) = ap count e ∙ count-join ds (more t rest) in
    let is : w ≡ word 4 (head_payload k r d) = s.0 in
    (((subst (λ x. is_head k r x ≡ true) (sym same) s.1, parts.0, parts.1.0), parts.1.1), cc, omega arith)

put_head : (w k r d : ℕ) (v : Bool) (us : Trees) (o : Option (Trees × Trees)) → Stands w (Some (Head k r d)) → WellMadeAll us v → Firsts d us o → Put w v (Head k r d) us (elim o [ None ↦ None | Some p ↦ in_head k r p.0 p.1 ])
put_head w k r d v us None s h f = omega arith
put_head w k r d v us (Some p) s h f = put_inside w k r d v us p.0 p.1 s h f.0 f.1

may_stand : (v : Bool) → cond {A = Option ℕ} v (Some 0) None ≡ Some 0 → v ≡ true
may_stand true e = refl
may_stand false e = let z : ◌≡◌ {A = ℕ} 0 1 = cc in absurd (omega arith)

-- a node in front of trees that are well made
pub put_made : (w : ℕ) (v : Bool) (n : Node) (us : Trees) → Stands w (Some n) → wants v (Some n) ≡ Some (arity_of n) → WellMadeAll us v → Put w v n us (put n us)
unfolding put WellMadeAll WellMade written written_all count
put_made w v (Atom a) us s e h = ((s.1, h), ap (λ x. x ∷ written_all us) (sym s.0), omega arith)
put_made w v (Variable n) us s e h = (((may_stand v e, s.1), h), ap (λ x. x ∷ written_all us) (sym s.0), omega arith)
put_made w v (Body k) none s e h = omega arith
put_made w v (Body k) (more t us) s e h = (((s.1, h.0), h.1), ap (λ x. x ∷ (written t ++ written_all us)) (sym s.0), omega arith)
put_made w v (Head k r d) us s e h = put_head w k r d v us (first d us) s h (firsts d us)
put_made w v (Form l n) us s e h = put_form w l n v us (first n us) s h (firsts n us)

-- the nodes of a head mark and of a form take their children back
pub put_head_back : (k r : ℕ) (ds : Trees) (t : Tree) (us : Trees) → put (Head k r (count ds)) (join ds (more t us)) ≡ Some (more (head k r ds t) us)
unfolding put in_head
put_head_back k r ds t us =
    ap (λ o. elim o [ None ↦ None | Some p ↦ in_head k r p.0 p.1 ]) (first-join ds (more t us))

pub put_form_back : (l : ℕ) (ts us : Trees) → put (Form l (count ts)) (join ts us) ≡ Some (more (form l ts) us)
unfolding put
put_form_back l ts us =
    ap (λ o. elim o [ None ↦ None | Some p ↦ Some (more (form l p.0) p.1) ]) (first-join ts us)
