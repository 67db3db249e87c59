-- The shape of the two sides: the tests as statements, both ways.
use Rattle.std.proofs.Common.{◌≡◌, ℕ, ◌<◌, true, false, ◌&&◌, ◌||◌, eqb, leb, List, [], ◌∷◌, length, is_ok, Some, None, Ok, Err, Option, Result, sym, refl, ap, ◌∙◌, subst, arith}
use Rattle.std.specs.List.{AllByRecursion}
use Rattle.std.proofs.lemmas.Bool.{and_parts, and_from, eqb-true, eq-eqb, leb-true, false≢true, or_right}
use Rattle.terms.specs.declared.words.Node.{Node}
use Rattle.terms.specs.declared.words.Node.TheVariants.{Atom, Variable, Body, Head, Form}
use Rattle.terms.specs.declared.front.Broken.{Broken}
use Rattle.terms.specs.Words.{word, node_of}
use Rattle.terms.specs.Trees.{Tree, Trees, atom, variable, body, head, form, written, WellMade, count}
use Rattle.terms.specs.Fronts.{wholly, is_tree}
use Rattle.terms.specs.Laws.{Whole}
use Rattle.terms.proofs.Nodes.{node_atom, node_variable, node_body, node_head, node_form, Stands, stands}
use Rattle.terms.proofs.Verdicts.{whole_means}
use Rattle.lists.specs.declared.parts.Form as declared
use Rattle.std.specs.List.{list_all, list_any}
use Rattle.lists.specs.Sides.{is_atom, is_variable, is_lower_form, is_argument, on_right, form_word, left_shaped, right_shaped}
use Rattle.lists.specs.Laws.{LeftSide, RightSide}
use Rattle.std.proofs.ByRecursion.{All-weaker}
use Rattle.lists.proofs.Quantified.{all_if_every, every_if_all, has_if_any, any_if_has}

pub left_side : (forms : List declared.Form) (left : List ℕ) → left_shaped forms left ≡ true → LeftSide forms left
left_side forms [] e = absurd (false≢true e)
left_side forms (w ∷ args) e =
    let p = and_parts (list_any (λ f. eqb (form_word f) w && eqb (length args) f.count) forms) (list_all is_argument args) e in
    let f = has_if_any (λ f. eqb (form_word f) w && eqb (length args) f.count) forms p.0 in
    let fits = and_parts (eqb (form_word f.0) w) (eqb (length args) f.0.count) f.2 in
    (f.0, args, f.1, ap (λ v. v ∷ args) (sym (eqb-true (form_word f.0) w fits.0)), eqb-true (length args) f.0.count fits.1, all_if_every is_argument args p.1)

pub left_shaped_lem : (forms : List declared.Form) (left : List ℕ) → LeftSide forms left → left_shaped forms left ≡ true
left_shaped_lem forms left s =
    let f = s.0 in
    let args = s.1 in
    let here = any_if_has (λ f. eqb (form_word f) (form_word s.0) && eqb (length s.1) f.count) forms s.0 s.2 (and_from _ _ (eq-eqb (form_word s.0) (form_word s.0) refl) (eq-eqb (length s.1) s.0.count s.4)) in
    ap (left_shaped forms) s.3 ∙ and_from _ _ here (every_if_all is_argument s.1 s.5)

-- a run that is one tree
tree_if : (ws : List ℕ) → is_tree ws ≡ true → (t : Tree) × WellMade t true × (written t ≡ ws)
tree_if ws e = by (wholly true ws) (whole_means true ws) e
  where
    by : (r : Result (Unit {0}) Broken) → Whole true ws r → is_ok r ≡ true → (t : Tree) × WellMade t true × (written t ≡ ws)
    by (Ok x) w e = w
    by (Err b) w e = absurd (false≢true e)

if_tree : (ws : List ℕ) (t : Tree) → WellMade t true → written t ≡ ws → is_tree ws ≡ true
if_tree ws t made is = by (wholly true ws) (whole_means true ws)
  where
    by : (r : Result (Unit {0}) Broken) → Whole true ws r → is_ok r ≡ true
    by (Ok x) w = refl
    by (Err b) w = absurd (w.1 t made is)

first_of : (v w : ℕ) (vs ws : List ℕ) → v ∷ vs ≡ w ∷ ws → w ≡ v
first_of v w vs ws e = cc

-- a tree whose first word is a form's has a form as its root
lower_root : (k : ℕ) (t : Tree) (w : ℕ) (ws : List ℕ) → WellMade t true → written t ≡ w ∷ ws → is_lower_form k (node_of w) ≡ true → (l : ℕ) × (ts : Trees) × (t ≡ form l ts)
unfolding written WellMade
lower_root k (atom v) w ws made is e = absurd (false≢true (sym (ap (is_lower_form k) (ap node_of (first_of _ w _ ws is) ∙ node_atom v made)) ∙ e))
lower_root k (variable n) w ws made is e = absurd (false≢true (sym (ap (is_lower_form k) (ap node_of (first_of _ w _ ws is) ∙ node_variable n made.1)) ∙ e))
lower_root k (body j t) w ws made is e = absurd (false≢true (sym (ap (is_lower_form k) (ap node_of (first_of _ w _ ws is) ∙ node_body j made.0)) ∙ e))
lower_root k (head j r ds t) w ws made is e = absurd (false≢true (sym (ap (is_lower_form k) (ap node_of (first_of _ w _ ws is) ∙ node_head j r (count ds) made.0)) ∙ e))
lower_root k (form l ts) w ws made is e = (l, ts, refl)

pub right_side : (k : ℕ) (right : List ℕ) → right_shaped k right ≡ true → RightSide k right
right_side k [] e = absurd (false≢true e)
right_side k (w ∷ ws) e =
    let p = and_parts (is_lower_form k (node_of w) && list_all (on_right k) ws) (is_tree (w ∷ ws)) e in
    let q = and_parts (is_lower_form k (node_of w)) (list_all (on_right k) ws) p.0 in
    let t = tree_if (w ∷ ws) p.1 in
    let root = lower_root k t.0 w ws t.1 t.2 q.0 in (
      root.0,
      root.1,
      subst (λ u. WellMade u true) root.2 t.1,
      ap written (sym root.2) ∙ t.2,
      (or_right (is_argument w) (is_lower_form k (node_of w)) q.0, all_if_every (on_right k) ws q.1),
    )

-- the word of a form is no argument
lower_if : (k l n w : ℕ) → node_of w ≡ Some (Form l n) → on_right k w ≡ true → is_lower_form k (node_of w) ≡ true
lower_if k l n w is e =
    let none : (is_argument w) ≡ false = ap (λ (o : Option Node). is_variable o || is_atom o) is in
    ap (λ t. t || is_lower_form k (node_of w)) (sym none) ∙ e

form_first : (l : ℕ) (ts : Trees) → WellMade (form l ts) true → (ws : List ℕ) × (written (form l ts) ≡ word l (count ts) ∷ ws) × (node_of (word l (count ts)) ≡ Some (Form l (count ts)))
unfolding written WellMade
form_first l ts made = (_, refl, node_form l (count ts) made.0 made.1)

pub right_shaped_lem : (k : ℕ) (right : List ℕ) → RightSide k right → right_shaped k right ≡ true
right_shaped_lem k right s =
    let first = form_first s.0 s.1 s.2 in
    let is = sym s.3 ∙ first.1 in
    let all = subst (AllByRecursion (λ w. on_right k w ≡ true)) is s.4 in
    let tree = if_tree (word s.0 (count s.1) ∷ first.0) (form s.0 s.1) s.2 first.1 in
    ap (right_shaped k) is
    ∙ and_from _ _ (and_from _ _ (lower_if k s.0 (count s.1) (word s.0 (count s.1)) first.2 all.0) (every_if_all (on_right k) first.0 all.1)) tree

-- a word that stands for a node fits 32 bits
node_small : (w : ℕ) (o : Option Node) → Stands w o → (is_variable o || is_atom o) ≡ true → w < 4294967296
node_small w None s e = absurd (false≢true e)
node_small w (Some (Atom v)) s e = omega (arith, s.0, s.1)
node_small w (Some (Variable n)) s e = omega (arith, s.0, s.1)
node_small w (Some (Body k)) s e = absurd (false≢true e)
node_small w (Some (Head k r d)) s e = absurd (false≢true e)
node_small w (Some (Form l n)) s e = absurd (false≢true e)

right_small : (k w : ℕ) (o : Option Node) → Stands w o → ((is_variable o || is_atom o) || is_lower_form k o) ≡ true → w < 4294967296
right_small k w None s e = absurd (false≢true e)
right_small k w (Some (Atom v)) s e = omega (arith, s.0, s.1)
right_small k w (Some (Variable n)) s e = omega (arith, s.0, s.1)
right_small k w (Some (Body j)) s e = absurd (false≢true e)
right_small k w (Some (Head j r d)) s e = absurd (false≢true e)
right_small k w (Some (Form l n)) s e = omega (arith, s.0, leb-true l 255 (and_parts (leb 16 l) (leb l 255) s.1).1, s.2)

pub arguments_small : (args : List ℕ) → AllByRecursion (λ w. is_argument w ≡ true) args → AllByRecursion (λ w. w < 4294967296) args
arguments_small args a = All-weaker _ _ (λ w e. node_small w (node_of w) (stands w) e) args a

pub rights_small : (k : ℕ) (right : List ℕ) → AllByRecursion (λ w. on_right k w ≡ true) right → AllByRecursion (λ w. w < 4294967296) right
rights_small k right a = All-weaker _ _ (λ w e. right_small k w (node_of w) (stands w) e) right a
