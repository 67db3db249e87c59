-- The node that a word stands for, from its label and payload; and back, what a word is that stands for a node.
use Rattle.std.proofs.Common.{◌≡◌, ℕ, ◌/◌, ◌%◌, ◌<◌, ◌≤◌, true, cond, ◌&&◌, eqb, ltb, leb, Some, None, Option, sym, refl, ◌∙◌, subst, arith}
use Rattle.std.proofs.lemmas.Bool.{eqb-true, ltb-true, leb-true, lt-ltb, le-leb, ne_eqb, and_parts, and_from, cond_both, cond-true, cond-false}
use Rattle.terms.specs.declared.words.Node.{Node}
use Rattle.terms.specs.declared.words.Node.TheVariants.{Atom, Variable, Body, Head, Form}
use Rattle.terms.specs.Words.{word, head_payload, head_at, form_at, node_at, is_layer, is_head, is_form_label, node_of}

-- a word is read by its label and its payload
pub node_of_word : (l p : ℕ) → p < 16777216 → node_of (word l p) ≡ node_at l p
node_of_word l p h =
    let label : word l p / 16777216 ≡ l = omega arith in
    let payload : word l p % 16777216 ≡ p = omega arith in
    λ i. node_at (label i) (payload i)

pub node_atom : (v : ℕ) → v < 16777216 → node_of (word 0 v) ≡ Some (Atom v)
node_atom v h = node_of_word 0 v h

pub node_variable : (n : ℕ) → n < 8 → node_of (word 2 n) ≡ Some (Variable n)
node_variable n h = node_of_word 2 n (omega arith) ∙ cond-true _ _ _ (lt-ltb n 8 h)

layer_range : (k : ℕ) → is_layer k ≡ true → k ≤ 6
layer_range k h = leb-true k 6 (and_parts (leb 1 k) (leb k 6) h).1

pub node_body : (k : ℕ) → is_layer k ≡ true → node_of (word 3 k) ≡ Some (Body k)
node_body k h = let top = layer_range k h in node_of_word 3 k (omega arith) ∙ cond-true _ _ _ h

pub node_head : (k r d : ℕ) → is_head k r d ≡ true → node_of (word 4 (head_payload k r d)) ≡ Some (Head k r d)
node_head k r d h =
    let outer = and_parts (is_layer k && ltb r 32) (leb d 8) h in
    let inner = and_parts (is_layer k) (ltb r 32) outer.0 in
    let top = layer_range k inner.0 in
    let few = ltb-true r 32 inner.1 in
    let short = leb-true d 8 outer.1 in
    let layer : head_payload k r d / 65536 ≡ k = omega arith in
    let rule : head_payload k r d / 256 % 256 ≡ r = omega arith in
    let dropped : head_payload k r d % 256 ≡ d = omega arith in
    node_of_word 4 (head_payload k r d) (omega arith)
    ∙ (λ i. cond (is_head (layer i) (rule i) (dropped i)) (Some (Head (layer i) (rule i) (dropped i))) None)
    ∙ cond-true _ _ _ h

pub node_form : (l n : ℕ) → is_form_label l ≡ true → n ≤ 8 → node_of (word l n) ≡ Some (Form l n)
node_form l n h k =
    let low = leb-true 16 l (and_parts (leb 16 l) (leb l 255) h).0 in
    node_of_word l n (omega arith)
    ∙ cond-false (eqb l 0) _ _ (ne_eqb l 0 (omega arith))
    ∙ cond-false (eqb l 2) _ _ (ne_eqb l 2 (omega arith))
    ∙ cond-false (eqb l 3) _ _ (ne_eqb l 3 (omega arith))
    ∙ cond-false (eqb l 4) _ _ (ne_eqb l 4 (omega arith))
    ∙ cond-true _ _ _ (and_from (is_form_label l) (leb n 8) h (le-leb n 8 k))

-- the word is the one that is written for the node, whose numbers are in their ranges
abbrev pub Stands : ℕ → Option Node → Type 0
Stands w None = Unit {0}
Stands w (Some (Atom v)) = (w ≡ word 0 v) × (v < 16777216)
Stands w (Some (Variable n)) = (w ≡ word 2 n) × (n < 8)
Stands w (Some (Body k)) = (w ≡ word 3 k) × (is_layer k ≡ true)
Stands w (Some (Head k r d)) = (w ≡ word 4 (head_payload k r d)) × (is_head k r d ≡ true)
Stands w (Some (Form l n)) = (w ≡ word l n) × (is_form_label l ≡ true) × (n ≤ 8)

stands_head : (p : ℕ) → p < 16777216 → Stands (word 4 p) (head_at p)
stands_head p h =
    cond_both (is_head (p / 65536) (p / 256 % 256) (p % 256)) _ _ (Stands (word 4 p)) (λ e. (omega arith, e)) (λ e. tt)

stands_form : (l n : ℕ) → Stands (word l n) (form_at l n)
stands_form l n =
    cond_both (is_form_label l && leb n 8) _ _ (Stands (word l n))
    (λ e. let both = and_parts (is_form_label l) (leb n 8) e in (refl, both.0, leb-true n 8 both.1))
    (λ e. tt)

stands_at : (l p : ℕ) → p < 16777216 → Stands (word l p) (node_at l p)
stands_at l p h =
    let S : Option Node → Type 0 = Stands (word l p) in
    cond_both (eqb l 0) _ _ S (λ e. (let z = eqb-true l 0 e in omega arith, h))
    (λ e0. cond_both (eqb l 2) _ _ S (λ e. cond_both (ltb p 8) _ _ S (λ f. (let z = eqb-true l 2 e in omega arith, ltb-true p 8 f)) (λ f. tt))
    (λ e2. cond_both (eqb l 3) _ _ S (λ e. cond_both (is_layer p) _ _ S (λ f. (let z = eqb-true l 3 e in omega arith, f)) (λ f. tt))
    (λ e3. cond_both (eqb l 4) _ _ S (λ e. subst (λ x. Stands (word x p) (head_at p)) (sym (eqb-true l 4 e)) (stands_head p h))
    (λ e4. stands_form l p))))

-- what a word is, by the node that it stands for
pub stands : (w : ℕ) → Stands w (node_of w)
stands w =
    let same : word (w / 16777216) (w % 16777216) ≡ w = omega arith in
    subst (λ x. Stands x (node_of w)) same (stands_at (w / 16777216) (w % 16777216) (omega arith))
