-- The right side of an accepted rule: lower forms, atoms, and each variable once.
use Rattle.std.proofs.Common.{◌≡◌, ℕ, ◌+◌, ◌*◌, ◌<◌, Bool, true, false, ◌||◌, leb, List, [], ◌∷◌, ◌++◌, length, get_or, Some, Option, sym, refl, ap, ◌∙◌, subst, ⊎_elim, arith}
use Rattle.std.specs.List.{ContainsAt, AllByRecursion}
use Rattle.std.proofs.lemmas.List.{length-append, get_or_append_left, get_or-append-add}
use Rattle.std.proofs.lemmas.Bool.{eqb-true, or_cases, and_parts, leb-true, ltb-true, false≢true}
use Rattle.terms.specs.declared.words.Node.{Node}
use Rattle.terms.specs.declared.words.Node.TheVariants.{Body, Head, Form}
use Rattle.terms.specs.Words.{word, head_payload, node_of}
use Rattle.terms.specs.Trees.{Tree, Trees, atom, variable, body, head, form, none, more, count, written, written_all, WellMade, WellMadeAll}
use Rattle.terms.proofs.Nodes.{node_body, node_head, node_form}
use Rattle.lists.specs.Sides.{is_variable, is_atom, is_lower_form, on_right}
use Rattle.lists.specs.Laws.{OncePlaced}
use Rattle.languages.proofs.Asked.{apart}
use Rattle.expansion.specs.Rules.{stands, stands_any}
use Rattle.expansion.specs.Laws.{Right, RightAll}
use Rattle.expansion.proofs.Leaves.{stands-written, stands_all_written, once_behind, variable_word}

-- what holds of each word of two runs holds of each word of both
all_parts : (P : ℕ → Type 0) (xs ys : List ℕ) → AllByRecursion P (xs ++ ys) → AllByRecursion P xs × AllByRecursion P ys
all_parts P [] ys a = (tt, a)
all_parts P (x ∷ xs) ys a = let r = all_parts P xs ys a.1 in ((a.0, r.0), r.1)

-- variables once in two runs are once in the first
once_left : (xs ys : List ℕ) → OncePlaced (xs ++ ys) → OncePlaced xs
once_left xs ys o i j lt l v e =
    let a : get_or (xs ++ ys) i 0 ≡ get_or xs i 0 = get_or_append_left xs ys 0 i (omega arith) in
    let b : get_or (xs ++ ys) j 0 ≡ get_or xs j 0 = get_or_append_left xs ys 0 j l in
    o i j lt (omega (arith, length-append xs ys)) (ap (λ w. is_variable (node_of w)) a ∙ v) (a ∙ e ∙ sym b)

-- and once in the second
once_right : (xs ys : List ℕ) → OncePlaced (xs ++ ys) → OncePlaced ys
once_right [] ys o = o
once_right (x ∷ xs) ys o = once_right xs ys (once_behind x (xs ++ ys) o)

-- no variable stands in both
once_apart : (xs ys : List ℕ) (n : ℕ) → n < 8 → OncePlaced (xs ++ ys) → ContainsAt xs (word 2 n) → ContainsAt ys (word 2 n) → ⊥
once_apart xs ys n h o x y =
    let a : get_or (xs ++ ys) x.0 0 ≡ word 2 n = get_or_append_left xs ys 0 x.0 x.1 ∙ x.2 0 in
    let b : get_or (xs ++ ys) (length xs + y.0) 0 ≡ word 2 n = get_or-append-add xs ys y.0 0 ∙ y.2 0 in
    o x.0 (length xs + y.0) (omega (arith, x.1)) (omega (arith, length-append xs ys, y.1)) (ap (λ w. is_variable (node_of w)) a ∙ variable_word n h) (a ∙ sym b)

module _ (k : ℕ) where
  -- what a word of a right side stands for
  right_word : (w : ℕ) (o : Option Node) → node_of w ≡ o → on_right k w ≡ true → (is_variable o || is_atom o || is_lower_form k o) ≡ true
  right_word w o e h = subst (λ (x : Option Node). (is_variable x || is_atom x || is_lower_form k x) ≡ true) e h

  -- the index of a variable of a right side is below 8
  mutual
    unfolding Right RightAll stands stands_any

    pub right_small : (n : ℕ) (t : Tree) → Right k t → stands n t ≡ true → n < 8
    right_small n (atom v) r e = apart (cc)
    right_small n (variable m) r e = let is : m ≡ n = eqb-true m n e in omega (arith, r)
    right_small n (body j t) r e = absurd r
    right_small n (head j m ds t) r e = absurd r
    right_small n (form l ts) r e = rights_small n ts r.3 e

    rights_small : (n : ℕ) (ts : Trees) → RightAll k ts → stands_any n ts ≡ true → n < 8
    rights_small n none r e = apart (cc)
    rights_small n (more t ts) r e = ⊎_elim (λ h. right_small n t r.0 h) (λ h. rights_small n ts r.1 h) (or_cases (stands n t) (stands_any n ts) e)

  -- a well-made tree whose words may stand on a right side, its variables once, is a right side
  mutual
    unfolding Right RightAll written written_all WellMade WellMadeAll

    pub right_made : (t : Tree) → WellMade t true → AllByRecursion (λ w. on_right k w ≡ true) (written t) → OncePlaced (written t) → Right k t
    right_made (atom v) m a o = m
    right_made (variable n) m a o = m.1
    right_made (body j t) m a o = absurd (false≢true (right_word (word 3 j) (Some (Body j)) (node_body j m.0) a.0))
    right_made (head j r ds t) m a o = absurd (false≢true (right_word (word 4 (head_payload j r (count ds))) (Some (Head j r (count ds))) (node_head j r (count ds) m.0) a.0))
    right_made (form l ts) m a o =
        let low = leb-true 16 l (and_parts (leb 16 l) (leb l 255) m.0).0 in
        let high = ltb-true l (32 + 32 * k) (right_word (word l (count ts)) (Some (Form l (count ts))) (node_form l (count ts) m.0 m.1) a.0) in
        (low, high, m.1, rights_made ts m.2 a.1 (once_behind (word l (count ts)) (written_all ts) o))

    rights_made : (ts : Trees) → WellMadeAll ts true → AllByRecursion (λ w. on_right k w ≡ true) (written_all ts) → OncePlaced (written_all ts) → RightAll k ts
    rights_made none m a o = tt
    rights_made (more t ts) m a o =
        let p = all_parts (λ w. on_right k w ≡ true) (written t) (written_all ts) a in
        let here = right_made t m.0 p.0 (once_left (written t) (written_all ts) o) in
        let rest = rights_made ts m.1 p.1 (once_right (written t) (written_all ts) o) in
        (here, rest, λ n s. lone n (right_small n t here s) s (stands_any n ts) refl)
      where
        lone : (n : ℕ) → n < 8 → stands n t ≡ true → (b : Bool) → stands_any n ts ≡ b → b ≡ false
        lone n h s false e = refl
        lone n h s true e = absurd (once_apart (written t) (written_all ts) n h o (stands-written n t s) (stands_all_written n ts e))
