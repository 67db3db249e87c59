-- Well-made trees in front of a run end where their words end.
use Rattle.std.proofs.Common.{◌≡◌, ℕ, suc, ◌+◌, Bool, List, ◌∷◌, ◌++◌, length, Ok, Result, sym, ap, ◌∙◌, append_assoc, add-zero, zero-add, arith, length-append}
use Rattle.terms.specs.declared.front.Broken.{Broken}
use Rattle.terms.specs.Trees.{Tree, Trees, atom, variable, body, head, form, none, more, count, written, written_all, WellMade, WellMadeAll, children_of}
use Rattle.terms.specs.Fronts.{later, ending}
use Rattle.terms.proofs.Shapes.{word_of, wants_children, count-join}
use Rattle.terms.proofs.Turns.{later_none, later-later, ending_stands}

-- the first word of a tree in front of words that end its children
past_word : (t : Tree) (v : Bool) (n k m : ℕ) (ws : List ℕ) (r : Result ℕ Broken) → WellMade t v → n + count (children_of t) ≡ k → ending v k ws ≡ later m r → ending v (suc n) (word_of t ∷ ws) ≡ later (suc m) r
past_word t v n k m ws r h same e =
    let more : 1 + m ≡ suc m = omega arith in
    ending_stands v n (word_of t) (count (children_of t)) ws (wants_children t v h)
    ∙ ap (λ x. later 1 (ending v x ws)) same
    ∙ ap (later 1) e
    ∙ later-later 1 m r
    ∙ ap (λ x. later x r) more

-- words behind words, where both end terms
past_both : (v : Bool) (k j : ℕ) (xs ys ws : List ℕ) (r : Result ℕ Broken) → ending v k (xs ++ (ys ++ ws)) ≡ later (length xs) (ending v j (ys ++ ws)) → ending v j (ys ++ ws) ≡ later (length ys) r → ending v k ((xs ++ ys) ++ ws) ≡ later (length (xs ++ ys)) r
past_both v k j xs ys ws r e f =
    ap (ending v k) (append_assoc xs ys ws)
    ∙ e
    ∙ ap (later (length xs)) f
    ∙ later-later (length xs) (length ys) r
    ∙ ap (λ x. later x r) (sym (length-append xs ys))

mutual
  unfolding written written_all WellMade WellMadeAll count children_of

  pub tree_ends : (t : Tree) (v : Bool) (n : ℕ) (ws : List ℕ) → WellMade t v → ending v (suc n) (written t ++ ws) ≡ later (length (written t)) (ending v n ws)
  tree_ends (atom a) v n ws h = past_word (atom a) v n n 0 ws (ending v n ws) h (omega arith) (sym (later_none (ending v n ws)))
  tree_ends (variable i) v n ws h = past_word (variable i) v n n 0 ws (ending v n ws) h (omega arith) (sym (later_none (ending v n ws)))
  tree_ends (body k t) v n ws h = past_word (body k t) v n (suc n) (length (written t)) (written t ++ ws) (ending v n ws) h (omega arith) (tree_ends t v n ws h.1)
  tree_ends (head k r ds t) v n ws h =
      let both = past_both v (count ds + suc n) (suc n) (written_all ds) (written t) ws (ending v n ws) (trees_end ds v (suc n) (written t ++ ws) h.1) (tree_ends t v n ws h.2) in
      let all = count-join ds (more t none) in
      past_word (head k r ds t) v n (count ds + suc n) (length (written_all ds ++ written t)) ((written_all ds ++ written t) ++ ws) (ending v n ws) h (omega arith) both
  tree_ends (form l ts) v n ws h = past_word (form l ts) v n (count ts + n) (length (written_all ts)) (written_all ts ++ ws) (ending v n ws) h (omega arith) (trees_end ts v n ws h.2)

  pub trees_end : (ts : Trees) (v : Bool) (n : ℕ) (ws : List ℕ) → WellMadeAll ts v → ending v (count ts + n) (written_all ts ++ ws) ≡ later (length (written_all ts)) (ending v n ws)
  trees_end none v n ws h = ap (λ k. ending v k ws) (zero-add n) ∙ sym (later_none (ending v n ws))
  trees_end (more t ts) v n ws h =
      let all : suc (count ts) + n ≡ suc (count ts + n) = omega arith in
      past_both v (suc (count ts) + n) (count ts + n) (written t) (written_all ts) ws (ending v n ws) (ap (λ k. ending v k (written t ++ (written_all ts ++ ws))) all ∙ tree_ends t v (count ts + n) (written_all ts ++ ws) h.0) (trees_end ts v n ws h.1)

-- one well-made tree ends behind its words
pub one_ends : (t : Tree) (v : Bool) (ws : List ℕ) → WellMade t v → ending v 1 (written t ++ ws) ≡ Ok (length (written t))
unfolding ending later
one_ends t v ws h = tree_ends t v 0 ws h ∙ ap Ok (add-zero (length (written t)))
