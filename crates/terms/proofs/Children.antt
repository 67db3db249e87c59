-- Each child of a term is found in its words, whatever stands behind them.
use Rattle.std.proofs.Common.{◌≡◌, ℕ, zero, suc, ◌+◌, ◌≤◌, false, cond, ltb, List, ◌∷◌, ◌++◌, length, take, drop, Some, None, Ok, Option, sym, refl, ap, ◌∙◌, subst, append_assoc, add-zero, one-add, arith}
use Rattle.std.proofs.lemmas.List.{take_at, drop_at}
use Rattle.std.proofs.lemmas.Bool.{lt-ltb, le-ltb, cond-true, cond-false}
use Rattle.terms.specs.Words.{node_of}
use Rattle.terms.specs.Trees.{Tree, Trees, none, more, count, written, written_all, WellMade, WellMadeAll, join, nth, children_of}
use Rattle.terms.specs.Fronts.{Stretch, wants, later, ending, stretch_at, child_behind, child_at}
use Rattle.terms.specs.Laws.{IsChild, ChildrenAreFound}
use Rattle.terms.proofs.Shapes.{word_of, written_is, written-join, count-join, made_parts, children_made, wants_children}
use Rattle.terms.proofs.Endings.{trees_end, one_ends}

-- the child at i, with i trees before it; or there are no more than i
abbrev Nth : ℕ → Trees → Option Tree → Type 0
Nth i ts None = count ts ≤ i
Nth i ts (Some t) = (before : Trees) × (behind : Trees) × (ts ≡ join before (more t behind)) × (count before ≡ i)

nth_by : (i : ℕ) (u : Tree) (ts : Trees) (o : Option Tree) → Nth i ts o → Nth (suc i) (more u ts) o
unfolding count join
nth_by i u ts None h = omega arith
nth_by i u ts (Some t) h = (more u h.0, h.1, ap (more u) h.2, ap suc h.3)

nth_is : (i : ℕ) (ts : Trees) → Nth i ts (nth i ts)
unfolding nth count join
nth_is zero none = omega arith
nth_is (suc i) none = omega arith
nth_is zero (more t ts) = (none, ts, refl, refl)
nth_is (suc i) (more u ts) = nth_by i u ts (nth i ts) (nth_is i ts)

-- the child at i behind the first word, by how many children that word wants
abbrev child_of : ℕ → List ℕ → Option ℕ → Option Stretch
child_of i ws None = None
child_of i ws (Some n) = cond (ltb i n) (child_behind ws (ending false i ws)) None

child_at_lem : (i w : ℕ) (ws : List ℕ) → child_at i (w ∷ ws) ≡ child_of i ws (wants false (node_of w))
child_at_lem i w ws = same (wants false (node_of w))
  where
    same : (o : Option ℕ) → elim o [ None ↦ None | Some n ↦ cond (ltb i n) (child_behind ws (ending false i ws)) None ] ≡ child_of i ws o
    same None = refl
    same (Some n) = refl

-- behind the words of i trees stands the one wanted
child_behind_lem : (before : Trees) (t : Tree) (tail : List ℕ) → WellMadeAll before false → WellMade t false → child_behind (written_all before ++ (written t ++ tail)) (ending false (count before) (written_all before ++ (written t ++ tail))) ≡ Some (record { place = 1 + length (written_all before); length = length (written t) })
unfolding ending later
child_behind_lem before t tail h k =
    let ws = written_all before ++ (written t ++ tail) in
    let size = length (written_all before) in
    let skipped : ending false (count before) ws ≡ Ok size =
    ap (λ n. ending false n ws) (sym (add-zero (count before))) ∙ trees_end before false 0 (written t ++ tail) h ∙ ap Ok (add-zero size) in
    let one : ending false 1 (drop size ws) ≡ Ok (length (written t)) =
    ap (ending false 1) (drop_at (written_all before) (written t ++ tail) size refl) ∙ one_ends t false tail k in
    ap (child_behind ws) skipped ∙ ap (stretch_at (1 + size)) one

-- the words of the child that stands behind others
child_words_lem : (w : ℕ) (front words tail : List ℕ) → take (length words) (drop (1 + length front) (w ∷ (front ++ (words ++ tail)))) ≡ words
child_words_lem w front words tail =
    ap (λ n. take (length words) (drop n (w ∷ (front ++ (words ++ tail))))) (one-add (length front))
    ∙ ap (take (length words)) (drop_at front (words ++ tail) (length front) refl)
    ∙ take_at words tail (length words) refl

module _ (t : Tree) (rest : List ℕ) (i : ℕ) (h : WellMade t false) where
  in_front : written t ++ rest ≡ word_of t ∷ (written_all (children_of t) ++ rest)
  in_front = ap (λ l. l ++ rest) (written_is t)

  found : child_at i (written t ++ rest) ≡ child_of i (written_all (children_of t) ++ rest) (Some (count (children_of t)))
  found =
      ap (child_at i) in_front
      ∙ child_at_lem i (word_of t) (written_all (children_of t) ++ rest)
      ∙ ap (child_of i (written_all (children_of t) ++ rest)) (wants_children t false h)

  child_there : (u : Tree) (before behind : Trees) → children_of t ≡ join before (more u behind) → count before ≡ i → IsChild (written t ++ rest) (Some u) (child_at i (written t ++ rest))
  unfolding count written_all WellMadeAll
  child_there u before behind e same =
      let tail = written_all behind ++ rest in
      let ws = written_all (children_of t) ++ rest in
      let words : ws ≡ written_all before ++ (written u ++ tail) =
      ap (λ l. l ++ rest) (ap written_all e ∙ written-join before (more u behind))
      ∙ append_assoc (written_all before) (written u ++ written_all behind) rest
      ∙ ap (λ l. written_all before ++ l) (append_assoc (written u) (written_all behind) rest) in
      let size : count (children_of t) ≡ count before + suc (count behind) = ap count e ∙ count-join before (more u behind) in
      let made = made_parts before (more u behind) false (subst (λ x. WellMadeAll x false) e (children_made t false h)) in
      let stretch =
      found
      ∙ cond-true _ _ _ (lt-ltb i (count (children_of t)) (omega arith))
      ∙ (λ j. child_behind (words j) (ending false (sym same j) (words j)))
      ∙ child_behind_lem before u tail made.0 made.1.0 in
      subst (IsChild (written t ++ rest) (Some u)) (sym stretch)
      (ap (λ l. take (length (written u)) (drop (1 + length (written_all before)) l)) (in_front ∙ ap (λ l. word_of t ∷ l) words) ∙ child_words_lem (word_of t) (written_all before) (written u) tail)

  child_by : (o : Option Tree) → Nth i (children_of t) o → IsChild (written t ++ rest) o (child_at i (written t ++ rest))
  child_by None n =
      subst (IsChild (written t ++ rest) None) (sym (found ∙ cond-false _ _ _ (le-ltb i (count (children_of t)) n))) tt
  child_by (Some u) n = child_there u n.0 n.1 n.2 n.3

pub children_found : ChildrenAreFound
children_found t rest i h = child_by t rest i h (nth i (children_of t)) (nth_is i (children_of t))
