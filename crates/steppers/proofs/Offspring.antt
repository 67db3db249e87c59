-- The children of a form in its words: where each begins, and what is seen of it.
use Rattle.std.proofs.Common.{◌≡◌, ℕ, zero, suc, ◌+◌, ◌<◌, ◌≤◌, false, List, ◌∷◌, ◌++◌, length, drop, Some, None, Ok, Err, Option, sym, refl, ap, ◌∙◌, subst, append_assoc, one-add, arith}
use Rattle.std.proofs.lemmas.List.{drop_at, drop-drop, nil_from_length}
use Rattle.terms.specs.declared.front.Broken.{Broken}
use Rattle.terms.specs.Words.{node_of}
use Rattle.terms.specs.Trees.{Tree, Trees, form, none, more, count, written, written_all, WellMade, WellMadeAll, nth, children_of}
use Rattle.terms.specs.Fronts.{later, ending}
use Rattle.terms.proofs.Endings.{tree_ends}
use Rattle.terms.proofs.Fillings.{ends_within}
use Rattle.languages.proofs.Asked.{apart}
use Rattle.steppers.specs.declared.action.Seen.{Seen}
use Rattle.steppers.specs.Looks.{BeginsWith, seen, seen_all, seen_at}
use Rattle.steppers.specs.Places.{length_before}
use Rattle.steppers.specs.Placed.{form_count, SeenOf, StartOf, SeenChild}
use Rattle.steppers.proofs.Beginnings.{front_node, front_behind, no_front}

-- the first i terms end behind their words
some_end : (i : ℕ) (ts : Trees) (rest : List ℕ) → WellMadeAll ts false → i ≤ count ts → ending false i (written_all ts ++ rest) ≡ Ok (length_before i ts)
unfolding ending later count written_all WellMadeAll length_before
some_end zero none rest h l = refl
some_end zero (more t ts) rest h l = refl
some_end (suc i) none rest h l = absurd (omega arith)
some_end (suc i) (more t ts) rest h l =
    ap (ending false (suc i)) (append_assoc (written t) (written_all ts) rest)
    ∙ tree_ends t false i (written_all ts ++ rest) h.0
    ∙ ap (later (length (written t))) (some_end i ts rest h.1 (omega arith))

-- tree i of a forest, where there is one, begins behind those before it
pub record Nth (i : ℕ) (ts : Trees) (words : List ℕ) : Type 0 where
  pub tree : Tree
  pub is : nth i ts ≡ Some tree
  pub begins : BeginsWith words tree

-- the forest has as many trees as are counted
tree_there : (i : ℕ) (ts : Trees) (rest : List ℕ) → WellMadeAll ts false → i < count ts → Nth i ts (drop (length_before i ts) (written_all ts ++ rest))
unfolding count written_all WellMadeAll length_before nth
tree_there zero none rest h l = absurd (omega arith)
tree_there (suc i) none rest h l = absurd (omega arith)
tree_there zero (more t ts) rest h l = record {
  tree = t;
  is = refl;
  begins = (h.0, (written_all ts ++ rest, append_assoc (written t) (written_all ts) rest));
}
tree_there (suc i) (more t ts) rest h l =
    let n = tree_there i ts rest h.1 (omega arith) in
    let place : drop (length_before i ts) (written_all ts ++ rest) ≡ drop (length (written t) + length_before i ts) ((written t ++ written_all ts) ++ rest) =
    sym (ap (drop (length (written t) + length_before i ts)) (append_assoc (written t) (written_all ts) rest)
    ∙ sym (drop-drop (length_before i ts) (length (written t)) (written t ++ (written_all ts ++ rest)))
    ∙ ap (drop (length_before i ts)) (drop_at (written t) (written_all ts ++ rest) (length (written t)) refl)) in
    record { tree = n.tree; is = n.is; begins = subst (λ l. BeginsWith l n.tree) place n.begins }

-- past the last tree there is none
none_there : (i : ℕ) (ts : Trees) → count ts ≤ i → nth i ts ≡ None
unfolding count nth
none_there zero none h = refl
none_there (suc i) none h = refl
none_there zero (more t ts) h = absurd (omega arith)
none_there (suc i) (more t ts) h = none_there i ts (omega arith)

-- no form begins without a word
pub no_start : (words : List ℕ) (i : ℕ) → length words ≡ 0 → StartOf words i None
no_start words i h l ts b =
    absurd (no_front (form l ts) (subst (λ x. BeginsWith x (form l ts)) (nil_from_length words h) b))

-- where child i of a form begins, by the first word and what stands behind it
module _ (words : List ℕ) (w : ℕ) (ws : List ℕ) (is : words ≡ w ∷ ws) (i : ℕ) where
  from_word : (t : Tree) → BeginsWith words t → BeginsWith (w ∷ ws) t
  from_word t b = subst (λ x. BeginsWith x t) is b

  -- the first word has the count of the children
  counted : (l : ℕ) (ts : Trees) → BeginsWith words (form l ts) → form_count (node_of w) ≡ Some (count ts)
  counted l ts b = ap form_count (front_node w ws (form l ts) (from_word (form l ts) b))

  -- the first i children end where child i begins
  ended : (l : ℕ) (ts : Trees) → BeginsWith words (form l ts) → i ≤ count ts → ending false i ws ≡ Ok (length_before i ts)
  unfolding children_of WellMade
  ended l ts b h =
      let f = from_word (form l ts) b in
      ap (ending false i) (front_behind w ws (form l ts) f) ∙ some_end i ts f.1.0 f.0.2 h

  -- the word is not that of a form
  pub start_of_other : form_count (node_of w) ≡ None → StartOf words i None
  start_of_other e l ts b =
      let n = counted l ts b in
      apart (cc)

  module _ (n : ℕ) (e : form_count (node_of w) ≡ Some n) where
    -- the form has no child i
    pub start_past : n ≤ i → StartOf words i None
    start_past h l ts b =
        let k = counted l ts b in
        let same : n ≡ count ts = cc in
        none_there i ts (omega arith)

    module _ (h : i < n) where
      -- the children of a form end
      pub start_broken : (r : Broken) → ending false i ws ≡ Err r → StartOf words i None
      start_broken r f l ts b =
          let k = counted l ts b in
          let same : n ≡ count ts = cc in
          let g = ended l ts b (omega arith) in
          apart (cc)

      -- child i begins behind the first i children
      pub start_there : (size : ℕ) → ending false i ws ≡ Ok size → StartOf words i (Some (1 + size))
      start_there size f =
          let within = ends_within false i ws size f in
          let long = ap length is in (
            omega arith,
            omega arith,
            λ l ts b.
                let k = counted l ts b in
                let same : n ≡ count ts = cc in
                let g = ended l ts b (omega arith) in
                let place : size ≡ length_before i ts = cc in
                (omega arith, ap (λ x. 1 + x) place),
          )

-- child i begins there
pub child_there : (words : List ℕ) (l : ℕ) (ts : Trees) (i : ℕ) → BeginsWith words (form l ts) → i < count ts → Nth i ts (drop (1 + length_before i ts) words)
unfolding written WellMade
child_there words l ts i b h =
    let n = tree_there i ts b.1.0 b.0.2 h in
    let place : drop (1 + length_before i ts) words ≡ drop (length_before i ts) (written_all ts ++ b.1.0) =
    (λ j. drop (one-add (length_before i ts) j) (b.1.1 j)) in
    record { tree = n.tree; is = n.is; begins = subst (λ l. BeginsWith l n.tree) (sym place) n.begins }

-- what is seen of a tree, if there is one
abbrev seen_of : Option Tree → Option Seen
seen_of None = None
seen_of (Some t) = Some (seen t)

-- what is seen at i is seen of tree i
seen_nth : (i : ℕ) (ts : Trees) → seen_at i (seen_all ts) ≡ seen_of (nth i ts)
unfolding seen_at seen_all nth
seen_nth zero none = refl
seen_nth (suc i) none = refl
seen_nth zero (more t ts) = refl
seen_nth (suc i) (more t ts) = seen_nth i ts

-- nothing is seen of a child that is not there
pub child_unseen : (words : List ℕ) (i : ℕ) → StartOf words i None → SeenChild words i None
child_unseen words i s l ts b = sym (seen_nth i ts ∙ ap seen_of (s l ts b))

-- what is seen where child i begins is seen of child i
pub child_seen : (words : List ℕ) (i start : ℕ) (r : Option Seen) → StartOf words i (Some start) → SeenOf (drop start words) r → SeenChild words i r
child_seen words i start r s look l ts b =
    let at = s.2 l ts b in
    let n = child_there words l ts i b at.0 in
    look n.tree (subst (λ k. BeginsWith (drop k words) n.tree) (sym at.1) n.begins)
    ∙ sym (seen_nth i ts ∙ ap seen_of n.is)
