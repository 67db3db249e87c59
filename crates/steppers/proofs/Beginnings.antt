-- Words that begin with a term: its first word, and what stands behind that.
use Rattle.std.proofs.Common.{◌≡◌, ℕ, ◌+◌, ◌-◌, ◌<◌, ◌≤◌, false, List, [], ◌∷◌, ◌++◌, length, take, drop, Some, None, Ok, sym, refl, ap, ◌∙◌, append_assoc, add-zero, arith}
use Rattle.std.proofs.lemmas.List.{drop_at, length-drop, take_rest}
use Rattle.terms.specs.Words.{node_of}
use Rattle.terms.specs.Trees.{Tree, Trees, atom, variable, body, head, form, count, written, written_all, WellMade, WellMadeAll, children_of}
use Rattle.terms.specs.Fronts.{later, ending}
use Rattle.terms.proofs.Shapes.{word_of, node_for, node_for_lem, written_is}
use Rattle.terms.proofs.Endings.{trees_end}
use Rattle.terms.proofs.Fillings.{ends_within}
use Rattle.languages.proofs.Asked.{apart}
use Rattle.steppers.specs.Looks.{BeginsWith}
use Rattle.steppers.specs.Places.{marks_length}
use Rattle.steppers.specs.Placed.{dropped_by}

-- the first word, and the words of the children behind it
front : (w : ℕ) (ws : List ℕ) (t : Tree) (b : BeginsWith (w ∷ ws) t) → w ∷ ws ≡ word_of t ∷ (written_all (children_of t) ++ b.1.0)
front w ws t b = b.1.1 ∙ ap (λ l. l ++ b.1.0) (written_is t)

-- the first word stands for the node of the term
pub front_node : (w : ℕ) (ws : List ℕ) (t : Tree) → BeginsWith (w ∷ ws) t → node_of w ≡ Some (node_for t)
front_node w ws t b =
    let e = front w ws t b in
    let same : w ≡ word_of t = cc in
    ap node_of same ∙ node_for_lem t false b.0

-- the words behind the first begin with those of the children
pub front_behind : (w : ℕ) (ws : List ℕ) (t : Tree) (b : BeginsWith (w ∷ ws) t) → ws ≡ written_all (children_of t) ++ b.1.0
front_behind w ws t b = let e = front w ws t b in cc

-- no term begins without a word
pub no_front : (t : Tree) → BeginsWith [] t → ⊥
no_front t b =
    let e = ap length (b.1.1 ∙ ap (λ l. l ++ b.1.0) (written_is t)) in
    omega arith

-- terms in front of words end behind their own words
pub all_end : (ts : Trees) (rest : List ℕ) → WellMadeAll ts false → ending false (count ts) (written_all ts ++ rest) ≡ Ok (length (written_all ts))
unfolding ending later
all_end ts rest h =
    ap (λ n. ending false n (written_all ts ++ rest)) (sym (add-zero (count ts)))
    ∙ trees_end ts false 0 rest h
    ∙ ap Ok (add-zero (length (written_all ts)))

-- where terms end in the slice behind place n, they end within the words
pub skip_within : (words : List ℕ) (n d size : ℕ) → n < length words → Ok size ≡ ending false d (take (length words - (n + 1)) (drop (n + 1) words)) → (ending false d (drop (n + 1) words) ≡ Ok size) × (n + (1 + size) ≤ length words)
skip_within words n d size h e =
    let ended = ap (ending false d) (sym (take_rest words (n + 1))) ∙ sym e in
    let within = ends_within false d (drop (n + 1) words) size ended in
    let left = length-drop (n + 1) words in
    (ended, omega arith)

-- behind a mark with d dropped terms: these end, and the term inside the mark begins
pub record Inner (ws : List ℕ) (d : ℕ) (t : Tree) : Type 0 where
  pub size : ℕ
  pub ends : ending false d ws ≡ Ok size
  pub tree : Tree
  pub begins : BeginsWith (drop size ws) tree
  pub marks : 1 + size + marks_length tree ≡ marks_length t

-- the same, by the kind of the term
inner_by : (w : ℕ) (ws : List ℕ) (d : ℕ) (t : Tree) → BeginsWith (w ∷ ws) t → dropped_by (Some (node_for t)) ≡ Some d → Inner ws d t
unfolding written written_all WellMade marks_length ending
inner_by w ws d (atom v) b e = apart (cc)
inner_by w ws d (variable n) b e = apart (cc)
inner_by w ws d (body k t) b e =
    let behind : ws ≡ written t ++ b.1.0 = let is = b.1.1 in cc in
    let zero : 0 ≡ d = cc in
    record {
      size = 0;
      ends = ap (λ n. ending false n ws) (sym zero);
      tree = t;
      begins = (b.0.1, (b.1.0, behind));
      marks = omega arith;
    }
inner_by w ws d (head k r ds t) b e =
    let behind : ws ≡ (written_all ds ++ written t) ++ b.1.0 = let is = b.1.1 in cc in
    let split = behind ∙ append_assoc (written_all ds) (written t) b.1.0 in
    let many : count ds ≡ d = cc in
    record {
      size = length (written_all ds);
      ends = (λ j. ending false (sym many j) (split j)) ∙ all_end ds (written t ++ b.1.0) b.0.1;
      tree = t;
      begins = (b.0.2, (b.1.0, ap (drop (length (written_all ds))) split ∙ drop_at (written_all ds) (written t ++ b.1.0) (length (written_all ds)) refl));
      marks = refl;
    }
inner_by w ws d (form l ts) b e = apart (cc)

-- at a word that is a mark
pub inner : (w : ℕ) (ws : List ℕ) (d : ℕ) (t : Tree) → BeginsWith (w ∷ ws) t → dropped_by (node_of w) ≡ Some d → Inner ws d t
inner w ws d t b e = inner_by w ws d t b (ap dropped_by (sym (front_node w ws t b)) ∙ e)

-- a node that is no mark has no words in front of it
no_mark_by : (t : Tree) → dropped_by (Some (node_for t)) ≡ None → marks_length t ≡ 0
unfolding marks_length
no_mark_by (atom v) e = refl
no_mark_by (variable n) e = refl
no_mark_by (body k t) e = apart (cc)
no_mark_by (head k r ds t) e = apart (cc)
no_mark_by (form l ts) e = refl

-- at a word that is no mark
pub no_mark : (w : ℕ) (ws : List ℕ) (t : Tree) → BeginsWith (w ∷ ws) t → dropped_by (node_of w) ≡ None → marks_length t ≡ 0
no_mark w ws t b e = no_mark_by t (ap dropped_by (sym (front_node w ws t b)) ∙ e)
