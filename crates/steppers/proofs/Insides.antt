-- The way through the marks of a term to the node inside them, and what is seen there.
use Rattle.std.proofs.Common.{◌≡◌, ℕ, ◌+◌, ◌<◌, ◌≤◌, false, List, ◌∷◌, ◌++◌, length, get_or, drop, Some, None, Ok, Err, Option, unwrap_or, sym, refl, ap, ◌∙◌, subst, append_assoc, add_assoc, one-add, arith}
use Rattle.std.proofs.lemmas.List.{drop_at, drop-drop, drop_more, drop_all}
use Rattle.std.proofs.lemmas.Bool.{false≢true}
use Rattle.terms.specs.declared.front.Broken.{Broken}
use Rattle.terms.specs.Words.{node_of, word, head_payload}
use Rattle.terms.specs.Trees.{Tree, atom, variable, body, head, form, count, written, written_all, WellMade}
use Rattle.terms.specs.Fronts.{ending}
use Rattle.terms.proofs.Shapes.{node_for}
use Rattle.languages.proofs.Asked.{apart}
use Rattle.steppers.specs.Looks.{BeginsWith, seen}
use Rattle.steppers.specs.Places.{marks_length}
use Rattle.steppers.specs.Placed.{dropped_by, seen_by, InsideOf}
use Rattle.steppers.specs.Walks.{Reaches, begins, goes_on, RunsOut, over, broken, StopsAt}
use Rattle.steppers.proofs.Beginnings.{front_node, no_front, inner, no_mark}

-- what a term begins with n words on, n words of its marks being passed
abbrev Passed : List ℕ → ℕ → Type 0
Passed words n = (t : Tree) → BeginsWith words t → (u : Tree) × BeginsWith (drop n words) u × (n + marks_length u ≡ marks_length t)

-- at first nothing is passed
passed_none : (words : List ℕ) → Passed words 0
passed_none words t b = (t, b, omega arith)

module _ (words : List ℕ) (n : ℕ) (p : Passed words n) where
  -- behind the last word no term begins
  passed_over : length words ≤ n → (t : Tree) → BeginsWith words t → ⊥
  passed_over h t b =
      let q = p t b in
      no_front q.0 (subst (λ l. BeginsWith l q.0) (drop_all n words h) q.1)

  module _ (h : n < length words) where
    here : (t : Tree) (b : BeginsWith words t) → BeginsWith (get_or words n 0 ∷ drop (n + 1) words) (p t b).0
    here t b = let q = p t b in subst (λ l. BeginsWith l q.0) (drop_more words n 0 h) q.1

    -- a word that is no mark: the node inside the marks
    passed_all : dropped_by (node_of (get_or words n 0)) ≡ None → (t : Tree) → BeginsWith words t → n ≡ marks_length t
    passed_all e t b =
        let q = p t b in
        let z = no_mark (get_or words n 0) (drop (n + 1) words) q.0 (here t b) e in
        omega (arith, q.2)

    -- behind a mark of a term its dropped terms end
    passed_broken : (d : ℕ) (r : Broken) → dropped_by (node_of (get_or words n 0)) ≡ Some d → ending false d (drop (n + 1) words) ≡ Err r → (t : Tree) → BeginsWith words t → ⊥
    passed_broken d r e s t b =
        let i = inner (get_or words n 0) (drop (n + 1) words) d (p t b).0 (here t b) e in
        let ends = i.ends in
        apart (cc)

    -- a mark, with its dropped terms
    passed_mark : (d size : ℕ) → dropped_by (node_of (get_or words n 0)) ≡ Some d → ending false d (drop (n + 1) words) ≡ Ok size → Passed words (n + (1 + size))
    passed_mark d size e s t b =
        let q = p t b in
        let i = inner (get_or words n 0) (drop (n + 1) words) d q.0 (here t b) e in
        let ends = i.ends in
        let same : i.size ≡ size = cc in
        let place : drop i.size (drop (n + 1) words) ≡ drop (n + (1 + size)) words =
        drop-drop i.size (n + 1) words ∙ ap (λ k. drop k words) (omega arith) in
        (i.tree, subst (λ l. BeginsWith l i.tree) place i.begins, omega (arith, q.2, i.marks))

-- a walk in which each mark goes with its dropped terms, and no other word is passed
module _ (Passes : ℕ → Option ℕ → Type 0) (drops : (w : ℕ) (r : Option ℕ) → Passes w r → r ≡ dropped_by (node_of w)) (words : List ℕ) where
  -- it passes the marks
  passed : (n : ℕ) → Reaches Passes words n → Passed words n
  passed _ begins = passed_none words
  passed _ (goes_on n d size r l p e) = passed_mark words n (passed n r) l d size (sym (drops _ _ p)) e

  -- and where a term begins it does not run out
  passes_no_term : (t : Tree) → BeginsWith words t → RunsOut Passes words → ⊥
  passes_no_term t b (over n r l) = passed_over words n (passed n r) l t b
  passes_no_term t b (broken n d q r l p e) = passed_broken words n (passed n r) l d q (sym (drops _ _ p)) e t b

  -- so it stops at the node inside the marks
  pub stops_inside : (r : Option ℕ) → StopsAt Passes words r → InsideOf words (unwrap_or r (length words))
  stops_inside None s = (omega arith, λ t b. absurd (passes_no_term t b s))
  stops_inside (Some n) s = (omega (arith, s.1), passed_all words n (passed n s.0) s.1 (sym (drops _ _ s.2)))

-- the node inside the marks
unfoldable pub core : Tree → Tree
core (atom v) = atom v
core (variable n) = variable n
core (body k t) = core t
core (head k r ds t) = core t
core (form l ts) = form l ts

-- the node inside the marks is as well made as the term
core_made : (t : Tree) → WellMade t false → WellMade (core t) false
unfolding core WellMade
core_made (atom v) h = h
core_made (variable n) h = h
core_made (body k t) h = core_made t h.1
core_made (head k r ds t) h = core_made t h.2
core_made (form l ts) h = h

-- behind the marks stand the words of the node inside them
core_at : (t : Tree) (rest : List ℕ) → drop (marks_length t) (written t ++ rest) ≡ written (core t) ++ rest
unfolding core marks_length written
core_at (atom v) rest = refl
core_at (variable n) rest = refl
core_at (body k t) rest =
    ap (λ n. drop n (word 3 k ∷ (written t ++ rest))) (one-add (marks_length t)) ∙ core_at t rest
core_at (head k r ds t) rest =
    let ws = (written_all ds ++ written t) ++ rest in
    ap (λ n. drop n (word 4 (head_payload k r (count ds)) ∷ ws)) (add_assoc 1 (length (written_all ds)) (marks_length t) ∙ one-add (length (written_all ds) + marks_length t))
    ∙ sym (drop-drop (marks_length t) (length (written_all ds)) ws)
    ∙ ap (λ l. drop (marks_length t) (drop (length (written_all ds)) l)) (append_assoc (written_all ds) (written t) rest)
    ∙ ap (drop (marks_length t)) (drop_at (written_all ds) (written t ++ rest) (length (written_all ds)) refl)
    ∙ core_at t rest
core_at (form l ts) rest = refl

-- behind the marks begins the node inside them
pub core_begins : (words : List ℕ) (n : ℕ) (t : Tree) → BeginsWith words t → n ≡ marks_length t → BeginsWith (drop n words) (core t)
core_begins words n t b e =
    (core_made t b.0, (b.1.0, (λ j. drop (e j) (b.1.1 j)) ∙ core_at t b.1.0))

-- the node inside the marks has none in front of it
pub core_marks : (t : Tree) → marks_length (core t) ≡ 0
unfolding core marks_length
core_marks (atom v) = refl
core_marks (variable n) = refl
core_marks (body k t) = core_marks t
core_marks (head k r ds t) = core_marks t
core_marks (form l ts) = refl

-- what is seen of the node inside the marks is seen of the term
core_seen : (t : Tree) → WellMade t false → seen_by (Some (node_for (core t))) ≡ Some (seen t)
unfolding core seen WellMade
core_seen (atom v) h = refl
core_seen (variable n) h = absurd (false≢true h.0)
core_seen (body k t) h = core_seen t h.1
core_seen (head k r ds t) h = core_seen t h.2
core_seen (form l ts) h = refl

-- where the node inside the marks begins there is a word
pub inside_there : (words : List ℕ) (n : ℕ) (t : Tree) → BeginsWith words t → n ≡ marks_length t → length words ≤ n → ⊥
inside_there words n t b e h =
    no_front (core t) (subst (λ l. BeginsWith l (core t)) (drop_all n words h) (core_begins words n t b e))

-- and that word shows what is seen of the term
pub inside_seen : (words : List ℕ) (n : ℕ) (t : Tree) → BeginsWith words t → n ≡ marks_length t → n < length words → seen_by (node_of (get_or words n 0)) ≡ Some (seen t)
inside_seen words n t b e h =
    ap seen_by (front_node (get_or words n 0) (drop (n + 1) words) (core t) (subst (λ l. BeginsWith l (core t)) (drop_more words n 0 h) (core_begins words n t b e)))
    ∙ core_seen t b.0
