-- The search for a form that the stepper lacks, word by word: the words that are left are those of a forest.
use Rattle.std.proofs.Common.{◌≡◌, ℕ, suc, ◌+◌, ◌<◌, ◌≤◌, Bool, true, false, cond, List, [], ◌∷◌, ◌++◌, length, get_or, drop, Some, None, Ok, Err, Option, sym, refl, ap, ◌∙◌, subst, append_assoc, append-nil, add-zero, add_assoc, zero-add, arith, length-append}
use Rattle.std.proofs.lemmas.List.{drop_at, drop-drop, drop_more, drop_all}
use Rattle.std.proofs.lemmas.Bool.{false≢true}
use Rattle.terms.specs.declared.front.Broken.{Broken}
use Rattle.terms.specs.Words.{node_of}
use Rattle.terms.specs.Trees.{Tree, Trees, atom, variable, body, head, form, none, more, count, written, written_all, WellMade, WellMadeAll, WellFormed, join}
use Rattle.terms.specs.Fronts.{ending}
use Rattle.terms.proofs.Shapes.{node_for, written-join, made_join}
use Rattle.languages.proofs.Asked.{apart}
use Rattle.steppers.specs.Loads.{behind, or_else, lacking, lacking_all}
use Rattle.steppers.specs.Written.{passed_by, LacksAt}
use Rattle.steppers.specs.Walks.{Reaches, begins, goes_on, over, broken, StopsAt}
use Rattle.steppers.proofs.Beginnings.{front_node, no_front, all_end}

-- no words in front change no place
behind_none : (o : Option ℕ) → behind 0 o ≡ o
behind_none None = refl
behind_none (Some place) = ap Some (zero-add place)

-- words in front of words in front
behind-behind : (m n : ℕ) (o : Option ℕ) → behind m (behind n o) ≡ behind (m + n) o
behind-behind m n None = refl
behind-behind m n (Some place) = ap Some (sym (add_assoc m n place))

-- nothing after a search changes nothing
or_else_none : (o : Option ℕ) → or_else o None ≡ o
or_else_none None = refl
or_else_none (Some place) = refl

-- three searches in a row
or_else_assoc : (a b c : Option ℕ) → or_else (or_else a b) c ≡ or_else a (or_else b c)
or_else_assoc None b c = refl
or_else_assoc (Some place) b c = refl

-- m words in front of both places
behind_both : (m n k : ℕ) (a b : Option ℕ) → m + n ≡ k → or_else (behind m a) (behind k b) ≡ behind m (or_else a (behind n b))
behind_both m n k None b e = ap (λ x. behind x b) (sym e) ∙ sym (behind-behind m n b)
behind_both m n k (Some place) b e = refl

-- the search through two forests
lacking-join : (has : ℕ → ℕ → Bool) (ts us : Trees) → or_else (lacking_all has ts) (behind (length (written_all ts)) (lacking_all has us)) ≡ lacking_all has (join ts us)
unfolding lacking join written_all
lacking-join has none us = behind_none (lacking_all has us)
lacking-join has (more t ts) us =
    or_else_assoc (lacking has t) (behind (length (written t)) (lacking_all has ts)) (behind (length (written t ++ written_all ts)) (lacking_all has us))
    ∙ ap (or_else (lacking has t)) (behind_both (length (written t)) (length (written_all ts)) (length (written t ++ written_all ts)) (lacking_all has ts) (lacking_all has us) (sym (length-append (written t) (written_all ts)))
    ∙ ap (behind (length (written t))) (lacking-join has ts us))

-- one word of a forest, with the d dropped terms behind it: the forest that is left
record Less (has : ℕ → ℕ → Bool) (ws : List ℕ) (d : ℕ) (ts : Trees) : Type 0 where
  pub size : ℕ
  pub ends : ending false d ws ≡ Ok size
  pub trees : Trees
  pub made : WellMadeAll trees false
  pub words : drop size ws ≡ written_all trees
  pub finds : lacking_all has ts ≡ behind (1 + size) (lacking_all has trees)

-- where no terms are dropped
less_plain : (has : ℕ → ℕ → Bool) (ws : List ℕ) (d : ℕ) (ts us : Trees) → 0 ≡ d → WellMadeAll us false → ws ≡ written_all us → lacking_all has ts ≡ behind 1 (lacking_all has us) → Less has ws d ts
unfolding ending
less_plain has ws d ts us e h is finds = record {
  size = 0;
  ends = ap (λ n. ending false n ws) (sym e);
  trees = us;
  made = h;
  words = is;
  finds = finds;
}

-- a form that the stepper has
lacking_had : (has : ℕ → ℕ → Bool) (l : ℕ) (ts : Trees) → has l (count ts) ≡ true → lacking has (form l ts) ≡ behind 1 (lacking_all has ts)
unfolding lacking
lacking_had has l ts e = same (has l (count ts)) e
  where
    same : (b : Bool) → b ≡ true → elim b [ false ↦ Some 0 | true ↦ behind 1 (lacking_all has ts) ] ≡ behind 1 (lacking_all has ts)
    same true f = refl
    same false f = absurd (false≢true f)

-- and one that it lacks
lacking_lacked : (has : ℕ → ℕ → Bool) (l : ℕ) (ts : Trees) → has l (count ts) ≡ false → lacking has (form l ts) ≡ Some 0
unfolding lacking
lacking_lacked has l ts e = same (has l (count ts)) e
  where
    same : (b : Bool) → b ≡ false → ◌≡◌ {A = Option ℕ} (elim b [ false ↦ Some 0 | true ↦ behind 1 (lacking_all has ts) ]) (Some 0)
    same true f = absurd (false≢true (sym f))
    same false f = refl

-- the word of a form is passed only if the stepper has the form
cond_some : (b : Bool) (d : ℕ) → cond b (Some 0) None ≡ Some d → (b ≡ true) × (0 ≡ d)
cond_some true d e = (refl, cc)
cond_some false d e = apart (cc)

-- and it is not passed only if the stepper lacks it
cond_none : (b : Bool) → cond {A = Option ℕ} b (Some 0) None ≡ None → b ≡ false
cond_none true e = apart (cc)
cond_none false e = refl

-- the first word of a forest that is not empty
less_by : (has : ℕ → ℕ → Bool) (w : ℕ) (ws : List ℕ) (d : ℕ) (t : Tree) (us : Trees) → WellMade t false → WellMadeAll us false → w ∷ ws ≡ written t ++ written_all us → passed_by has (Some (node_for t)) ≡ Some d → Less has ws d (more t us)
unfolding lacking written written_all WellMade WellMadeAll
less_by has w ws d (atom v) us h k is e = less_plain has ws d (more (atom v) us) us (cc) k (cc) refl
less_by has w ws d (variable n) us h k is e = absurd (false≢true h.0)
less_by has w ws d (body x t) us h k is e =
    less_plain has ws d (more (body x t) us) (more t us) (cc) (h.1, k) (cc) (behind_both 1 (length (written t)) (suc (length (written t))) (lacking has t) (lacking_all has us) (omega arith))
less_by has w ws d (head x r ds t) us h k is e =
    let many : count ds ≡ d = cc in
    let size = length (written_all ds) in
    let behind_word : ws ≡ (written_all ds ++ written t) ++ written_all us = cc in
    let split = behind_word ∙ append_assoc (written_all ds) (written t) (written_all us) in
    record {
      size = size;
      ends = (λ j. ending false (sym many j) (split j)) ∙ all_end ds (written t ++ written_all us) h.1;
      trees = more t us;
      made = (h.2, k);
      words = ap (drop size) split ∙ drop_at (written_all ds) (written t ++ written_all us) size refl;
      finds = behind_both (1 + size) (length (written t)) (suc (length (written_all ds ++ written t))) (lacking has t) (lacking_all has us) (let long = length-append (written_all ds) (written t) in omega arith);
    }
less_by has w ws d (form l ts) us h k is e =
    let had = cond_some (has l (count ts)) d e in
    let behind_word : ws ≡ written_all ts ++ written_all us = cc in
    less_plain has ws d (more (form l ts) us) (join ts us) had.1 (made_join ts us false h.2 k) (behind_word ∙ sym (written-join ts us))
    (ap (λ o. or_else o (behind (suc (length (written_all ts))) (lacking_all has us))) (lacking_had has l ts had.0)
    ∙ behind_both 1 (length (written_all ts)) (suc (length (written_all ts))) (lacking_all has ts) (lacking_all has us) (omega arith)
    ∙ ap (behind 1) (lacking-join has ts us))

-- a forest that begins with a word is not empty, and the word stands for its first node
record Fronted (w : ℕ) (ws : List ℕ) (ts : Trees) : Type 0 where
  pub tree : Tree
  pub behind : Trees
  pub is : ts ≡ more tree behind
  pub made : WellMade tree false
  pub all_made : WellMadeAll behind false
  pub words : w ∷ ws ≡ written tree ++ written_all behind
  pub node : node_of w ≡ Some (node_for tree)

-- the words say so
fronted : (w : ℕ) (ws : List ℕ) (ts : Trees) → WellMadeAll ts false → w ∷ ws ≡ written_all ts → Fronted w ws ts
unfolding written_all WellMadeAll
fronted w ws none h e = let z = ap length e in absurd (omega arith)
fronted w ws (more t us) h e = record {
  tree = t;
  behind = us;
  is = refl;
  made = h.0;
  all_made = h.1;
  words = e;
  node = front_node w ws t (h.0, (written_all us, e));
}

-- one word of a forest that is passed
less : (has : ℕ → ℕ → Bool) (w : ℕ) (ws : List ℕ) (d : ℕ) (ts : Trees) → WellMadeAll ts false → w ∷ ws ≡ written_all ts → passed_by has (node_of w) ≡ Some d → Less has ws d ts
less has w ws d ts h is e =
    let f = fronted w ws ts h is in
    subst (Less has ws d) (sym f.is) (less_by has w ws d f.tree f.behind f.made f.all_made f.words (ap (passed_by has) (sym f.node) ∙ e))

-- a node that is not passed is a form that the stepper lacks
found_by : (has : ℕ → ℕ → Bool) (t : Tree) (us : Trees) → passed_by has (Some (node_for t)) ≡ None → lacking_all has (more t us) ≡ Some 0
unfolding lacking
found_by has (atom v) us e = apart (cc)
found_by has (variable n) us e = apart (cc)
found_by has (body x t) us e = apart (cc)
found_by has (head x r ds t) us e = apart (cc)
found_by has (form l ts) us e =
    ap (λ o. or_else o (behind (length (written (form l ts))) (lacking_all has us))) (lacking_lacked has l ts (cond_none (has l (count ts)) e))

-- the word of a form that the stepper lacks
found : (has : ℕ → ℕ → Bool) (w : ℕ) (ws : List ℕ) (ts : Trees) → WellMadeAll ts false → w ∷ ws ≡ written_all ts → passed_by has (node_of w) ≡ None → lacking_all has ts ≡ Some 0
found has w ws ts h is e =
    let f = fronted w ws ts h is in
    ap (lacking_all has) f.is ∙ found_by has f.tree f.behind (ap (passed_by has) (sym f.node) ∙ e)

-- no words are the words of no trees
no_trees : (has : ℕ → ℕ → Bool) (ts : Trees) → WellMadeAll ts false → [] ≡ written_all ts → lacking_all has ts ≡ None
unfolding lacking written_all WellMadeAll
no_trees has none h e = refl
no_trees has (more t us) h e = absurd (no_front t (h.0, (written_all us, e)))

-- the search has come to the words from n on
abbrev Searched : (ℕ → ℕ → Bool) → List ℕ → ℕ → Type 0
Searched has words n =
    (t : Tree) → WellFormed t → words ≡ written t → (ts : Trees) × WellMadeAll ts false × (drop n words ≡ written_all ts) × (lacking has t ≡ behind n (lacking_all has ts))

-- at first the forest is the term itself
searched_none : (has : ℕ → ℕ → Bool) (words : List ℕ) → Searched has words 0
unfolding lacking written_all WellMadeAll
searched_none has words t h e =
    (more t none, (h, tt), e ∙ sym (append-nil (written t)), sym (behind_none (or_else (lacking has t) None) ∙ or_else_none (lacking has t)))

module _ (has : ℕ → ℕ → Bool) (words : List ℕ) (n : ℕ) (p : Searched has words n) where
  -- behind the last word there is no such form
  searched_over : length words ≤ n → (t : Tree) → WellFormed t → words ≡ written t → None ≡ lacking has t
  searched_over l t h e =
      let q = p t h e in
      sym (q.3 ∙ ap (behind n) (no_trees has q.0 q.1 (sym (drop_all n words l) ∙ q.2)))

  module _ (l : n < length words) where
    here : (t : Tree) (h : WellFormed t) (e : words ≡ written t) → get_or words n 0 ∷ drop (n + 1) words ≡ written_all (p t h e).0
    here t h e = sym (drop_more words n 0 l) ∙ (p t h e).2

    -- at a word that is not passed, the form is found
    searched_found : passed_by has (node_of (get_or words n 0)) ≡ None → (t : Tree) → WellFormed t → words ≡ written t → Some n ≡ lacking has t
    searched_found f t h e =
        let q = p t h e in
        sym (q.3 ∙ ap (behind n) (found has (get_or words n 0) (drop (n + 1) words) q.0 q.1 (here t h e) f) ∙ ap Some (add-zero n))

    module _ (d : ℕ) (f : passed_by has (node_of (get_or words n 0)) ≡ Some d) where
      next : (t : Tree) (h : WellFormed t) (e : words ≡ written t) → Less has (drop (n + 1) words) d (p t h e).0
      next t h e = less has (get_or words n 0) (drop (n + 1) words) d (p t h e).0 (p t h e).1 (here t h e) f

      -- the dropped terms of a term end
      searched_broken : (r : Broken) → ending false d (drop (n + 1) words) ≡ Err r → (t : Tree) → WellFormed t → words ≡ written t → None ≡ lacking has t
      searched_broken r g t h e =
          let ends = (next t h e).ends in
          apart (cc)

      -- behind a word that is passed, the search goes on
      searched_more : (size : ℕ) → ending false d (drop (n + 1) words) ≡ Ok size → Searched has words (n + (1 + size))
      searched_more size g t h e =
          let q = p t h e in
          let m = next t h e in
          let ends = m.ends in
          let same : m.size ≡ size = cc in
          let place : drop m.size (drop (n + 1) words) ≡ drop (n + (1 + size)) words =
          drop-drop m.size (n + 1) words ∙ ap (λ k. drop k words) (omega arith) in
          (m.trees, m.made, sym place ∙ m.words, q.3 ∙ ap (behind n) m.finds ∙ behind-behind n (1 + m.size) (lacking_all has m.trees) ∙ ap (λ k. behind (n + (1 + k)) (lacking_all has m.trees)) same)

-- a walk in which each word but a head mark and a form that is lacking goes with no terms
module _ (has : ℕ → ℕ → Bool) (Passes : ℕ → Option ℕ → Type 0) (passes : (w : ℕ) (r : Option ℕ) → Passes w r → r ≡ passed_by has (node_of w)) (words : List ℕ) where
  -- it is a search
  searched : (n : ℕ) → Reaches Passes words n → Searched has words n
  searched _ begins = searched_none has words
  searched _ (goes_on n d size r l p e) = searched_more has words n (searched n r) l d (sym (passes _ _ p)) size e

  -- that stops at the first form that is lacking
  pub stops_lacking : (r : Option ℕ) → StopsAt Passes words r → LacksAt has words r
  stops_lacking (Some n) s = searched_found has words n (searched n s.0) s.1 (sym (passes _ _ s.2))
  stops_lacking None (over n r l) = searched_over has words n (searched n r) l
  stops_lacking None (broken n d q r l p e) = searched_broken has words n (searched n r) l d (sym (passes _ _ p)) q e
