-- The words that are made in the place of a node are those of the tree that takes its place.
use Rattle.std.proofs.Common.{◌≡◌, ℕ, zero, suc, ◌+◌, ◌<◌, Bool, true, false, leb, List, [], ◌∷◌, ◌++◌, length, take, drop, Some, None, Ok, Err, Option, Result, sym, refl, ap, ◌∙◌, subst, arith}
use Rattle.std.proofs.lemmas.List.{append-nil, drop_at, drop-drop}
use Rattle.std.proofs.lemmas.Bool.{leb-true, and_parts}
use Rattle.terms.specs.declared.front.Broken.{Broken}
use Rattle.terms.specs.Words.{word, is_form_label}
use Rattle.terms.specs.Trees.{Tree, Trees, form, none, more, count, written, written_all, nth, children_of, WellFormed}
use Rattle.terms.specs.Fronts.{Stretch, ending, child_at}
use Rattle.terms.specs.Laws.{IsChild}
use Rattle.terms.proofs.Children.{children_found}
use Rattle.terms.proofs.Endings.{one_ends}
use Rattle.steppers.specs.declared.action.Made.{Made}
use Rattle.steppers.specs.declared.action.Made.TheVariants as made
use Rattle.steppers.specs.declared.spot.Spot.{Spot}
use Rattle.steppers.specs.Table.{Table, Sound, MadeSoundly}
use Rattle.steppers.specs.Steps.{pick, fill}
use Rattle.steppers.specs.Written.{child_words, made_words, Wordable, size_of, rewritten}
use Rattle.steppers.proofs.Splicing.{Spliced}

-- a child that is there
child_there : (i : ℕ) (ts : Trees) → i < count ts → nth i ts ≡ Some (pick i ts)
unfolding nth pick count
child_there i none less = absurd (omega arith)
child_there zero (more t ts) less = refl
child_there (suc i) (more t ts) less = child_there i ts (omega arith)

abbrev stretch_words : List ℕ → Option Stretch → List ℕ
stretch_words ws None = []
stretch_words ws (Some s) = take s.length (drop s.place ws)

child_words_lem : (ws : List ℕ) (i : ℕ) → child_words ws i ≡ stretch_words ws (child_at i ws)
child_words_lem ws i = same (child_at i ws)
  where
    same : (o : Option Stretch) → elim o [ None ↦ [] | Some s ↦ take s.length (drop s.place ws) ] ≡ stretch_words ws o
    same None = refl
    same (Some s) = refl

is_child : (ws : List ℕ) (t : Tree) (o : Option Stretch) → IsChild ws (Some t) o → stretch_words ws o ≡ written t
is_child ws t None h = absurd h
is_child ws t (Some s) h = h

-- the words of a child of the form that the words begin with
pick_words : (l : ℕ) (ts : Trees) (rest : List ℕ) (i : ℕ) → WellFormed (form l ts) → i < count ts → child_words (written (form l ts) ++ rest) i ≡ written (pick i ts)
unfolding children_of
pick_words l ts rest i formed less =
    let ws = written (form l ts) ++ rest in
    let found = children_found (form l ts) rest i formed in
    child_words_lem ws i ∙ is_child ws (pick i ts) (child_at i ws) (subst (λ o. IsChild ws o (child_at i ws)) (child_there i ts less) found)

-- what is made in the place of that form
pub made_words_lem : (has : ℕ → ℕ → Bool) (l : ℕ) (ts : Trees) (rest : List ℕ) (by : Made) → WellFormed (form l ts) → MadeSoundly has (count ts) by → made_words (written (form l ts) ++ rest) by ≡ written (fill by ts)
unfolding fill written written_all count
made_words_lem has l ts rest (made.Number v) formed s = refl
made_words_lem has l ts rest (made.Leaf k) formed s = refl
made_words_lem has l ts rest (made.Child i) formed s = pick_words l ts rest i formed s
made_words_lem has l ts rest (made.Round first again n i) formed s =
    let child = pick_words l ts rest i formed s.3 in
    let body = written (pick i ts) in
    let tail = append-nil body in
    ap (λ ws. word first 2 ∷ (ws ++ (word again 2 ∷ (word 0 n ∷ ws)))) child
    ∙ ap (λ ws. word first 2 ∷ (body ++ (word again 2 ∷ (word 0 n ∷ ws)))) (sym tail)
    ∙ ap (λ ws. word first 2 ∷ (body ++ (word again 2 ∷ (word 0 n ∷ ws)))) (sym (append-nil (body ++ [])))

-- the form ends behind its words
pub size_of_lem : (t : Tree) (rest : List ℕ) → WellFormed t → size_of (written t ++ rest) ≡ length (written t)
size_of_lem t rest formed = by_end (ending false 1 (written t ++ rest)) (one_ends t false rest formed)
  where
    by_end : (r : Result ℕ Broken) → r ≡ Ok (length (written t)) → elim r [ Ok end ↦ end | Err b ↦ 0 ] ≡ length (written t)
    by_end r e = let f : Result ℕ Broken → ℕ = λ q. elim q [ Ok end ↦ end | Err b ↦ 0 ] in ap f e

label_wordable : (l : ℕ) → is_form_label l ≡ true → l < 256
label_wordable l h = let few = leb-true l 255 (and_parts (leb 16 l) (leb l 255) h).1 in omega arith

-- what is made soundly can be written
pub made_wordable : (table : Table) → Sound table → (n : ℕ) (by : Made) → MadeSoundly table.has n by → Wordable by
made_wordable table sound n (made.Number v) s = s
made_wordable table sound n (made.Leaf l) s = label_wordable l (sound.forms l 0 s).0
made_wordable table sound n (made.Child i) s = tt
made_wordable table sound n (made.Round first again k i) s =
    (label_wordable first (sound.forms first 2 s.0).0, label_wordable again (sound.forms again 2 s.1).0, s.2)

module _ (table : Table) (sound : Sound table) (image : ℕ) (ws : List ℕ) where
  -- the term with the node at the spot replaced is what the splice says
  pub spliced_words : (s : Spot) (effect : ℕ) (out : List ℕ) (p : Spliced table sound image ws s effect out) → rewritten ws s.outer s.node p.by ≡ out
  spliced_words s effect out p =
      let form_words = written (form p.label p.children) in
      let here = p.stands in
      let made = ap (λ xs. made_words xs p.by) here ∙ made_words_lem table.has p.label p.children p.rest p.by p.formed p.soundly in
      let size = ap size_of here ∙ size_of_lem (form p.label p.children) p.rest p.formed in
      let behind : drop (s.node + size_of (drop s.node ws)) ws ≡ p.rest =
      ap (λ n. drop (s.node + n) ws) size ∙ sym (drop-drop (length form_words) s.node ws) ∙ ap (drop (length form_words)) here ∙ drop_at form_words p.rest (length form_words) refl in
      ap (λ xs. take s.outer ws ++ (xs ++ drop (s.node + size_of (drop s.node ws)) ws)) made
      ∙ ap (λ xs. take s.outer ws ++ (written (fill p.by p.children) ++ xs)) behind
      ∙ sym p.result
