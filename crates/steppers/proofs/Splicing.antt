-- The words of the next term: those of the term, with what is made in the place of the node at the spot.
use Rattle.std.proofs.Common.{◌≡◌, ℕ, zero, suc, ◌+◌, false, List, [], ◌∷◌, ◌++◌, length, take, drop, sym, refl, ap, ◌∙◌, subst, append_assoc, add-zero, arith, length-append}
use Rattle.std.proofs.lemmas.List.{take_at, drop_at}
use Rattle.terms.specs.Words.{word, head_payload}
use Rattle.terms.specs.Trees.{Tree, Trees, atom, variable, body, head, form, none, more, count, written, written_all, WellMade, WellMadeAll, WellFormed}
use Rattle.steppers.specs.declared.action.Made.{Made}
use Rattle.steppers.specs.declared.action.Action.{Action}
use Rattle.steppers.specs.declared.action.Action.TheVariants as action
use Rattle.steppers.specs.declared.spot.Spot.{Spot}
use Rattle.steppers.specs.Table.{Table, Sound, MadeSoundly, ActsSoundly, action_at}
use Rattle.steppers.specs.Steps.{fill, Change, replaced, within, waits, sticks, around, in_form, child_before, children_behind, step_of, child_step}
use Rattle.steppers.specs.Places.{spot_of, spot_in}
use Rattle.steppers.specs.Marking.{given, form-given}
use Rattle.steppers.specs.Closing.{action_sound}

module _ (table : Table) (sound : Sound table) (image : ℕ) (ws : List ℕ) where
  -- at the spot of the words ws a form stands, and `out` is ws with what is made in its place
  pub record Spliced (s : Spot) (effect : ℕ) (out : List ℕ) : Type 0 where
    pub label : ℕ
    pub children : Trees
    pub by : Made
    pub rest : List ℕ
    pub acts : s.action ≡ action.Replace effect by
    pub soundly : MadeSoundly table.has (count children) by
    pub formed : WellFormed (form label children)
    pub stands : drop s.node ws ≡ written (form label children) ++ rest
    pub result : out ≡ take s.outer ws ++ (written (fill by children) ++ rest)

  -- how a change of a part, at this spot, shows in the words: with the marks around the part gone, or kept
  abbrev pub Shown : {X : Type 0} → Spot → (X → List ℕ) → (X → List ℕ) → Change X → Type 0
  Shown s bare marked (replaced effect x) = Spliced s effect (bare x)
  Shown s bare marked (within effect x) = Spliced s effect (marked x)
  Shown s bare marked waits = s.action ≡ action.Wait
  Shown s bare marked sticks = s.action ≡ action.Stuck

  -- a mark around a part: its words are the first of those that stay in front of the part
  around_shown : (s : Spot) (mark : Tree → Tree) (bare marked outside : Tree → List ℕ) → ((t : Tree) → marked t ≡ outside (mark t)) → (c : Change Tree) → Shown s bare marked c → Shown s bare outside (around mark c)
  around_shown s mark bare marked outside same (replaced effect t) h = h
  around_shown s mark bare marked outside same (within effect t) h = subst (Spliced s effect) (same t) h
  around_shown s mark bare marked outside same waits h = h
  around_shown s mark bare marked outside same sticks h = h

  before_shown : (s : Spot) (ts : Trees) (bare : Tree → List ℕ) (outside : Trees → List ℕ) → ((t : Tree) → bare t ≡ outside (more t ts)) → (c : Change Tree) → Shown s bare bare c → Shown s outside outside (child_before ts c)
  before_shown s ts bare outside same (replaced effect t) h = subst (Spliced s effect) (same t) h
  before_shown s ts bare outside same (within effect t) h = subst (Spliced s effect) (same t) h
  before_shown s ts bare outside same waits h = h
  before_shown s ts bare outside same sticks h = h

  behind_shown : (s : Spot) (t : Tree) (inside outside : Trees → List ℕ) → ((ts : Trees) → inside ts ≡ outside (more t ts)) → (c : Change Trees) → Shown s inside inside c → Shown s outside outside (children_behind t c)
  behind_shown s t inside outside same (replaced effect ts) h = subst (Spliced s effect) (same ts) h
  behind_shown s t inside outside same (within effect ts) h = subst (Spliced s effect) (same ts) h
  behind_shown s t inside outside same waits h = h
  behind_shown s t inside outside same sticks h = h

  abbrev Counted : ℕ → Change Trees → Type 0
  Counted n (replaced effect ts) = count ts ≡ n
  Counted n (within effect ts) = count ts ≡ n
  Counted n waits = Unit {0}
  Counted n sticks = Unit {0}

  in_form_shown : (s : Spot) (l n : ℕ) (inside : Trees → List ℕ) (bare outside : Tree → List ℕ) → ((ts : Trees) → count ts ≡ n → inside ts ≡ outside (form l ts)) → (c : Change Trees) → Counted n c → Shown s inside inside c → Shown s bare outside (in_form l c)
  in_form_shown s l n inside bare outside same (replaced effect ts) e h = subst (Spliced s effect) (same ts e) h
  in_form_shown s l n inside bare outside same (within effect ts) e h = subst (Spliced s effect) (same ts e) h
  in_form_shown s l n inside bare outside same waits e h = h
  in_form_shown s l n inside bare outside same sticks e h = h

  -- a step of a child keeps their number
  before_counted : (t : Tree) (ts : Trees) (c : Change Tree) → Counted (count (more t ts)) (child_before ts c)
  unfolding count
  before_counted t ts (replaced effect u) = refl
  before_counted t ts (within effect u) = refl
  before_counted t ts waits = tt
  before_counted t ts sticks = tt

  behind_counted : (t : Tree) (ts : Trees) (c : Change Trees) → Counted (count ts) c → Counted (count (more t ts)) (children_behind t c)
  unfolding count
  behind_counted t ts (replaced effect us) e = ap suc e
  behind_counted t ts (within effect us) e = ap suc e
  behind_counted t ts waits e = tt
  behind_counted t ts sticks e = tt

  child_counted : (ts : Trees) (i : ℕ) → Counted (count ts) (child_step table ts i image)
  unfolding child_step
  child_counted none i = tt
  child_counted (more t ts) zero = before_counted t ts (step_of table t image)
  child_counted (more t ts) (suc i) = behind_counted t ts (child_step table ts i image) (child_counted ts i)

  -- the spot of a form, by its action
  abbrev spot_given : ℕ → ℕ → (ℕ → Spot) → Action → Spot
  spot_given outer here child (action.Child i) = child i
  spot_given outer here child (action.Replace effect by) = record { outer = outer; node = here; action = action.Replace effect by }
  spot_given outer here child action.Wait = record { outer = outer; node = here; action = action.Wait }
  spot_given outer here child action.Stuck = record { outer = outer; node = here; action = action.Stuck }

  form_spot : (l : ℕ) (ts : Trees) (outer here : ℕ) → spot_of table (form l ts) image outer here ≡ spot_given outer here (λ i. spot_in table ts i image outer here (here + 1)) (action_at table l ts image)
  unfolding spot_of
  form_spot l ts outer here = same (action_at table l ts image)
    where
      same : (a : Action) → elim a [ action.Child i ↦ spot_in table ts i image outer here (here + 1) | action.Replace effect by ↦ record { outer = outer; node = here; action = action.Replace effect by } | action.Wait ↦ record { outer = outer; node = here; action = action.Wait } | action.Stuck ↦ record { outer = outer; node = here; action = action.Stuck } ] ≡ spot_given outer here (λ i. spot_in table ts i image outer here (here + 1)) a
      same (action.Child i) = refl
      same (action.Replace effect by) = refl
      same action.Wait = refl
      same action.Stuck = refl

  -- words in front of a tree, as further words of marks
  marks_front : (pre mk front tail post : List ℕ) → pre ++ ((mk ++ front) ++ (tail ++ post)) ≡ pre ++ (mk ++ ((front ++ tail) ++ post))
  marks_front pre mk front tail post =
      ap (λ xs. pre ++ xs) (append_assoc mk front (tail ++ post) ∙ ap (λ xs. mk ++ xs) (sym (append_assoc front tail post)))

  -- the children of a form behind its word
  children_front : (pre mk : List ℕ) (w : ℕ) (tail post : List ℕ) → (pre ++ (mk ++ (w ∷ []))) ++ (tail ++ post) ≡ pre ++ (mk ++ ((w ∷ tail) ++ post))
  children_front pre mk w tail post = append_assoc pre (mk ++ (w ∷ [])) (tail ++ post) ∙ marks_front pre mk (w ∷ []) tail post

  -- the node at the spot itself is replaced
  replaced_here : (l : ℕ) (ts : Trees) (pre mk post : List ℕ) (outer here effect : ℕ) (by : Made) → WellFormed (form l ts) → MadeSoundly table.has (count ts) by → outer ≡ length pre → here ≡ length pre + length mk → ws ≡ pre ++ (mk ++ (written (form l ts) ++ post)) → Spliced (record { outer = outer; node = here; action = action.Replace effect by }) effect (pre ++ (written (fill by ts) ++ post))
  replaced_here l ts pre mk post outer here effect by formed soundly o h e =
      let front = length-append pre mk in
      let grouped : ws ≡ (pre ++ mk) ++ (written (form l ts) ++ post) = e ∙ sym (append_assoc pre mk (written (form l ts) ++ post)) in
      record {
        label = l;
        children = ts;
        by = by;
        rest = post;
        acts = refl;
        soundly = soundly;
        formed = formed;
        stands = ap (drop here) grouped ∙ drop_at (pre ++ mk) (written (form l ts) ++ post) here (front ∙ sym h);
        result = sym (ap (λ xs. xs ++ (written (fill by ts) ++ post)) (ap (take outer) e ∙ take_at pre (mk ++ (written (form l ts) ++ post)) outer (sym o)));
      }

  given_shown : (l : ℕ) (ts : Trees) (pre mk post : List ℕ) (outer here : ℕ) (child : ℕ → Spot) → WellFormed (form l ts) → outer ≡ length pre → here ≡ length pre + length mk → ws ≡ pre ++ (mk ++ (written (form l ts) ++ post)) → ((i : ℕ) → Shown (child i) (λ us. (pre ++ (mk ++ (word l (count ts) ∷ []))) ++ (written_all us ++ post)) (λ us. (pre ++ (mk ++ (word l (count ts) ∷ []))) ++ (written_all us ++ post)) (child_step table ts i image)) → (a : Action) → ActsSoundly table.has (count ts) a → Shown (spot_given outer here child a) (λ n. pre ++ (written n ++ post)) (λ n. pre ++ (mk ++ (written n ++ post))) (given l ts (λ i. child_step table ts i image) a)
  unfolding written
  given_shown l ts pre mk post outer here child formed o h e shown (action.Child i) s =
      in_form_shown (child i) l (count ts) (λ us. (pre ++ (mk ++ (word l (count ts) ∷ []))) ++ (written_all us ++ post)) (λ n. pre ++ (written n ++ post)) (λ n. pre ++ (mk ++ (written n ++ post))) (λ us same. children_front pre mk (word l (count ts)) (written_all us) post ∙ ap (λ n. pre ++ (mk ++ ((word l n ∷ written_all us) ++ post))) (sym same)) (child_step table ts i image) (child_counted ts i) (shown i)
  given_shown l ts pre mk post outer here child formed o h e shown (action.Replace effect by) s = replaced_here l ts pre mk post outer here effect by formed s o h e
  given_shown l ts pre mk post outer here child formed o h e shown action.Wait s = refl
  given_shown l ts pre mk post outer here child formed o h e shown action.Stuck s = refl

  mutual
    unfolding step_of child_step spot_of spot_in written written_all WellMade WellMadeAll

    -- a step of the tree that stands behind `pre` and the marks `mk`
    pub tree_shown : (t : Tree) (pre mk post : List ℕ) (outer here : ℕ) → WellFormed t → outer ≡ length pre → here ≡ length pre + length mk → ws ≡ pre ++ (mk ++ (written t ++ post)) → Shown (spot_of table t image outer here) (λ n. pre ++ (written n ++ post)) (λ n. pre ++ (mk ++ (written n ++ post))) (step_of table t image)
    tree_shown (atom v) pre mk post outer here f o h e = refl
    tree_shown (variable n) pre mk post outer here f o h e = refl
    tree_shown (body k t) pre mk post outer here f o h e =
        let front = word 3 k ∷ [] in
        let longer = length-append mk front in
        around_shown (spot_of table t image outer (here + 1)) (body k) (λ n. pre ++ (written n ++ post)) (λ n. pre ++ ((mk ++ front) ++ (written n ++ post))) (λ n. pre ++ (mk ++ (written n ++ post))) (λ n. marks_front pre mk front (written n) post) (step_of table t image) (tree_shown t pre (mk ++ front) post outer (here + 1) f.1 o (omega (arith, h, longer)) (e ∙ sym (marks_front pre mk front (written t) post)))
    tree_shown (head k r ds t) pre mk post outer here f o h e =
        let front = word 4 (head_payload k r (count ds)) ∷ written_all ds in
        let longer = length-append mk front in
        around_shown (spot_of table t image outer (here + (1 + length (written_all ds)))) (head k r ds) (λ n. pre ++ (written n ++ post)) (λ n. pre ++ ((mk ++ front) ++ (written n ++ post))) (λ n. pre ++ (mk ++ (written n ++ post))) (λ n. marks_front pre mk front (written n) post) (step_of table t image) (tree_shown t pre (mk ++ front) post outer (here + (1 + length (written_all ds))) f.2 o (omega (arith, h, longer)) (e ∙ sym (marks_front pre mk front (written t) post)))
    tree_shown (form l ts) pre mk post outer here f o h e =
        let w = word l (count ts) in
        let inner = pre ++ (mk ++ (w ∷ [])) in
        let size = length-append pre (mk ++ (w ∷ [])) in
        let size2 = length-append mk (w ∷ []) in
        let shown = given_shown l ts pre mk post outer here (λ i. spot_in table ts i image outer here (here + 1)) f o h e (λ i. children_shown ts i inner post outer here (here + 1) f.2 (omega (arith, h, size, size2)) (e ∙ sym (children_front pre mk w (written_all ts) post))) (action_at table l ts image) (action_sound table sound l ts image f.2) in
        subst (λ c. Shown (spot_of table (form l ts) image outer here) (λ n. pre ++ (written n ++ post)) (λ n. pre ++ (mk ++ (written n ++ post))) c) (sym (form-given table l ts image)) (subst (λ s. Shown s (λ n. pre ++ (written n ++ post)) (λ n. pre ++ (mk ++ (written n ++ post))) (given l ts (λ i. child_step table ts i image) (action_at table l ts image))) (sym (form_spot l ts outer here)) shown)

    -- a step of child i of the children that stand behind `pre`
    children_shown : (ts : Trees) (i : ℕ) (pre post : List ℕ) (outer here place : ℕ) → WellMadeAll ts false → place ≡ length pre → ws ≡ pre ++ (written_all ts ++ post) → Shown (spot_in table ts i image outer here place) (λ us. pre ++ (written_all us ++ post)) (λ us. pre ++ (written_all us ++ post)) (child_step table ts i image)
    children_shown none i pre post outer here place f p e = refl
    children_shown (more t ts) zero pre post outer here place f p e =
        before_shown (spot_of table t image place place) ts (λ n. pre ++ (written n ++ (written_all ts ++ post))) (λ us. pre ++ (written_all us ++ post)) (λ n. ap (λ xs. pre ++ xs) (sym (append_assoc (written n) (written_all ts) post))) (step_of table t image) (tree_shown t pre [] (written_all ts ++ post) place place f.0 p (p ∙ sym (add-zero (length pre))) (e ∙ ap (λ xs. pre ++ xs) (append_assoc (written t) (written_all ts) post)))
    children_shown (more t ts) (suc i) pre post outer here place f p e =
        let size = length-append pre (written t) in
        let group : (us : Trees) → (pre ++ written t) ++ (written_all us ++ post) ≡ pre ++ (written_all (more t us) ++ post) = λ us. append_assoc pre (written t) (written_all us ++ post) ∙ ap (λ xs. pre ++ xs) (sym (append_assoc (written t) (written_all us) post)) in
        behind_shown (spot_in table ts i image outer here (place + length (written t))) t (λ us. (pre ++ written t) ++ (written_all us ++ post)) (λ us. pre ++ (written_all us ++ post)) group (child_step table ts i image) (children_shown ts i (pre ++ written t) post outer here (place + length (written t)) f.1 (omega (arith, p, size)) (e ∙ sym (group ts)))
