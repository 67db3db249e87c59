-- The way to the node at which a step acts: what is done at a node, and in which child the way goes on.
use Rattle.std.proofs.Common.{◌≡◌, ℕ, zero, suc, ◌+◌, ◌<◌, ◌≤◌, Bool, true, false, cond, List, length, get_or, drop, Some, None, Option, sym, refl, ap, ◌∙◌, subst, add-zero, add_assoc, arith}
use Rattle.std.proofs.lemmas.List.{drop-drop, drop_more, drop_all}
use Rattle.terms.specs.Words.{node_of}
use Rattle.terms.specs.Trees.{Tree, Trees, atom, variable, body, head, form, none, more, count, written, written_all, nth, WellFormed}
use Rattle.terms.proofs.Shapes.{node_for}
use Rattle.languages.proofs.Asked.{apart}
use Rattle.steppers.specs.declared.action.Action.{Action}
use Rattle.steppers.specs.declared.action.Action.TheVariants as action
use Rattle.steppers.specs.declared.spot.Spot.{Spot}
use Rattle.steppers.specs.Looks.{BeginsWith, seen_all}
use Rattle.steppers.specs.Table.{Table, action_at, ActsAt}
use Rattle.steppers.specs.Places.{marks_length, length_before, node_action, spot_of, spot_in}
use Rattle.steppers.specs.Placed.{own_label, InsideOf, StartOf, ActionOf}
use Rattle.steppers.proofs.Beginnings.{front_node, no_front}
use Rattle.steppers.proofs.Insides.{core, core_begins, core_marks}
use Rattle.steppers.proofs.Offspring.{child_there}

-- no node begins without a word
pub no_act : (table : Table) (words : List ℕ) (image : ℕ) → length words ≤ 0 → ActionOf table words image action.Stuck
no_act table words image h t b =
    absurd (no_front t (subst (λ l. BeginsWith l t) (drop_all 0 words h) b))

-- a node that is not a form of the stepper has no step
stuck_by : (table : Table) (t : Tree) (image : ℕ) → own_label table.has (Some (node_for t)) ≡ None → action.Stuck ≡ node_action table t image
stuck_by table (atom v) image e = refl
stuck_by table (variable n) image e = refl
stuck_by table (body k t) image e = refl
stuck_by table (head k r ds t) image e = refl
stuck_by table (form l ts) image e = by_has (table.has l (count ts)) e
  where
    by_has : (b : Bool) → cond b (Some l) None ≡ None → action.Stuck ≡ cond b (table.acts l (seen_all ts) image) action.Stuck
    by_has true f = apart (cc)
    by_has false f = refl

-- a form of the stepper acts by the table
acts_by : (table : Table) (words : List ℕ) (t : Tree) (image l : ℕ) (r : Action) → BeginsWith words t → own_label table.has (Some (node_for t)) ≡ Some l → ActsAt table.acts l words image r → r ≡ node_action table t image
acts_by table words (atom v) image l r b e a = apart (cc)
acts_by table words (variable n) image l r b e a = apart (cc)
acts_by table words (body k t) image l r b e a = apart (cc)
acts_by table words (head k q ds t) image l r b e a = apart (cc)
acts_by table words (form m ts) image l r b e a = by_has (table.has m (count ts)) e
  where
    by_has : (h : Bool) → cond h (Some m) None ≡ Some l → r ≡ cond h (table.acts m (seen_all ts) image) action.Stuck
    by_has true f =
        let same : m ≡ l = cc in
        a ts (subst (λ x. BeginsWith words (form x ts)) same b) ∙ ap (λ x. table.acts x (seen_all ts) image) (sym same)
    by_has false f = apart (cc)

module _ (table : Table) (words : List ℕ) (image : ℕ) (h : 0 < length words) where
  at_first : (t : Tree) → BeginsWith words t → node_of (get_or words 0 0) ≡ Some (node_for t)
  at_first t b = front_node (get_or words 0 0) (drop (0 + 1) words) t (subst (λ l. BeginsWith l t) (drop_more words 0 0 h) b)

  -- at a word that is not that of a form of the stepper nothing is done
  pub act_other : own_label table.has (node_of (get_or words 0 0)) ≡ None → ActionOf table words image action.Stuck
  act_other e t b = stuck_by table t image (ap (own_label table.has) (sym (at_first t b)) ∙ e)

  -- at a word of a form of the stepper the table acts
  pub act_own : (l : ℕ) (r : Action) → own_label table.has (node_of (get_or words 0 0)) ≡ Some l → ActsAt table.acts l words image r → ActionOf table words image r
  act_own l r e a t b = acts_by table words t image l r b (ap (own_label table.has) (sym (at_first t b)) ∙ e) a

-- the way through a term goes through its marks
spot_core : (table : Table) (t : Tree) (image outer here : ℕ) → spot_of table t image outer here ≡ spot_of table (core t) image outer (here + marks_length t)
unfolding spot_of core marks_length
spot_core table (atom v) image outer here = ap (spot_of table (atom v) image outer) (sym (add-zero here))
spot_core table (variable n) image outer here = ap (spot_of table (variable n) image outer) (sym (add-zero here))
spot_core table (body k t) image outer here =
    spot_core table t image outer (here + 1) ∙ ap (spot_of table (core t) image outer) (add_assoc here 1 (marks_length t))
spot_core table (head k r ds t) image outer here =
    spot_core table t image outer (here + (1 + length (written_all ds)))
    ∙ ap (spot_of table (core t) image outer) (add_assoc here (1 + length (written_all ds)) (marks_length t))
spot_core table (form l ts) image outer here = ap (spot_of table (form l ts) image outer) (sym (add-zero here))

-- the way at a form, by the action there
abbrev spot_by : Table → Trees → ℕ → ℕ → ℕ → Action → Spot
spot_by table ts image outer here (action.Child i) = spot_in table ts i image outer here (here + 1)
spot_by table ts image outer here (action.Replace effect by) = record { outer = outer; node = here; action = action.Replace effect by }
spot_by table ts image outer here action.Wait = record { outer = outer; node = here; action = action.Wait }
spot_by table ts image outer here action.Stuck = record { outer = outer; node = here; action = action.Stuck }

-- the way at a form goes by its action
spot_form : (table : Table) (l : ℕ) (ts : Trees) (image outer here : ℕ) → spot_of table (form l ts) image outer here ≡ spot_by table ts image outer here (action_at table l ts image)
unfolding spot_of
spot_form table l ts image outer here = same (action_at table l ts image)
  where
    same : (a : Action) → elim a [ action.Child i ↦ spot_in table ts i image outer here (here + 1) | action.Replace effect by ↦ record { outer = outer; node = here; action = action.Replace effect by } | action.Wait ↦ record { outer = outer; node = here; action = action.Wait } | action.Stuck ↦ record { outer = outer; node = here; action = action.Stuck } ] ≡ spot_by table ts image outer here a
    same (action.Child i) = refl
    same (action.Replace effect by) = refl
    same action.Wait = refl
    same action.Stuck = refl

-- an action that is no child's ends the way
ends_by : (table : Table) (ts : Trees) (image outer here : ℕ) (a : Action) → ((i : ℕ) → a ≡ action.Child i → ⊥) → spot_by table ts image outer here a ≡ record { outer = outer; node = here; action = a }
ends_by table ts image outer here (action.Child i) no_child = absurd (no_child i refl)
ends_by table ts image outer here (action.Replace effect by) no_child = refl
ends_by table ts image outer here action.Wait no_child = refl
ends_by table ts image outer here action.Stuck no_child = refl

-- the same at any node
ends_at : (table : Table) (t : Tree) (image outer here : ℕ) (a : Action) → marks_length t ≡ 0 → a ≡ node_action table t image → ((i : ℕ) → a ≡ action.Child i → ⊥) → record { outer = outer; node = here; action = a } ≡ spot_of table t image outer here
unfolding spot_of marks_length
ends_at table (atom v) image outer here a m e no_child = λ j. record { outer = outer; node = here; action = e j }
ends_at table (variable n) image outer here a m e no_child = λ j. record { outer = outer; node = here; action = e j }
ends_at table (body k t) image outer here a m e no_child = absurd (omega arith)
ends_at table (head k r ds t) image outer here a m e no_child = absurd (omega arith)
ends_at table (form l ts) image outer here a m e no_child =
    sym (spot_form table l ts image outer here ∙ ap (spot_by table ts image outer here) (sym e) ∙ ends_by table ts image outer here a no_child)

-- the way in a child: it goes on there, or ends at the form if there is no such child
abbrev spot_nth : Table → Option Tree → ℕ → ℕ → ℕ → ℕ → Spot
spot_nth table None image outer here place = record { outer = outer; node = here; action = action.Stuck }
spot_nth table (Some t) image outer here place = spot_of table t image place place

-- the way in child i is the way in the tree there
spot_nth_lem : (table : Table) (ts : Trees) (i image outer here place : ℕ) → spot_in table ts i image outer here place ≡ spot_nth table (nth i ts) image outer here (place + length_before i ts)
unfolding spot_of nth length_before
spot_nth_lem table none zero image outer here place = refl
spot_nth_lem table none (suc i) image outer here place = refl
spot_nth_lem table (more t ts) zero image outer here place = ap (λ n. spot_of table t image n n) (sym (add-zero place))
spot_nth_lem table (more t ts) (suc i) image outer here place =
    spot_nth_lem table ts i image outer here (place + length (written t))
    ∙ ap (spot_nth table (nth i ts) image outer here) (add_assoc place (length (written t)) (length_before i ts))

-- a node at which a child is stepped is a form
record Stepped (table : Table) (t : Tree) (image i : ℕ) : Type 0 where
  pub label : ℕ
  pub children : Trees
  pub is : t ≡ form label children
  pub acts : action_at table label children image ≡ action.Child i

-- no other node steps a child
stepped : (table : Table) (t : Tree) (image i : ℕ) → action.Child i ≡ node_action table t image → Stepped table t image i
stepped table (atom v) image i e = apart (cc)
stepped table (variable n) image i e = apart (cc)
stepped table (body k t) image i e = apart (cc)
stepped table (head k r ds t) image i e = apart (cc)
stepped table (form l ts) image i e = record { label = l; children = ts; is = refl; acts = sym e }

-- the way through a term has come to the words from `outer` on
abbrev pub Spotted : Table → List ℕ → ℕ → ℕ → Type 0
Spotted table words image outer =
    (t : Tree) → WellFormed t → words ≡ written t → (u : Tree) × BeginsWith (drop outer words) u × (spot_of table t image 0 0 ≡ spot_of table u image outer outer)

module _ (table : Table) (words : List ℕ) (image outer : ℕ) (p : Spotted table words image outer) (n : ℕ) (inside : InsideOf (drop outer words) n) (a : Action) (act : ActionOf table (drop (outer + n) words) image a) where
  -- the node inside the marks there
  at_core : (t : Tree) (h : WellFormed t) (e : words ≡ written t) → BeginsWith (drop (outer + n) words) (core (p t h e).0)
  at_core t h e =
      let q = p t h e in
      subst (λ l. BeginsWith l (core q.0)) (drop-drop n outer words) (core_begins (drop outer words) n q.0 q.1 (inside.1 q.0 q.1))

  -- the way goes on from that node
  to_core : (t : Tree) (h : WellFormed t) (e : words ≡ written t) → spot_of table t image 0 0 ≡ spot_of table (core (p t h e).0) image outer (outer + n)
  to_core t h e =
      let q = p t h e in
      q.2 ∙ spot_core table q.0 image outer outer ∙ ap (λ m. spot_of table (core q.0) image outer (outer + m)) (sym (inside.1 q.0 q.1))

  -- the way ends at the node
  pub spotted_here : ((i : ℕ) → a ≡ action.Child i → ⊥) → (t : Tree) → WellFormed t → words ≡ written t → record { outer = outer; node = outer + n; action = a } ≡ spot_of table t image 0 0
  spotted_here no_child t h e =
      let u = core (p t h e).0 in
      ends_at table u image outer (outer + n) a (core_marks (p t h e).0) (act u (at_core t h e)) no_child ∙ sym (to_core t h e)

  module _ (i : ℕ) (is : a ≡ action.Child i) where
    at_form : (t : Tree) (h : WellFormed t) (e : words ≡ written t) → Stepped table (core (p t h e).0) image i
    at_form t h e = stepped table (core (p t h e).0) image i (sym is ∙ act (core (p t h e).0) (at_core t h e))

    -- the words of that form
    form_begins : (t : Tree) (h : WellFormed t) (e : words ≡ written t) → BeginsWith (drop (outer + n) words) (form (at_form t h e).label (at_form t h e).children)
    form_begins t h e = subst (BeginsWith (drop (outer + n) words)) (at_form t h e).is (at_core t h e)

    -- the way goes on in its child
    to_child : (t : Tree) (h : WellFormed t) (e : words ≡ written t) → spot_of table t image 0 0 ≡ spot_nth table (nth i (at_form t h e).children) image outer (outer + n) (outer + n + 1 + length_before i (at_form t h e).children)
    to_child t h e =
        let f = at_form t h e in
        to_core t h e
        ∙ ap (λ u. spot_of table u image outer (outer + n)) f.is
        ∙ spot_form table f.label f.children image outer (outer + n)
        ∙ ap (spot_by table f.children image outer (outer + n)) f.acts
        ∙ spot_nth_lem table f.children i image outer (outer + n) (outer + n + 1)

    -- the way ends at a form that lacks the child
    pub spotted_no_child : StartOf (drop (outer + n) words) i None → (t : Tree) → WellFormed t → words ≡ written t → record { outer = outer; node = outer + n; action = action.Stuck } ≡ spot_of table t image 0 0
    spotted_no_child s t h e =
        let f = at_form t h e in
        sym (to_child t h e ∙ ap (λ o. spot_nth table o image outer (outer + n) (outer + n + 1 + length_before i f.children)) (s f.label f.children (form_begins t h e)))

    -- the way goes on in the child
    pub spotted_child : (start : ℕ) → StartOf (drop (outer + n) words) i (Some start) → Spotted table words image (outer + n + start)
    spotted_child start s t h e =
        let f = at_form t h e in
        let there = s.2 f.label f.children (form_begins t h e) in
        let child = child_there (drop (outer + n) words) f.label f.children i (form_begins t h e) there.0 in
        let place : outer + n + 1 + length_before i f.children ≡ outer + n + start = let s = there.1 in omega arith in
        let words_there : drop (1 + length_before i f.children) (drop (outer + n) words) ≡ drop (outer + n + start) words =
        drop-drop (1 + length_before i f.children) (outer + n) words ∙ ap (λ k. drop (outer + n + k) words) (sym there.1) in (
          child.tree,
          subst (λ l. BeginsWith l child.tree) words_there child.begins,
          to_child t h e
              ∙ ap (λ o. spot_nth table o image outer (outer + n) (outer + n + 1 + length_before i f.children)) child.is
              ∙ ap (λ k. spot_of table child.tree image k k) place,
        )
