-- A step of a well-formed term gives a well-formed term, and one of a term of the stepper's forms gives such a term.
use Rattle.std.specs.Prelude.{◌≡◌, ℕ, zero, suc, ◌+◌, ◌<◌, Bool, true, false, cond, length, Some, None, Option}
use Rattle.std.proofs.Math.Path.{refl, ap}
use Rattle.std.proofs.Common.{sym, subst, ◌∙◌}
use native.Mathlib.Omega.{arith}
use Rattle.terms.specs.Trees.{Tree, Trees, atom, variable, body, head, form, none, more, count, written, written_all, nth, WellMade, WellMadeAll, WellFormed}
use Rattle.languages.specs.Meaning.{moved, ended}
use Rattle.languages.proofs.Asked.{apart}
use Rattle.steppers.specs.declared.action.Made.{Made}
use Rattle.steppers.specs.declared.action.Made.TheVariants as made
use Rattle.steppers.specs.declared.action.Action.{Action}
use Rattle.steppers.specs.declared.action.Action.TheVariants as action
use Rattle.steppers.specs.Looks.{seen, seen_all}
use Rattle.steppers.specs.Table.{Table, Sound, MadeSoundly, ActsSoundly, InRange, AllInRange, action_at}
use Rattle.steppers.specs.Steps.{pick, fill, Change, replaced, within, waits, sticks, around, in_form, child_before, children_behind, step_of, child_step, move_of, rule_of}
use Rattle.steppers.specs.Loads.{behind, or_else, lacking, lacking_all}
use Rattle.steppers.specs.Marking.{given, form-given}

-- a well-formed term is seen with its numbers in range
seen_range : (t : Tree) → WellFormed t → InRange (seen t)
unfolding seen WellMade
seen_range (atom v) h = h
seen_range (variable n) h = tt
seen_range (body k t) h = seen_range t h.1
seen_range (head k r ds t) h = seen_range t h.2
seen_range (form l ts) h = tt

pub seen_all_range : (ts : Trees) → WellMadeAll ts false → AllInRange (seen_all ts)
unfolding seen_all AllInRange WellMadeAll
seen_all_range none h = tt
seen_all_range (more t ts) h = (seen_range t h.0, seen_all_range ts h.1)

pub seen_all-length : (ts : Trees) → length (seen_all ts) ≡ count ts
unfolding seen_all count
seen_all-length none = refl
seen_all-length (more t ts) = ap suc (seen_all-length ts)

-- places of forms that are lacking
none_behind : (n : ℕ) (o : Option ℕ) → behind n o ≡ None → o ≡ None
none_behind n None e = refl
none_behind n (Some p) e = apart (cc)

none_either : (o p : Option ℕ) → or_else o p ≡ None → (o ≡ None) × (p ≡ None)
none_either None p e = (refl, e)
none_either (Some n) p e = apart (cc)

module _ (has : ℕ → ℕ → Bool) where
  -- every form outside dropped terms is one that the stepper has
  abbrev Had : Tree → Type 0
  Had t = lacking has t ≡ None

  abbrev HadAll : Trees → Type 0
  HadAll ts = lacking_all has ts ≡ None

  body_had : (k : ℕ) (t : Tree) → Had (body k t) → Had t
  unfolding lacking
  body_had k t e = none_behind 1 (lacking has t) e

  had_body : (k : ℕ) (t : Tree) → Had t → Had (body k t)
  unfolding lacking
  had_body k t e = ap (behind 1) e

  head_had : (k r : ℕ) (ds : Trees) (t : Tree) → Had (head k r ds t) → Had t
  unfolding lacking
  head_had k r ds t e = none_behind (1 + length (written_all ds)) (lacking has t) e

  had_head : (k r : ℕ) (ds : Trees) (t : Tree) → Had t → Had (head k r ds t)
  unfolding lacking
  had_head k r ds t e = ap (behind (1 + length (written_all ds))) e

  -- at a form, by whether the stepper has it
  abbrev lacks : Bool → Option ℕ → Option ℕ
  lacks false o = Some 0
  lacks true o = behind 1 o

  lacking-form : (l : ℕ) (ts : Trees) → lacking has (form l ts) ≡ lacks (has l (count ts)) (lacking_all has ts)
  unfolding lacking
  lacking-form l ts = same (has l (count ts))
    where
      same : (b : Bool) → elim b [ false ↦ Some 0 | true ↦ behind 1 (lacking_all has ts) ] ≡ lacks b (lacking_all has ts)
      same true = refl
      same false = refl

  had_form : (l : ℕ) (ts : Trees) → has l (count ts) ≡ true → HadAll ts → Had (form l ts)
  had_form l ts h e = lacking-form l ts ∙ ap (λ b. lacks b (lacking_all has ts)) h ∙ ap (behind 1) e

  form_had : (l : ℕ) (ts : Trees) → Had (form l ts) → (has l (count ts) ≡ true) × HadAll ts
  form_had l ts e = by_test (has l (count ts)) refl
    where
      lacks_none : (b : Bool) → has l (count ts) ≡ b → lacks b (lacking_all has ts) ≡ None
      lacks_none b h = ap (λ c. lacks c (lacking_all has ts)) (sym h) ∙ sym (lacking-form l ts) ∙ e

      by_test : (b : Bool) → has l (count ts) ≡ b → (has l (count ts) ≡ true) × HadAll ts
      by_test true h = (h, none_behind 1 (lacking_all has ts) (lacks_none true h))
      by_test false h = let z = lacks_none false h in apart (cc)

  more_had : (t : Tree) (ts : Trees) → HadAll (more t ts) → Had t × HadAll ts
  unfolding lacking_all
  more_had t ts e =
      let both = none_either (lacking has t) (behind (length (written t)) (lacking_all has ts)) e in
      (both.0, none_behind (length (written t)) (lacking_all has ts) both.1)

  had_more : (t : Tree) (ts : Trees) → Had t → HadAll ts → HadAll (more t ts)
  unfolding lacking_all
  had_more t ts e f = rw e (ap (behind (length (written t))) f)

  had_none : HadAll none
  unfolding lacking_all
  had_none = refl

  had_atom : (v : ℕ) → Had (atom v)
  unfolding lacking
  had_atom v = refl

  -- a child that is there is well formed, and of the stepper's forms if all are
  pick_kept : (i : ℕ) (ts : Trees) → WellMadeAll ts false → i < count ts → WellFormed (pick i ts) × (HadAll ts → Had (pick i ts))
  unfolding pick nth count WellMadeAll
  pick_kept i none h less = absurd (omega arith)
  pick_kept zero (more t ts) h less = (h.0, λ e. (more_had t ts e).0)
  pick_kept (suc i) (more t ts) h less =
      let rest = pick_kept i ts h.1 (omega arith) in
      (rest.0, λ e. rest.1 (more_had t ts e).1)

module _ (table : Table) (sound : Sound table) where
  -- what is well formed from what was, and of the stepper's forms if that was
  abbrev Kept : (Tree → Tree → Type 0)
  Kept t u = WellFormed u × (Had table.has t → Had table.has u)

  abbrev KeptAll : (Trees → Trees → Type 0)
  KeptAll ts us = WellMadeAll us false × (count us ≡ count ts) × (HadAll table.has ts → HadAll table.has us)

  abbrev Changed : {X : Type 0} → (X → Type 0) → Change X → Type 0
  Changed P (replaced effect x) = P x
  Changed P (within effect x) = P x
  Changed P waits = Unit {0}
  Changed P sticks = Unit {0}

  leaf_kept : (l : ℕ) → table.has l 0 ≡ true → WellFormed (form l none) × Had table.has (form l none)
  unfolding WellMade WellMadeAll count
  leaf_kept l h =
      (((sound.forms l 0 h).0, omega arith, tt), had_form table.has l none h (had_none table.has))

  pair_kept : (l : ℕ) (t u : Tree) → table.has l 2 ≡ true → WellFormed t → WellFormed u → WellFormed (form l (more t (more u none)))
  unfolding WellMade WellMadeAll count
  pair_kept l t u h formed other = ((sound.forms l 2 h).0, omega arith, (formed, (other, tt)))

  pair_had : (l : ℕ) (t u : Tree) → table.has l 2 ≡ true → Had table.has t → Had table.has u → Had table.has (form l (more t (more u none)))
  unfolding count
  pair_had l t u h e f =
      let has = table.has in
      had_form has l (more t (more u none)) h (had_more has t (more u none) e (had_more has u none f (had_none has)))

  number_kept : (v : ℕ) → v < 16777216 → WellFormed (atom v)
  unfolding WellMade
  number_kept v h = h

  fill_kept : (by : Made) (ts : Trees) → MadeSoundly table.has (count ts) by → WellMadeAll ts false → WellFormed (fill by ts) × (HadAll table.has ts → Had table.has (fill by ts))
  unfolding fill
  fill_kept (made.Number v) ts s h = (number_kept v s, λ e. had_atom table.has v)
  fill_kept (made.Leaf l) ts s h = let leaf = leaf_kept l s in (leaf.0, λ e. leaf.1)
  fill_kept (made.Child i) ts s h = pick_kept table.has i ts h s
  fill_kept (made.Round first again n i) ts s h =
      let body = pick_kept table.has i ts h s.3 in
      let t = pick i ts in
      (pair_kept first t (form again (more (atom n) (more t none))) s.0 body.0 (pair_kept again (atom n) t s.1 (number_kept n s.2) body.0), λ e. pair_had first t (form again (more (atom n) (more t none))) s.0 (body.1 e) (pair_had again (atom n) t s.1 (had_atom table.has n) (body.1 e)))

  -- the action at a form is sound
  pub action_sound : (l : ℕ) (ts : Trees) (image : ℕ) → WellMadeAll ts false → ActsSoundly table.has (count ts) (action_at table l ts image)
  action_sound l ts image h = by_test (table.has l (count ts)) refl
    where
      by_test : (b : Bool) → table.has l (count ts) ≡ b → ActsSoundly table.has (count ts) (cond b (table.acts l (seen_all ts) image) action.Stuck)
      by_test false b = tt
      by_test true b =
          let all = seen_all-length ts in
          let acts = sound.acts_soundly l (seen_all ts) image (rw all b) (seen_all_range ts h) in
          rw all at acts

  around_kept : (mark : Tree → Tree) (t : Tree) → ((u : Tree) → WellFormed u → WellFormed (mark u)) → (Had table.has (mark t) → Had table.has t) → ((u : Tree) → Had table.has u → Had table.has (mark u)) → (c : Change Tree) → Changed (Kept t) c → Changed (Kept (mark t)) (around mark c)
  around_kept mark t formed less wider (replaced effect u) h = (h.0, λ e. h.1 (less e))
  around_kept mark t formed less wider (within effect u) h = (formed u h.0, λ e. wider u (h.1 (less e)))
  around_kept mark t formed less wider waits h = tt
  around_kept mark t formed less wider sticks h = tt

  form_kept : (l : ℕ) (ts us : Trees) → WellFormed (form l ts) → KeptAll ts us → Kept (form l ts) (form l us)
  unfolding WellMade
  form_kept l ts us h k =
      ((h.0, rw k.1 h.1, k.0), λ e. let had = form_had table.has l ts e in had_form table.has l us (rw k.1 had.0) (k.2 had.1))

  in_form_kept : (l : ℕ) (ts : Trees) → WellFormed (form l ts) → (c : Change Trees) → Changed (KeptAll ts) c → Changed (Kept (form l ts)) (in_form l c)
  in_form_kept l ts formed (replaced effect us) h = form_kept l ts us formed h
  in_form_kept l ts formed (within effect us) h = form_kept l ts us formed h
  in_form_kept l ts formed waits h = tt
  in_form_kept l ts formed sticks h = tt

  one_kept : (t u : Tree) (ts : Trees) → WellMadeAll ts false → Kept t u → KeptAll (more t ts) (more u ts)
  unfolding WellMadeAll count
  one_kept t u ts formed h =
      ((h.0, formed), refl, λ e. let both = more_had table.has t ts e in had_more table.has u ts (h.1 both.0) both.1)

  before_kept : (t : Tree) (ts : Trees) → WellMadeAll ts false → (c : Change Tree) → Changed (Kept t) c → Changed (KeptAll (more t ts)) (child_before ts c)
  before_kept t ts formed (replaced effect u) h = one_kept t u ts formed h
  before_kept t ts formed (within effect u) h = one_kept t u ts formed h
  before_kept t ts formed waits h = tt
  before_kept t ts formed sticks h = tt

  others_kept : (t : Tree) (ts us : Trees) → WellFormed t → KeptAll ts us → KeptAll (more t ts) (more t us)
  unfolding WellMadeAll count
  others_kept t ts us formed h =
      ((formed, h.0), ap suc h.1, λ e. let both = more_had table.has t ts e in had_more table.has t us both.0 (h.2 both.1))

  behind_kept : (t : Tree) (ts : Trees) → WellFormed t → (c : Change Trees) → Changed (KeptAll ts) c → Changed (KeptAll (more t ts)) (children_behind t c)
  behind_kept t ts formed (replaced effect us) h = others_kept t ts us formed h
  behind_kept t ts formed (within effect us) h = others_kept t ts us formed h
  behind_kept t ts formed waits h = tt
  behind_kept t ts formed sticks h = tt

  replaced_kept : (l : ℕ) (ts : Trees) (by : Made) → WellFormed (form l ts) → MadeSoundly table.has (count ts) by → Kept (form l ts) (fill by ts)
  unfolding WellMade
  replaced_kept l ts by formed sound_by =
      let k = fill_kept by ts sound_by formed.2 in
      (k.0, λ e. k.1 (form_had table.has l ts e).1)

  given_kept : (l : ℕ) (ts : Trees) (child : ℕ → Change Trees) → WellFormed (form l ts) → ((i : ℕ) → Changed (KeptAll ts) (child i)) → (a : Action) → ActsSoundly table.has (count ts) a → Changed (Kept (form l ts)) (given l ts child a)
  given_kept l ts child formed h (action.Child i) s = in_form_kept l ts formed (child i) (h i)
  given_kept l ts child formed h (action.Replace effect by) s = replaced_kept l ts by formed s
  given_kept l ts child formed h action.Wait s = tt
  given_kept l ts child formed h action.Stuck s = tt

  mutual
    unfolding step_of child_step WellMade WellMadeAll

    step_kept : (t : Tree) (image : ℕ) → WellFormed t → Changed (Kept t) (step_of table t image)
    step_kept (atom v) image h = tt
    step_kept (variable n) image h = tt
    step_kept (body k t) image h =
        around_kept (body k) t (λ u f. (h.0, f)) (body_had table.has k t) (had_body table.has k) (step_of table t image) (step_kept t image h.1)
    step_kept (head k r ds t) image h =
        around_kept (head k r ds) t (λ u f. (h.0, h.1, f)) (head_had table.has k r ds t) (had_head table.has k r ds) (step_of table t image) (step_kept t image h.2)
    step_kept (form l ts) image h =
        subst (Changed (Kept (form l ts))) (sym (form-given table l ts image)) (given_kept l ts (λ i. child_step table ts i image) h (λ i. child_kept ts i image h.2) (action_at table l ts image) (action_sound l ts image h.2))

    pub child_kept : (ts : Trees) (i image : ℕ) → WellMadeAll ts false → Changed (KeptAll ts) (child_step table ts i image)
    child_kept none i image h = tt
    child_kept (more t ts) zero image h = before_kept t ts h.1 (step_of table t image) (step_kept t image h.0)
    child_kept (more t ts) (suc i) image h = behind_kept t ts h.0 (child_step table ts i image) (child_kept ts i image h.1)

  move_kept : (t next : Tree) (effect : ℕ) (c : Change Tree) → WellFormed t → Changed (Kept t) c → move_of t c ≡ moved effect next → Kept t next
  move_kept t next effect (replaced e u) formed h same = let is : u ≡ next = cc in rw is at h
  move_kept t next effect (within e u) formed h same = let is : u ≡ next = cc in rw is at h
  move_kept t next effect waits formed h same = let is : t ≡ next = cc in subst (Kept t) is (formed, λ e. e)
  move_kept t next effect sticks formed h same = apart (cc)

  -- the next term is well formed, and of the stepper's forms if the term was
  pub next_kept : (t next : Tree) (image effect : ℕ) → WellFormed t → rule_of table t image ≡ moved effect next → Kept t next
  unfolding rule_of
  next_kept t next image effect formed rule = by_test (table.over (seen t)) rule
    where
      by_test : (b : Bool) → cond b ended (move_of t (step_of table t image)) ≡ moved effect next → Kept t next
      by_test true e = apart (cc)
      by_test false e = move_kept t next effect (step_of table t image) formed (step_kept t image formed) e
