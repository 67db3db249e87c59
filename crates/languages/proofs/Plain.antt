-- From an accepted load on, while no load is accepted and no step is full, the steps are those of the plain model.
use Rattle.std.proofs.Common.{◌≡◌, ℕ, Bool, true, false, leb, List, [], ◌∷◌, ◌++◌, map, length, Some, Ok, Err, Option, Result, refl, ap}
use Rattle.std.proofs.lemmas.List.{map-append}
use Rattle.std.proofs.lemmas.Bool.{leb-true, and_parts}
use Rattle.terms.specs.Trees.{Tree, written, bare}
use Rattle.languages.specs.declared.refusal.Refusal.{Refusal}
use Rattle.languages.specs.declared.answers.Stepped.{Stepped}
use Rattle.languages.specs.Meaning.{Expanded, Move, moved, ended, stuck, bare_move, Meaning, Core}
use Rattle.languages.specs.Calls.{Steps}
use Rattle.languages.specs.Laws.{Laws}
use Rattle.languages.specs.Promise.{Request, load, step, show, Reply, loaded, stepped, shown, Moment, held_after, Gives, accepted, undisturbed, all_undisturbed, plain_next, plain_answer, plain_after, plain_answers, step_of, steps_of, images_of, answers_of, StepsAreThePlainModels}
use Rattle.languages.proofs.Asked.{apart, by_show, load_held, load_refused}
use Rattle.languages.proofs.Chained.{Chain, chain_front, chain_rest}

abbrev images : List (ℕ × Stepped) → List ℕ
images = map (λ s. s.0)

abbrev answers : List (ℕ × Stepped) → List Stepped
answers = map (λ s. s.1)

module _ (m : Meaning) where
  -- a load that was accepted holds its expansion, and one that was not keeps what was held
  accepted_holds : (was : Option Tree) (words : List ℕ) (r : Reply) (is : Option Tree) (v : Result Expanded Refusal) → m.expansion words ≡ v → Gives m was (load words) r is → accepted r ≡ true → (e : Expanded) × (m.expansion words ≡ Ok e) × (is ≡ Some e.term)
  accepted_holds was words r is (Ok e) v given ok = (e, v, (load_held m was words r is given e v).1)
  accepted_holds was words r is (Err refusal) v given ok =
      let refused = ap accepted (load_refused m was words r is given refusal v).0 in apart (cc)

  undisturbed_keeps : (was : Option Tree) (words : List ℕ) (r : Reply) (is : Option Tree) (v : Result Expanded Refusal) → m.expansion words ≡ v → Gives m was (load words) r is → undisturbed r ≡ true → is ≡ was
  undisturbed_keeps was words r is (Ok e) v given calm =
      let held = ap undisturbed (load_held m was words r is given e v).0 in apart (cc)
  undisturbed_keeps was words r is (Err refusal) v given calm = (load_refused m was words r is given refusal v).1

  -- the plain model over two lists of images
  after_append : (t : Tree) (xs ys : List ℕ) → plain_after m t (xs ++ ys) ≡ plain_after m (plain_after m t xs) ys
  unfolding plain_after
  after_append t [] ys = refl
  after_append t (x ∷ xs) ys = after_append (plain_next t (m.rule t x)) xs ys

  answers_append : (t : Tree) (xs ys : List ℕ) → plain_answers m t (xs ++ ys) ≡ plain_answers m t xs ++ plain_answers m (plain_after m t xs) ys
  unfolding plain_after plain_answers
  answers_append t [] ys = refl
  answers_append t (x ∷ xs) ys =
      ap {B = List Stepped} (λ r. plain_answer (m.rule t x) ∷ r) (answers_append (plain_next t (m.rule t x)) xs ys)

  -- what one step does, by the move of its term: with the marks off, what the plain model does
  abbrev Moves : Tree → Move → Stepped → Option Tree → Type 0
  Moves t move s is =
      (next : Tree) × (is ≡ Some next) × (Core m next) × (s ≡ plain_answer (bare_move move)) × (bare next ≡ plain_next (bare t) (bare_move move))

  -- what one call does: a core term is held again, and the step, if it was one, is the plain model's
  abbrev Follows : Tree → List (ℕ × Stepped) → Option Tree → Type 0
  Follows t steps is =
      (next : Tree) × (is ≡ Some next) × (Core m next) × (answers steps ≡ plain_answers m (bare t) (images steps)) × (bare next ≡ plain_after m (bare t) (images steps))

  -- what many calls do
  abbrev Models : Tree → List Moment → Option Tree → Type 0
  Models p since start =
      (answers_of since ≡ plain_answers m p (images_of since)) × ((t : Tree) × (held_after start since ≡ Some t) × (bare t ≡ plain_after m p (images_of since)))

  module _ (laws : Laws m) where
    one_step : (t : Tree) (image : ℕ) (s : Stepped) (is : Option Tree) (move : Move) → Core m t → m.rule t image ≡ move → Steps m.capacity t move s is → undisturbed (stepped (Ok s)) ≡ true → Moves t move s is
    one_step t image s is (moved effect next) core rule steps calm = within (leb (length (written next)) m.capacity) refl
      where
        within : (b : Bool) → leb (length (written next)) m.capacity ≡ b → Moves t (moved effect next) s is
        within true b =
            let went = rw (b, Steps) at steps in
            (next, went.1, laws.next_loads t next image effect core rule (leb-true (length (written next)) m.capacity b), went.0, refl)
        within false b =
            let full = rw (b, Steps) at steps in
            let stop = ap (λ (x : Stepped). undisturbed (stepped (Ok x))) full.0 in
            apart (cc)
    one_step t image s is ended core rule steps calm = (t, steps.1, core, steps.0, refl)
    one_step t image s is stuck core rule steps calm = (t, steps.1, core, steps.0, refl)

    one_call : (t : Tree) (q : Request) (r : Reply) (is : Option Tree) → Core m t → Gives m (Some t) q r is → undisturbed r ≡ true → Follows t (step_of q r) is
    unfolding plain_answers plain_after
    one_call t (load words) r is core given calm =
        (t, undisturbed_keeps (Some t) words r is (m.expansion words) refl given calm, core, refl, refl)
    one_call t (step image) (loaded r) is core given calm = absurd given
    one_call t (step image) (stepped (Ok s)) is core given calm =
        let went = one_step t image s is (m.rule t image) core refl given calm in
        let unmarked = laws.marks_change_nothing t image core in
        (went.0, went.1, went.2, cc, cc)
    one_call t (step image) (stepped (Err refusal)) is core given calm = absurd given
    one_call t (step image) (shown r after) is core given calm = absurd given
    one_call t (show buffer) r is core given calm = (t, (by_show m (Some t) buffer r is given).4, core, refl, refl)

    many_calls : (t : Tree) (xs : List Moment) → Core m t → Chain m (Some t) xs → all_undisturbed xs ≡ true → Models (bare t) xs (Some t)
    unfolding held_after all_undisturbed steps_of plain_after plain_answers
    many_calls t [] core chain calm = (refl, (t, refl, refl))
    many_calls t (x ∷ xs) core chain calm =
        let calms = and_parts (undisturbed x.reply) (all_undisturbed xs) calm in
        let one = one_call t x.request x.reply x.held core chain.0 calms.0 in
        let others = many_calls one.0 xs one.2 (rw one.1 at chain.1) calms.1 in
        let now = step_of x.request x.reply in
        let asked = map-append (λ s. s.0) now (steps_of xs) in
        let answered = map-append (λ s. s.1) now (steps_of xs) in
        let a = after_append (bare t) (images now) (images_of xs) in
        let b = answers_append (bare t) (images now) (images_of xs) in
        (cc, (others.1.0, cc, cc))

    pub steps_are_plain : (start : Option Tree) (run : List Moment) → Chain m start run → StepsAreThePlainModels m run
    steps_are_plain start run chain before since rest x u e formed unmarked is_load ok calm =
        let was = held_after start before in
        let here = chain_rest m start before (x ∷ (since ++ rest)) (rw e at chain) in
        let held = accepted_holds was (written u) x.reply x.held (m.expansion (written u)) refl (rw is_load at here.0) ok in
        let t = held.0.term in
        let models = many_calls t since (laws.loads_core (written u) held.0 held.1) (rw held.2 at (chain_front m x.held since rest here.1)) calm in
        let plain = laws.plain_is_held u t formed unmarked (held.0, held.1, refl) in
        (cc, (models.1.0, cc, cc))
