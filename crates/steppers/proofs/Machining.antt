-- What a machine answers, by the words that it holds.
use Rattle.std.proofs.Common.{◌≡◌, ◌⊎◌, ℕ, ◌≤◌, Bool, true, false, cond, eqb, leb, List, [], ◌++◌, length, drop, Some, None, Ok, Err, Option, Result, sym, refl, ap, ◌∙◌, subst, ⊎_elim, arith}
use Rattle.std.specs.Result.{result_map_both}
use Rattle.std.proofs.lemmas.List.{append-nil, nil_from_length}
use Rattle.std.proofs.lemmas.Bool.{eqb-true, eqb-false, leb-true, le-leb}
use Rattle.terms.specs.Trees.{Tree, written, read, WellFormed, term_of}
use Rattle.terms.proofs.Readings.{term_read}
use Rattle.languages.specs.declared.refusal.Refusal.{Refusal}
use Rattle.languages.specs.declared.refusal.Refusal.TheVariants.{NothingHeld}
use Rattle.languages.specs.declared.answers.Stepped.{Stepped}
use Rattle.languages.specs.declared.answers.Stepped.TheVariants.{Moved, Ended, Stuck, Full}
use Rattle.languages.specs.Meaning.{Expanded, Move, moved, ended, stuck}
use Rattle.languages.specs.Calls.{Loads, Steps, StepGives, HeldShowGives, BufferShowGives}
use Rattle.languages.proofs.Asked.{apart}
use Rattle.steppers.specs.declared.action.Made.{Made}
use Rattle.steppers.specs.declared.action.Action.{Action}
use Rattle.steppers.specs.declared.action.Action.TheVariants as action
use Rattle.steppers.specs.declared.spot.Spot.{Spot}
use Rattle.steppers.specs.Looks.{BeginsWith, seen}
use Rattle.steppers.specs.Table.{Table, Sound}
use Rattle.steppers.specs.Steps.{rule_of}
use Rattle.steppers.specs.Loads.{lacking, holdable_by, expansion_of, meaning_of}
use Rattle.steppers.specs.Places.{spot_of}
use Rattle.steppers.specs.Placed.{OverAt, FoundIn}
use Rattle.steppers.specs.Written.{Wordable, rewritten}
use Rattle.steppers.specs.Closing.{next_kept}
use Rattle.steppers.specs.Loading.{loadable, loads_term, Held, empty, loads, held_words, loaded_holdable}
use Rattle.steppers.proofs.Stepping.{Replaced, rule_ended, rule_waits, rule_sticks, no_child, rule_replaces}

pub no_term : (ws : List ℕ) → ws ≡ [] → term_of ws ≡ None
unfolding term_of read
no_term ws e = ap term_of e

-- the term that the words are
held_term : (ws : List ℕ) (t : Tree) → WellFormed t → written t ≡ ws → term_of ws ≡ Some t
held_term ws t formed e = ap term_of (sym e) ∙ term_read t false formed

-- the words that were looked at are none, so none are held
pub no_words : (ws other : List ℕ) → other ≡ ws → true ≡ eqb (length other) 0 → ws ≡ []
no_words ws other same none = sym same ∙ nil_from_length other (eqb-true (length other) 0 (sym none))

module _ (table : Table) where
  -- they are some, so a term is held that the stepper loads, and they begin with it
  pub record Holds (ws other : List ℕ) : Type 0 where
    pub tree : Tree
    pub formed : WellFormed tree
    pub spelled : written tree ≡ ws
    pub few : length ws ≤ table.capacity
    pub had : lacking table.has tree ≡ None
    pub begun : BeginsWith other tree

  pub some_words : (ws other : List ℕ) → other ≡ ws → holdable_by table ws ≡ true → false ≡ eqb (length other) 0 → Holds ws other
  some_words ws other same holds some = by_held (held_words table ws holds)
    where
      by_held : Held table ws → Holds ws other
      by_held (empty h) = absurd (eqb-false (length other) 0 (sym some) (ap length (same ∙ h)))
      by_held (loads e h) =
          let l = loadable table ws e h in
          record {
            tree = e.term;
            formed = l.formed;
            spelled = l.spelled;
            few = l.few;
            had = l.had;
            begun = (l.formed, ([], same ∙ sym l.spelled ∙ sym (append-nil (written e.term))));
          }

-- whether the words are admitted, by their expansion
abbrev verdict : Result Expanded Refusal → Result (Unit {0}) Refusal
verdict = result_map_both (λ e. tt) (λ e. e)

abbrev Same : Result (Unit {0}) Refusal → Result (Unit {0}) Refusal → Type 0
Same r q = r ≡ q

module _ (table : Table) (sound : Sound table) where
  -- a load of words that the stepper admits, and of others
  pub loads_held : (words : List ℕ) (was : Option Tree) (x : Unit {0}) → Same (Ok x) (verdict (expansion_of table words)) → Loads (meaning_of table) words was (Ok (record { words = length words; uses = 0 })) (term_of words) × (holdable_by table words ≡ true) × (length words ≤ 1024)
  loads_held words was x h = by_expansion (expansion_of table words) refl h
    where
      by_expansion : (r : Result Expanded Refusal) → expansion_of table words ≡ r → Same (Ok x) (verdict r) → Loads (meaning_of table) words was (Ok (record { words = length words; uses = 0 })) (term_of words) × (holdable_by table words ≡ true) × (length words ≤ 1024)
      by_expansion (Err refusal) v e = apart (cc)
      by_expansion (Ok e) v h =
          let l = loadable table words e v in
          let few : length words ≤ 1024 = omega (arith, l.few, sound.holds_few) in
          let uses = l.none_used in
          let size : length words ≡ length (written e.term) = ap length (sym l.spelled) in
          let none : e.uses ≡ 0 = ap (λ x. x.uses) uses in
          let answer : Ok (record { words = length words; uses = 0 }) ≡ Ok (record { words = length (written e.term); uses = e.uses }) = cc in
          let held = held_term words e.term l.formed l.spelled in
          (rw (v, Loads) (answer, held), loaded_holdable table words e v, few)

  -- a term is held that has not ended, and a spot was found in it
  pub record Ready (ws : List ℕ) (image : ℕ) (spot : Spot) : Type 0 where
    pub tree : Tree
    pub formed : WellFormed tree
    pub spelled : written tree ≡ ws
    pub few : length ws ≤ 1024
    pub within : length ws ≤ table.capacity
    pub had : lacking table.has tree ≡ None
    pub holds : holdable_by table ws ≡ true
    pub goes : table.over (seen tree) ≡ false
    pub found : FoundIn table ws image spot

  -- the words that were looked at are those that are held
  pub ready : (ws other : List ℕ) (image : ℕ) (spot : Spot) → other ≡ ws → holdable_by table ws ≡ true → false ≡ eqb (length other) 0 → OverAt table other false → FoundIn table other image spot → Ready ws image spot
  ready ws other image spot same holds some over found =
      let h = some_words table ws other same holds some in
      record {
        tree = h.tree;
        formed = h.formed;
        spelled = h.spelled;
        few = omega (arith, h.few, sound.holds_few);
        within = h.few;
        had = h.had;
        holds = holds;
        goes = sym (over h.tree h.begun);
        found = subst (λ xs. FoundIn table xs image spot) same found;
      }

  -- a step with nothing held
  pub steps_nothing : (ws : List ℕ) (image : ℕ) → ws ≡ [] → StepGives (meaning_of table) image (term_of ws) (Err NothingHeld) (term_of ws)
  steps_nothing ws image e = let none = no_term ws e in rw none (refl, refl)

  -- a step of the term that the words are, by its rule
  steps_by : (ws : List ℕ) (image : ℕ) (t : Tree) (move : Move) (s : Stepped) (is : Option Tree) → term_of ws ≡ Some t → rule_of table t image ≡ move → Steps table.capacity t move s is → StepGives (meaning_of table) image (term_of ws) (Ok s) is
  steps_by ws image t move s is held rule steps =
      subst (λ o. StepGives (meaning_of table) image o (Ok s) is) (sym held) (subst (λ m. Steps table.capacity t m s is) (sym rule) steps)

  -- a step of a term that has ended
  pub steps_ended : (ws other : List ℕ) (image : ℕ) → other ≡ ws → holdable_by table ws ≡ true → false ≡ eqb (length other) 0 → OverAt table other true → StepGives (meaning_of table) image (term_of ws) (Ok Ended) (term_of ws)
  steps_ended ws other image same holds some over =
      let h = some_words table ws other same holds some in
      let held = held_term ws h.tree h.formed h.spelled in
      steps_by ws image h.tree ended Ended (term_of ws) held (rule_ended table h.tree image (sym (over h.tree h.begun))) (refl, held)

  module _ (ws : List ℕ) (image : ℕ) (spot : Spot) (r : Ready ws image spot) where
    abbrev t : Tree
    t = r.tree

    held : term_of ws ≡ Some t
    held = held_term ws t r.formed r.spelled

    there : spot ≡ spot_of table t image 0 0
    there = r.found.2 t r.formed (sym r.spelled)

    acts : (a : Action) → spot.action ≡ a → (spot_of table t image 0 0).action ≡ a
    acts a h = ap (λ s. s.action) (sym there) ∙ h

    -- the next term fits: the step has moved
    moves : (effect : ℕ) (next : Tree) (is : Option Tree) → rule_of table t image ≡ moved effect next → leb (length (written next)) table.capacity ≡ true → is ≡ Some next → StepGives (meaning_of table) image (term_of ws) (Ok (Moved effect)) is
    moves effect next is rule size h = steps_by ws image t (moved effect next) (Moved effect) is held rule (rw size (refl, h))

    -- it does not fit
    fills : (effect : ℕ) (next : Tree) → rule_of table t image ≡ moved effect next → leb (length (written next)) table.capacity ≡ false → StepGives (meaning_of table) image (term_of ws) (Ok Full) (term_of ws)
    fills effect next rule size = steps_by ws image t (moved effect next) Full (term_of ws) held rule (rw size (refl, held))

    pub waits : spot.action ≡ action.Wait → StepGives (meaning_of table) image (term_of ws) (Ok (Moved 0)) (term_of ws)
    waits h =
        moves 0 t (term_of ws) (rule_waits table sound t image r.formed r.goes (acts action.Wait h)) (le-leb (length (written t)) table.capacity (subst (λ xs. length xs ≤ table.capacity) (sym r.spelled) r.within)) held

    pub sticks : (((i : ℕ) × (spot.action ≡ action.Child i)) ⊎ (spot.action ≡ action.Stuck)) → StepGives (meaning_of table) image (term_of ws) (Ok Stuck) (term_of ws)
    sticks = ⊎_elim (λ p. absurd (no_child table sound t image r.formed r.goes p.0 (acts (action.Child p.0) p.1))) (λ h. steps_by ws image t stuck Stuck (term_of ws) held (rule_sticks table sound t image r.formed r.goes (acts action.Stuck h)) (refl, held))

    -- the node at the spot is replaced: what is asked for writing the next term, what the step gives, and that a term is held then
    pub record Replaces (effect : ℕ) (by : Made) (next_words : List ℕ) : Type 0 where
      pub wordable : Wordable by
      pub fitting : (is : List ℕ) (most : ℕ) → most ≡ table.capacity → true ≡ leb (length next_words) most → is ≡ next_words → StepGives (meaning_of table) image (term_of ws) (Ok (Moved effect)) (term_of is)
      pub full : (is : List ℕ) (most : ℕ) → most ≡ table.capacity → false ≡ leb (length next_words) most → is ≡ ws → StepGives (meaning_of table) image (term_of ws) (Ok Full) (term_of is)
      pub held_after : (fits : Bool) (is : List ℕ) (most : ℕ) → most ≡ table.capacity → fits ≡ leb (length next_words) most → is ≡ cond fits next_words ws → holdable_by table is ≡ true

    module _ (effect : ℕ) (by : Made) (h : spot.action ≡ action.Replace effect by) where
      abbrev p : Replaced table sound t image r.formed r.goes effect by
      p = rule_replaces table sound t image r.formed r.goes effect by (acts (action.Replace effect by) h)

      abbrev next : Tree
      next = p.next

      abbrev next_words : List ℕ
      next_words = rewritten ws spot.outer spot.node by

      words : next_words ≡ written next
      words =
          ap (λ xs. rewritten xs spot.outer spot.node by) (sym r.spelled) ∙ ap (λ s. rewritten (written t) s.outer s.node by) there ∙ p.words

      next_is : (is : List ℕ) → is ≡ next_words → WellFormed next × (written next ≡ is)
      next_is is same = ((next_kept table sound t next image effect r.formed p.rule).0, sym (same ∙ words))

      size : (fits : Bool) (most : ℕ) → most ≡ table.capacity → fits ≡ leb (length next_words) most → leb (length (written next)) table.capacity ≡ fits
      size fits most capacity e = (λ j. leb (length (sym words j)) (sym capacity j)) ∙ sym e

      holds_after : (fits : Bool) (is : List ℕ) (most : ℕ) → most ≡ table.capacity → fits ≡ leb (length next_words) most → is ≡ cond fits next_words ws → holdable_by table is ≡ true
      holds_after true is most capacity e same =
          let few = leb-true (length (written next)) table.capacity (size true most capacity e) in
          let kept = next_kept table sound t next image effect r.formed p.rule in
          let loads = loads_term table next kept.0 few (kept.1 r.had) in
          loaded_holdable table is _ (ap (expansion_of table) (same ∙ words) ∙ loads)
      holds_after false is most capacity e same = ap (holdable_by table) same ∙ r.holds

      pub replaces : Replaces effect by next_words
      replaces = record {
        wordable = p.wordable;
        fitting = λ is most capacity fits same. let n = next_is is same in moves effect next (term_of is) p.rule (size true most capacity fits) (held_term is next n.0 n.1);
        full = λ is most capacity over same. subst (λ xs. StepGives (meaning_of table) image (term_of ws) (Ok Full) (term_of xs)) (sym same) (fills effect next p.rule (size false most capacity over));
        held_after = holds_after;
      }

-- a show: the term held, or its refusals
module _ (table : Table) (sound : Sound table) where
  pub shows_nothing_held : (ws buffer : List ℕ) → ws ≡ [] → 1024 ≤ length buffer → BufferShowGives (meaning_of table) (term_of ws) buffer (Err NothingHeld) buffer
  shows_nothing_held ws buffer e long =
      let enough = le-leb 1024 (length buffer) long in
      let none = no_term ws e in
      rw (enough, BufferShowGives) (subst (λ o. HeldShowGives (meaning_of table) o buffer (Err NothingHeld) buffer) (sym none) (refl, refl))

  -- a core term is shown as it is
  pub shows_term : (ws other buffer : List ℕ) → other ≡ ws → Holds table ws other → 1024 ≤ length buffer → BufferShowGives (meaning_of table) (term_of ws) buffer (Ok (Some (length other))) (other ++ drop (length other) buffer)
  shows_term ws other buffer same held long =
      let shown = held.tree in
      let enough = le-leb 1024 (length buffer) long in
      let size : length other ≡ length (written shown) = ap length (same ∙ sym held.spelled) in
      let few : length (written shown) ≤ 1024 = omega (arith, ap length held.spelled, held.few, sound.holds_few) in
      let loads = loads_term table shown held.formed (subst (λ xs. length xs ≤ table.capacity) (sym held.spelled) held.few) held.had in
      let after : other ++ drop (length other) buffer ≡ written shown ++ drop (length other) buffer = ap (λ xs. xs ++ drop (length other) buffer) (same ∙ sym held.spelled) in
      rw (enough, BufferShowGives) (subst (λ o. HeldShowGives (meaning_of table) o buffer (Ok (Some (length other))) (other ++ drop (length other) buffer)) (sym (held_term ws shown held.formed held.spelled)) (shown, (held.formed, few, (record { term = shown; uses = 0 }, loads, refl)), size, after))
