-- What is held stays a core term, or nothing.
use Rattle.std.proofs.Common.{◌≡◌, ℕ, Bool, true, false, leb, List, [], ◌∷◌, length, Some, None, Ok, Err, Option, Result, sym, refl, subst}
use Rattle.std.proofs.lemmas.Bool.{leb-true}
use Rattle.terms.specs.Trees.{Tree, written}
use Rattle.languages.specs.declared.refusal.Refusal.{Refusal}
use Rattle.languages.specs.declared.answers.Stepped.{Stepped}
use Rattle.languages.specs.Meaning.{Expanded, Move, moved, ended, stuck, Meaning, Core}
use Rattle.languages.specs.Calls.{Steps, StepGives}
use Rattle.languages.specs.Laws.{Laws, HoldsCore}
use Rattle.languages.specs.Promise.{Request, load, step, show, Reply, Moment, held_after, Gives, HoldsCoreTerms}
use Rattle.languages.proofs.Asked.{by_step, by_show, load_held, load_refused}
use Rattle.languages.proofs.Chained.{Chain, chain_front}

module _ (m : Meaning) (laws : Laws m) where
  held_as : (is was : Option Tree) → is ≡ was → HoldsCore m was → HoldsCore m is
  held_as is was e h = subst (HoldsCore m) (sym e) h

  -- a step by the move of its term
  by_move : (t : Tree) (image : ℕ) (s : Stepped) (is : Option Tree) (move : Move) → Core m t → m.rule t image ≡ move → Steps m.capacity t move s is → HoldsCore m is
  by_move t image s is (moved effect next) core rule steps = within (leb (length (written next)) m.capacity) refl
    where
      within : (b : Bool) → leb (length (written next)) m.capacity ≡ b → HoldsCore m is
      within true b =
          let went = rw (b, Steps) at steps in
          held_as is (Some next) went.1 (laws.next_loads t next image effect core rule (leb-true (length (written next)) m.capacity b))
      within false b = let full = rw (b, Steps) at steps in held_as is (Some t) full.1 core
  by_move t image s is ended core rule steps = held_as is (Some t) steps.1 core
  by_move t image s is stuck core rule steps = held_as is (Some t) steps.1 core

  by_held : (was : Option Tree) (image : ℕ) (r : Result Stepped Refusal) (is : Option Tree) → HoldsCore m was → StepGives m image was r is → HoldsCore m is
  by_held None image r is h given = held_as is None given.1 tt
  by_held (Some t) image (Ok s) is h given = by_move t image s is (m.rule t image) h refl given
  by_held (Some t) image (Err refusal) is h given = absurd given

  by_expansion : (was : Option Tree) (words : List ℕ) (r : Reply) (is : Option Tree) (v : Result Expanded Refusal) → m.expansion words ≡ v → HoldsCore m was → Gives m was (load words) r is → HoldsCore m is
  by_expansion was words r is (Ok e) v h given =
      held_as is (Some e.term) (load_held m was words r is given e v).1 (laws.loads_core words e v)
  by_expansion was words r is (Err refusal) v h given = held_as is was (load_refused m was words r is given refusal v).1 h

  one_core : (was : Option Tree) (q : Request) (r : Reply) (is : Option Tree) → HoldsCore m was → Gives m was q r is → HoldsCore m is
  one_core was (load words) r is h given = by_expansion was words r is (m.expansion words) refl h given
  one_core was (step image) r is h given =
      let a = by_step m was image r is given in
      by_held was image a.0 is h a.2
  one_core was (show buffer) r is h given = held_as is was (by_show m was buffer r is given).4 h

  chain_core : (start : Option Tree) (xs : List Moment) → Chain m start xs → HoldsCore m start → HoldsCore m (held_after start xs)
  unfolding held_after
  chain_core start [] chain h = h
  chain_core start (x ∷ xs) chain h = chain_core x.held xs chain.1 (one_core start x.request x.reply x.held h chain.0)

  pub core_held : (start : Option Tree) (run : List Moment) → Chain m start run → HoldsCoreTerms m start run
  core_held start run chain h front rest e = chain_core start front (chain_front m start front rest (rw e at chain)) h
