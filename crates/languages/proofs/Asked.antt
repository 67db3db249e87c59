-- What each kind of call gives: its own kind of answer, and for a load what its expansion says.
use Rattle.std.proofs.Common.{◌≡◌, ℕ, List, length, Some, Ok, Err, Option, Result, refl, ap, ◌∙◌, arith}
use Rattle.terms.specs.Trees.{Tree, written}
use Rattle.languages.specs.declared.refusal.Refusal.{Refusal}
use Rattle.languages.specs.declared.answers.Loaded.{Loaded}
use Rattle.languages.specs.declared.answers.Stepped.{Stepped}
use Rattle.languages.specs.Meaning.{Expanded, Meaning}
use Rattle.languages.specs.Calls.{Loads, StepGives, BufferShowGives}
use Rattle.languages.specs.Promise.{Reply, load, step, show, loaded, stepped, shown, Gives}

-- anything, from two different variants that are equal: `cc` makes 0 ≡ 1 of those
pub apart : {X : Type 0} → ◌≡◌ {A = ℕ} 0 1 → X
apart z = absurd (let y : ⊥ = omega arith in y)

-- what an accepted load answers
abbrev pub answer_of : Expanded → Loaded
answer_of e = record { words = length (written e.term); uses = e.uses }

module _ (m : Meaning) (was : Option Tree) where
  -- the answer to a load, to a step and to a show
  pub by_load : (words : List ℕ) (r : Reply) (is : Option Tree) → Gives m was (load words) r is → (a : Result Loaded Refusal) × (r ≡ loaded a) × Loads m words was a is
  by_load words (loaded a) is given = (a, refl, given)
  by_load words (stepped a) is given = absurd given
  by_load words (shown a after) is given = absurd given

  pub by_step : (image : ℕ) (r : Reply) (is : Option Tree) → Gives m was (step image) r is → (a : Result Stepped Refusal) × (r ≡ stepped a) × StepGives m image was a is
  by_step image (loaded a) is given = absurd given
  by_step image (stepped a) is given = (a, refl, given)
  by_step image (shown a after) is given = absurd given

  pub by_show : (buffer : List ℕ) (r : Reply) (is : Option Tree) → Gives m was (show buffer) r is → (a : Result (Option ℕ) Refusal) × (after : List ℕ) × (r ≡ shown a after) × BufferShowGives m was buffer a after × (is ≡ was)
  by_show buffer (loaded a) is given = absurd given
  by_show buffer (stepped a) is given = absurd given
  by_show buffer (shown a after) is given = (a, after, refl, given.0, given.2)

  -- a load of words that expand holds the expansion, and one of words that do not keeps what was held
  module _ (words : List ℕ) (r : Reply) (is : Option Tree) (given : Gives m was (load words) r is) where
    pub load_held : (e : Expanded) → m.expansion words ≡ Ok e → (r ≡ loaded (Ok (answer_of e))) × (is ≡ Some e.term)
    load_held e expands =
        let a = by_load words r is given in
        let h : (a.0 ≡ Ok (answer_of e)) × (is ≡ Some e.term) = rw (expands, Loads) at a.2 in
        (a.1 ∙ ap loaded h.0, h.1)

    pub load_refused : (refusal : Refusal) → m.expansion words ≡ Err refusal → (r ≡ loaded (Err refusal)) × (is ≡ was)
    load_refused refusal expands =
        let a = by_load words r is given in
        let h : (a.0 ≡ Err refusal) × (is ≡ was) = rw (expands, Loads) at a.2 in
        (a.1 ∙ ap loaded h.0, h.1)
