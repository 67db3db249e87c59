-- A walk over words: a word is passed over together with the terms behind it that go with it, and the walk stops at the first word that is not passed.
use Rattle.std.specs.Prelude.{◌≡◌, ℕ, ◌+◌, ◌<◌, ◌≤◌, false, List, length, drop, Some, None, Ok, Err, Option, slice_index}
use Rattle.terms.specs.declared.front.Broken.{Broken}
use Rattle.terms.specs.Fronts.{ending}

module _ (Passes : ℕ → Option ℕ → Type 0) (words : List ℕ) where
  -- The walk comes to the words from n on. Of a word w, `Passes w (Some d)` says that it goes with d terms behind it, and `Passes w None` that it is not passed.
  pub data Reaches : ℕ → Type 0 where
    begins : Reaches 0
    goes_on : (n d size : ℕ) → Reaches n → n < length words → Passes (slice_index words n) (Some d) → ending false d (drop (n + 1) words) ≡ Ok size → Reaches (n + (1 + size))

  -- The walk ends with the words, or where they end before the terms that go with a word.
  pub data RunsOut : Type 0 where
    over : (n : ℕ) → Reaches n → length words ≤ n → RunsOut
    broken : (n d : ℕ) (r : Broken) → Reaches n → n < length words → Passes (slice_index words n) (Some d) → ending false d (drop (n + 1) words) ≡ Err r → RunsOut

  -- where the walk stops, if it does not run out
  abbrev pub StopsAt : Option ℕ → Type 0
  StopsAt None = RunsOut
  StopsAt (Some n) = Reaches n × (n < length words) × Passes (slice_index words n) None
