-- What each call of a language answers, and what it holds afterwards, by its meaning.
use Rattle.std.specs.Prelude.{◌≡◌, ℕ, ◌≤◌, cond, List, ◌++◌, length, drop, Some, None, Ok, Err, Option, Result, nat_le}
use Rattle.terms.specs.Trees.{Tree, written, WellFormed}
use Rattle.languages.specs.declared.refusal.Refusal.{Refusal}
use Rattle.languages.specs.declared.refusal.Refusal.TheVariants.{NothingHeld, ShortBuffer}
use Rattle.languages.specs.declared.answers.Loaded.{Loaded}
use Rattle.languages.specs.declared.answers.Stepped.{Stepped}
use Rattle.languages.specs.declared.answers.Stepped.TheVariants.{Moved, Ended, Stuck, Full}
use Rattle.languages.specs.Meaning.{Expanded, Move, moved, ended, stuck, Meaning}

-- A load holds the expansion and answers its word count and rule uses, or is refused as the expansion is, and all stays.
abbrev pub Loads : Meaning → List ℕ → Option Tree → Result Loaded Refusal → Option Tree → Type 0
Loads m words was r is =
    elim (m.expansion words) [ Ok e ↦ (r ≡ Ok (record { words = length (written e.term); uses = e.uses })) × (is ≡ Some e.term) | Err refusal ↦ (r ≡ Err refusal) × (is ≡ was) ]

-- A step of the term t follows the step rule. A next term past the capacity is full; full, ended and stuck keep the term.
abbrev pub Steps : ℕ → Tree → Move → Stepped → Option Tree → Type 0
Steps capacity t (moved effect next) r is =
    cond (nat_le (length (written next)) capacity) ((r ≡ Moved effect) × (is ≡ Some next)) ((r ≡ Full) × (is ≡ Some t))
Steps capacity t ended r is = (r ≡ Ended) × (is ≡ Some t)
Steps capacity t stuck r is = (r ≡ Stuck) × (is ≡ Some t)

-- With nothing held a step is refused.
abbrev pub StepGives : Meaning → ℕ → Option Tree → Result Stepped Refusal → Option Tree → Type 0
StepGives m image None r is = (r ≡ Err NothingHeld) × (is ≡ None)
StepGives m image (Some t) (Ok s) is = Steps m.capacity t (m.rule t image) s is
StepGives m image (Some t) (Err refusal) is = ⊥

-- the term u expands to the core term t, marks compared too
abbrev pub Expands : Meaning → Tree → Tree → Type 0
Expands m u t = (e : Expanded) × (m.expansion (written u) ≡ Ok e) × (e.term ≡ t)

-- u is a term that can be shown for t: of at most 1,024 words, and it expands to t
abbrev pub Shows : Meaning → Tree → Tree → Type 0
Shows m t u = WellFormed u × (length (written u) ≤ 1024) × Expands m u t

-- A show with t held: the term that expands to t stands in the buffer's first words and all behind it stays; or no term does and the whole buffer stays.
abbrev pub ShowGives : Meaning → Tree → List ℕ → Option ℕ → List ℕ → Type 0
ShowGives m t buffer (Some n) after =
    (u : Tree) × Shows m t u × (n ≡ length (written u)) × (after ≡ written u ++ drop n buffer)
ShowGives m t buffer None after = ((u : Tree) → Shows m t u → ⊥) × (after ≡ buffer)

-- With a term held and a buffer of at least 1,024 words.
abbrev pub HeldShowGives : Meaning → Option Tree → List ℕ → Result (Option ℕ) Refusal → List ℕ → Type 0
HeldShowGives m None buffer r after = (r ≡ Err NothingHeld) × (after ≡ buffer)
HeldShowGives m (Some t) buffer (Ok o) after = ShowGives m t buffer o after
HeldShowGives m (Some t) buffer (Err refusal) after = ⊥

-- A buffer of under 1,024 words is refused first, then a show with nothing held; both leave the buffer.
abbrev pub BufferShowGives : Meaning → Option Tree → List ℕ → Result (Option ℕ) Refusal → List ℕ → Type 0
BufferShowGives m held buffer r after =
    cond (nat_le 1024 (length buffer)) (HeldShowGives m held buffer r after) ((r ≡ Err (ShortBuffer m.height (length buffer))) × (after ≡ buffer))
