-- The laws of terms, in the words of the subject.
use Rattle.std.specs.Prelude.{◌≡◌, ℕ, ◌+◌, ◌<◌, ◌≤◌, Bool, true, false, List, ◌++◌, length, take, drop, Some, None, Ok, Err, Option, Result, ◌≢◌}
use Rattle.std.specs.Borrow.{Bor}
use Rattle.terms.specs.declared.front.Broken.{Broken}
use Rattle.terms.specs.Trees.{Tree, Trees, none, more, written, written_all, WellMade, WellMadeAll, WellFormed, read, bare, Unmarked, nth, children_of}
use Rattle.terms.specs.Fronts.{Stretch, child_at}

-- writing and then reading gives the same trees
abbrev pub ReadingUndoesWriting : Type 0
ReadingUndoesWriting = (t : Tree) → WellMade t true → read (written t) ≡ Some (more t none)

-- what is read is well made, and written again it is the same words
abbrev pub WritingUndoesReading : Type 0
WritingUndoesReading = (ws : List ℕ) (ts : Trees) → read ws ≡ Some ts → WellMadeAll ts true × (written_all ts ≡ ws)

-- a run of words is the writing of at most one term
abbrev pub OneTermARun : Type 0
OneTermARun = (t u : Tree) → WellFormed t → WellFormed u → written t ≡ written u → t ≡ u

-- a term with its marks off has none, and is as well formed as before; a term without marks is itself
abbrev pub MarksComeOff : Type 0
MarksComeOff = ((t : Tree) → Unmarked (bare t)) × ((t : Tree) → WellFormed t → WellFormed (bare t)) × ((t : Tree) → Unmarked t → bare t ≡ t)

-- some well-made tree begins with the first n words of the run
abbrev pub Begins : Bool → List ℕ → ℕ → Type 0
Begins variables ws n = (t : Tree) × (rest : List ℕ) × WellMade t variables × (written t ≡ take n ws ++ rest)

-- the first n words are the longest front of the run with which some well-made tree begins
pub record LongestFront (variables : Bool) (ws : List ℕ) (n : ℕ) : Type 0 where
  pub within : n ≤ length ws
  pub begins : Begins variables ws n
  pub longest : (m : ℕ) → n < m → m ≤ length ws → Begins variables ws m → ⊥

-- the run begins with one well-made tree, of so many words; or it is refused behind its longest front
abbrev pub Ends : Bool → List ℕ → Result ℕ Broken → Type 0
Ends variables ws (Ok end) = (t : Tree) × WellMade t variables × (end ≤ length ws) × (written t ≡ take end ws)
Ends variables ws (Err b) = LongestFront variables ws b.place × ((t : Tree) (n : ℕ) → WellMade t variables → written t ≢ take n ws)

-- the run is the writing of one well-made tree; or it is the writing of none, and is refused behind its longest front
abbrev pub Whole : Bool → List ℕ → Result (Unit {0}) Broken → Type 0
Whole variables ws (Ok x) = (t : Tree) × WellMade t variables × (written t ≡ ws)
Whole variables ws (Err b) = LongestFront variables ws b.place × ((t : Tree) → WellMade t variables → written t ≢ ws)

-- the run is the writing of one tree, in which variables may stand; or of none
abbrev pub OneTree : List ℕ → Bool → Type 0
OneTree ws true = (t : Tree) × WellMade t true × (written t ≡ ws)
OneTree ws false = (t : Tree) → WellMade t true → written t ≢ ws

-- the stretch is what child i of the term is written as
abbrev pub IsChild : List ℕ → Option Tree → Option Stretch → Type 0
IsChild ws None None = Unit {0}
IsChild ws None (Some s) = ⊥
IsChild ws (Some t) None = ⊥
IsChild ws (Some t) (Some s) = take s.length (drop s.place ws) ≡ written t

-- the argument that is answered is a stretch of the run, at its place and of its length
abbrev pub Answered : List ℕ → Option Stretch → Option (Bor (List ℕ)) → Type 0
Answered ws None r = r ≡ None
Answered ws (Some s) None = ⊥
Answered ws (Some s) (Some r) = (r.now ≡ take s.length (drop s.place ws)) × (length r.now ≡ s.length) × (s.place + s.length ≤ length ws)

-- whatever stands behind the term, each child of it is found, and no other
abbrev pub ChildrenAreFound : Type 0
ChildrenAreFound = (t : Tree) (rest : List ℕ) (i : ℕ) → WellFormed t → IsChild (written t ++ rest) (nth i (children_of t)) (child_at i (written t ++ rest))
