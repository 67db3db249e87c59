-- Where the terms at the front of a run of words end, by a count of the terms still wanted.
use Rattle.std.specs.Prelude.{ℕ, zero, suc, ◌+◌, Bool, true, false, cond, List, [], ◌∷◌, length, drop, is_ok, Some, None, Ok, Err, Option, Result, ◌==◌, nat_lt}
use Rattle.terms.specs.declared.words.Node.{Node}
use Rattle.terms.specs.declared.words.Node.TheVariants.{Atom, Variable, Body, Head, Form}
use Rattle.terms.specs.declared.front.Broken.{Broken}
use Rattle.terms.specs.Words.{node_of}

-- how many children the node wants, if it may stand: a variable stands only where variables may
abbrev pub wants : Bool → Option Node → Option ℕ
wants variables None = None
wants variables (Some (Atom v)) = Some 0
wants variables (Some (Variable n)) = cond variables (Some 0) None
wants variables (Some (Body k)) = Some 1
wants variables (Some (Head k r d)) = Some (d + 1)
wants variables (Some (Form l n)) = Some n

-- the answer about a run, from the answer about what is behind its first n words
unfoldable pub later : ℕ → Result ℕ Broken → Result ℕ Broken
later n (Ok end) = Ok (n + end)
later n (Err b) = Err (record { place = n + b.place })

-- Where the first terms of the run end, with so many wanted; or the first place that cannot stand, the length if the words end early.
unfoldable pub ending : Bool → ℕ → List ℕ → Result ℕ Broken
ending variables zero ws = Ok 0
ending variables (suc n) [] = Err (record { place = 0 })
ending variables (suc n) (w ∷ ws) = elim (wants variables (node_of w)) [ None ↦ Err (record { place = 0 }) | Some k ↦ later 1 (ending variables (n + k) ws) ]

-- a run that is one tree, with nothing behind it; or the place that cannot stand
unfoldable pub wholly : Bool → List ℕ → Result (Unit {0}) Broken
wholly variables ws = elim (ending variables 1 ws) [ Err b ↦ Err b | Ok end ↦ cond (end == length ws) (Ok tt) (Err (record { place = end })) ]

-- the run is one tree, in which variables may stand
abbrev pub is_tree : List ℕ → Bool
is_tree ws = is_ok (wholly true ws)

-- where a stretch of the run begins and how many words it has
pub record Stretch : Type 0 where
  pub place : ℕ
  pub length : ℕ

abbrev pub stretch_at : ℕ → Result ℕ Broken → Option Stretch
stretch_at place (Ok size) = Some (record { place = place; length = size })
stretch_at place (Err b) = None

-- the child that stands behind the terms before it, by where those end in the words behind the node
abbrev pub child_behind : List ℕ → Result ℕ Broken → Option Stretch
child_behind ws (Ok skipped) = stretch_at (1 + skipped) (ending false 1 (drop skipped ws))
child_behind ws (Err b) = None

-- child i of the node that the run begins with, from 0
abbrev pub child_at : ℕ → List ℕ → Option Stretch
child_at i [] = None
child_at i (w ∷ ws) = elim (wants false (node_of w)) [ None ↦ None | Some n ↦ cond (nat_lt i n) (child_behind ws (ending false i ws)) None ]
