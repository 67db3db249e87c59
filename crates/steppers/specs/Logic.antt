-- The logic language: IN 16:1, NOT 17:1, IF 20:3, ADD 21:2.
use Rattle.std.specs.Prelude.{ℕ, ◌+◌, ◌/◌, ◌%◌, ◌^◌, Bool, true, false, cond, ◌&&◌, ◌||◌, List, Some, None, Option, ◌==◌, nat_le}
use Rattle.steppers.specs.declared.action.Seen.{Seen}
use Rattle.steppers.specs.declared.action.Seen.TheVariants as seen
use Rattle.steppers.specs.declared.action.Made.TheVariants as made
use Rattle.steppers.specs.declared.action.Action.{Action}
use Rattle.steppers.specs.declared.action.Action.TheVariants.{Child, Replace, Stuck}
use Rattle.steppers.specs.Looks.{seen_at}
use Rattle.steppers.specs.Table.{Table}

abbrev pub logic_has : ℕ → ℕ → Bool
logic_has l n = (l == 16 && n == 1) || ((l == 17 && n == 1) || ((l == 20 && n == 3) || (l == 21 && n == 2)))

-- bit n of the image is input n
abbrev pub bit : ℕ → ℕ → ℕ
bit n image = image / 2 ^ n % 2

-- the node gives a number
abbrev pub gives : ℕ → Action
gives v = Replace 0 (made.Number v)

-- IN(n) gives bit n; above 31 it is stuck
abbrev pub reads : ℕ → ℕ → Action
reads n image = cond (nat_le n 31) (gives (bit n image)) Stuck

-- NOT gives 1 for 0, else 0
abbrev pub negates : ℕ → Action
negates a = gives (cond (a == 0) 1 0)

-- IF(a, b, c) gives c for 0, else b
abbrev pub chooses : ℕ → Action
chooses a = Replace 0 (made.Child (cond (a == 0) 2 1))

-- ADD(a, b) gives the sum modulo 16,777,216; b is stepped until it is a number
abbrev pub adds : ℕ → Option Seen → Action
adds a None = Stuck
adds a (Some (seen.Form m)) = Child 1
adds a (Some (seen.Number b)) = gives ((a + b) % 16777216)

-- each form needs its first child as a number, and steps it until it is one
abbrev pub logic_does : ℕ → Option Seen → Option Seen → ℕ → Action
logic_does l None second image = Stuck
logic_does l (Some (seen.Form m)) second image = Child 0
logic_does l (Some (seen.Number a)) second image =
    cond (l == 16) (reads a image) (cond (l == 17) (negates a) (cond (l == 20) (chooses a) (cond (l == 21) (adds a second) Stuck)))

abbrev pub logic_acts : ℕ → List Seen → ℕ → Action
logic_acts l ss image = logic_does l (seen_at 0 ss) (seen_at 1 ss) image

-- a whole term that is a number has ended
abbrev pub is_number : Seen → Bool
is_number (seen.Number v) = true
is_number (seen.Form l) = false

abbrev pub logic_table : Table
logic_table = record { capacity = 1024; has = logic_has; over = is_number; acts = logic_acts }
