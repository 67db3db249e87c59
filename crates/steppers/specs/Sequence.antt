-- The sequence language: SEQ 32:2, SET 33:1, CLEAR 34:1, AWAIT 35:1, REPEAT 36:2, NOP 38:0.
use Rattle.std.specs.Prelude.{ℕ, ◌+◌, ◌-◌, Bool, false, cond, ◌&&◌, ◌||◌, List, Some, None, Option, ◌==◌, nat_le}
use Rattle.steppers.specs.declared.action.Seen.{Seen}
use Rattle.steppers.specs.declared.action.Seen.TheVariants as seen
use Rattle.steppers.specs.declared.action.Made.TheVariants as made
use Rattle.steppers.specs.declared.action.Action.{Action}
use Rattle.steppers.specs.declared.action.Action.TheVariants.{Child, Replace, Wait, Stuck}
use Rattle.steppers.specs.Looks.{seen_at}
use Rattle.steppers.specs.Table.{Table}
use Rattle.steppers.specs.Logic.{bit}

abbrev pub sequence_has : ℕ → ℕ → Bool
sequence_has l n = (l == 32 && n == 2) || ((l == 33 && n == 1) || ((l == 34 && n == 1) || ((l == 35 && n == 1) || ((l == 36 && n == 2) || (l == 38 && n == 0)))))

-- NOP
abbrev pub is_nop : Seen → Bool
is_nop (seen.Number v) = false
is_nop (seen.Form l) = l == 38

-- the node gives NOP, with this effect
abbrev pub nop_with : ℕ → Action
nop_with effect = Replace effect (made.Leaf 38)

-- a number up to 31 names an input and an output
abbrev pub channel_of : Seen → Option ℕ
channel_of (seen.Number n) = cond (nat_le n 31) (Some n) None
channel_of (seen.Form l) = None

-- SEQ(NOP, b) gives b; any other SEQ(a, b) steps a
abbrev pub goes_on : Seen → Action
goes_on a = cond (is_nop a) (Replace 0 (made.Child 1)) (Child 0)

-- SET(n) gives NOP with effect 100 + n, CLEAR(n) with 200 + n
abbrev pub switches : ℕ → Seen → Action
switches first n = elim (channel_of n) [ None ↦ Stuck | Some c ↦ nop_with (first + c) ]

-- AWAIT(n) gives NOP if bit n is 1, else it waits
abbrev pub awaits : Seen → ℕ → Action
awaits n image = elim (channel_of n) [ None ↦ Stuck | Some c ↦ cond (bit c image == 1) (nop_with 0) Wait ]

-- REPEAT(0, b) gives NOP, REPEAT(k, b) gives SEQ(b, REPEAT(k − 1, b))
abbrev pub repeats : Seen → Action
repeats (seen.Number k) = cond (k == 0) (nop_with 0) (Replace 0 (made.Round 32 36 (k - 1) 1))
repeats (seen.Form l) = Stuck

abbrev pub sequence_does : ℕ → Option Seen → ℕ → Action
sequence_does l None image = Stuck
sequence_does l (Some s) image =
    cond (l == 32) (goes_on s) (cond (l == 33) (switches 100 s) (cond (l == 34) (switches 200 s) (cond (l == 35) (awaits s image) (cond (l == 36) (repeats s) Stuck))))

abbrev pub sequence_acts : ℕ → List Seen → ℕ → Action
sequence_acts l ss image = sequence_does l (seen_at 0 ss) image

-- a whole term NOP has ended
abbrev pub sequence_table : Table
sequence_table = record { capacity = 1024; has = sequence_has; over = is_nop; acts = sequence_acts }
