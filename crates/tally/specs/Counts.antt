-- What a count of cases says.
use Rattle.std.specs.Prelude.{◌≡◌, ℕ, ◌+◌, ◌-◌, ◌^◌, Bool, true, false, List, ◌++◌, codes, decimal, min}
use Rattle.tally.specs.declared.Tally.{Tally}

-- one more, as far as 32 bits go
abbrev one_more : ℕ → ℕ
one_more n = min (n + 1) (2 ^ 32 - 1)

-- a case that came out as worked out adds to the cases, and any other to those that differ too
abbrev pub Counted : Bool → Tally → Tally → Type 0
Counted true was is = (is.cases ≡ one_more was.cases) × (is.differ ≡ was.differ)
Counted false was is = (is.cases ≡ one_more was.cases) × (is.differ ≡ one_more was.differ)

abbrev pub tally_text : Tally → List ℕ
tally_text t = decimal t.cases ++ (codes " cases, " ++ (decimal t.differ ++ codes " differ"))
