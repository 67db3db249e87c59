-- Numbers in base ten: what digits are worth, up to a limit.
use Rattle.std.specs.Prelude.{ℕ, ◌+◌, ◌-◌, ◌*◌, cond, ◌&&◌, List, [], ◌∷◌, Some, None, Option, nat_le}

-- a value with one more digit behind it (bytes 48 to 57), while it stays at most `most`
abbrev pub with_digit : ℕ → ℕ → ℕ → Option ℕ
with_digit most value b =
    cond (nat_le 48 b && nat_le b 57 && nat_le (value * 10 + (b - 48)) most) (Some (value * 10 + (b - 48))) None

-- digits that go on from a value
unfoldable pub digits_of : ℕ → ℕ → List ℕ → Option ℕ
digits_of most value [] = Some value
digits_of most value (b ∷ bs) = elim (with_digit most value b) [ None ↦ None | Some next ↦ digits_of most next bs ]

-- one digit or more
abbrev pub number_of : ℕ → List ℕ → Option ℕ
number_of most [] = None
number_of most (b ∷ bs) = digits_of most 0 (b ∷ bs)
