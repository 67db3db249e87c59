-- The labels that a layer owns.
use Rattle.std.specs.Prelude.{ℕ, ◌+◌, ◌*◌, Bool, ◌&&◌, nat_le}

abbrev pub within : ℕ → ℕ → ℕ → Bool
within low high n = nat_le low n && nat_le n high

-- the labels that layer k owns
abbrev pub owned : ℕ → ℕ → Bool
owned k label = within (32 + 32 * k) (63 + 32 * k) label
