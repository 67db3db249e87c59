-- The two cases of a result, told apart.
use Rattle.std.proofs.Common.{◌≡◌, ℕ, Ok, Err, Result, arith}

pub err_not_ok : {X E : Type 0} {e : E} {x : X} → ◌≡◌ {A = Result X E} (Err e) (Ok x) → ⊥
err_not_ok p = let z : ◌≡◌ {A = ℕ} 0 1 = cc in omega arith

pub same_ok : {X E : Type 0} {x y : X} → ◌≡◌ {A = Result X E} (Ok x) (Ok y) → x ≡ y
same_ok p = cc
