-- What is shown of each number below a numeral, one by one.
use Rattle.std.proofs.Common.{ℕ, zero, suc, ◌<◌, arith}

abbrev pub Each : (ℕ → Type 0) → ℕ → Type 0
Each P zero = Unit {0}
Each P (suc n) = P 0 × Each (λ t. P (suc t)) n

pub each : (P : ℕ → Type 0) (n : ℕ) → Each P n → (t : ℕ) → t < n → P t
each P zero ps t h = absurd (omega arith)
each P (suc n) ps zero h = ps.0
each P (suc n) ps (suc t) h = each (λ t. P (suc t)) n ps.1 t (omega arith)
