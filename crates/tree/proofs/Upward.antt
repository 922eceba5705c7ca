-- Induction over the ranges of N keys, from the last up.
use Rattle.std.proofs.Common.{ℕ, zero, suc, ◌+◌, ◌*◌, ◌<◌, ◌≤◌, ⊎_elim, arith}
use Rattle.std.proofs.lemmas.Bool.{cases_lt}

module _ (P : ℕ → Type 0) (N : ℕ)
    (keys : (n : ℕ) → 1 ≤ n → N ≤ n → n < 2 * N → P n)
    (halves : (n : ℕ) → 1 ≤ n → n < N → P (2 * n) → P (2 * n + 1) → P n) where
  within : (f n : ℕ) → 2 * N ≤ n + f → 1 ≤ n → n < 2 * N → P n
  within zero n e low high = absurd (omega arith)
  within (suc f) n e low high =
      ⊎_elim
      (λ (b : n < N). halves n low b (within f (2 * n) (omega arith) (omega arith) (omega arith)) (within f (2 * n + 1) (omega arith) (omega arith) (omega arith)))
      (λ (b : N ≤ n). keys n low b high)
      (cases_lt n N)

  -- what holds of each single key, and of a range where it holds of both halves, holds of every range
  pub upward : (n : ℕ) → 1 ≤ n → n < 2 * N → P n
  upward n low high = within (2 * N) n (omega arith) low high
