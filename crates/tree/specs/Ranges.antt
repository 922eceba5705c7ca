-- Ranges of the keys 0 to N - 1, numbered from 1 to 2N - 1. Range 1 has all keys. A range n below N has two halves: 2n
-- with its lower keys, and 2n + 1. Range N + k is key k alone.
use Rattle.std.specs.Prelude.{◌≡◌, ℕ, ◌+◌, ◌*◌, ◌/◌, ◌^◌, ◌<◌, ◌≤◌, ◌⊎◌}

-- Range m is n, or lies inside n: it is halved to n.
pub record Inside (m n : ℕ) : Type 0 where
  pub halvings : ℕ
  pub halved : m / 2 ^ halvings ≡ n

-- Range n has key k, of N keys.
pub record Covers (N n k : ℕ) : Type 0 where
  pub range : 1 ≤ n
  pub inside : Inside (N + k) n

-- Range n stands j levels above the single keys, in a table of 2 to the power d: so it has 2 to the power j keys.
pub record Level (d j n : ℕ) : Type 0 where
  -- as many levels below range 1
  pub down : ℕ
  pub levels : down + j ≡ d
  pub low : 2 ^ down ≤ n
  pub high : n < 2 * 2 ^ down

-- The keys of range n, which stands at level j, are those from n * 2 ^ j on, counted from N: this one is among them.
pub record Among (d j n k : ℕ) : Type 0 where
  pub from : n * 2 ^ j ≤ 2 ^ d + k
  pub below : 2 ^ d + k < (n + 1) * 2 ^ j

-- What holds of the ranges of 2 to the power d keys.
pub record Ranges (d : ℕ) : Type 0 where
  -- each range stands at one level
  pub level : (n : ℕ) → 1 ≤ n → n < 2 * 2 ^ d → (j : ℕ) × Level d j n
  pub one_level : (i j n : ℕ) → Level d i n → Level d j n → i ≡ j
  -- which keys it has
  pub keys : (j n k : ℕ) → Level d j n → k < 2 ^ d → (Covers (2 ^ d) n k → Among d j n k) × (Among d j n k → Covers (2 ^ d) n k)
  pub all : (k : ℕ) → k < 2 ^ d → Covers (2 ^ d) 1 k
  pub single : (i k : ℕ) → i < 2 ^ d → k < 2 ^ d → Covers (2 ^ d) (2 ^ d + i) k → i ≡ k
  pub halves : (n k : ℕ) → n < 2 ^ d → Covers (2 ^ d) n k → Covers (2 ^ d) (2 * n) k ⊎ Covers (2 ^ d) (2 * n + 1) k
  -- two ranges have a key in common only where one lies inside the other
  pub nested : (m n k : ℕ) → Covers (2 ^ d) m k → Covers (2 ^ d) n k → Inside m n ⊎ Inside n m
