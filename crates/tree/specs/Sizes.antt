-- Which tables are used: N elements, where N is a power of two from 1 to 4,096, and 2N digests.
use Rattle.std.specs.Prelude.{◌≡◌, ℕ, zero, suc, ◌*◌, ◌^◌, ◌≤◌, Bool, false, ◌&&◌, ◌||◌, ◌==◌}

-- n is one of 1, 2, 4, .. with an exponent below d.
abbrev pub power_below : ℕ → ℕ → Bool
power_below zero n = false
power_below (suc d) n = n == 2 ^ d || power_below d n

unfoldable pub sized : ℕ → Bool
sized n = power_below 13 n

-- The numbers of elements and of digests are those of one table.
abbrev pub fit : ℕ → ℕ → Bool
fit elements digests = sized elements && digests == 2 * elements

-- What a size says: it is 2 to the power of a depth from 0 to 12.
pub record Size (n : ℕ) : Type 0 where
  pub depth : ℕ
  pub shallow : depth ≤ 12
  pub power : n ≡ 2 ^ depth
