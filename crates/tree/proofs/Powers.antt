-- Powers of two, halvings, and where the keys of a range begin.
use Rattle.std.proofs.Common.{◌≡◌, ℕ, zero, suc, ◌+◌, ◌*◌, ◌/◌, ◌^◌, ◌<◌, ◌≤◌, sym, ap, ◌∙◌, mul_assoc, mul_comm, pow-suc, arith, pow_mono}
use native.Mathlib.Nat.{pow-succ', div-div-eq-div-mul}
use Rattle.std.proofs.lemmas.Nat.{pow-add}

-- the next power is twice as large
pub twice : (j : ℕ) → 2 ^ suc j ≡ 2 * 2 ^ j
twice j = pow-succ' 2 j

-- a number is below the power of two that it gives
pub below_power : (n : ℕ) → n < 2 ^ n
below_power zero = omega arith
below_power (suc n) = omega (arith, below_power n, twice n)

-- a smaller exponent gives at most half
pub apart : (i j : ℕ) → i < j → 2 * 2 ^ i ≤ 2 ^ j
apart i j h = rw (← twice i) (pow_mono h)

-- a power, cut in two factors
pub cut : (i j d : ℕ) → i + j ≡ d → 2 ^ d ≡ 2 ^ i * 2 ^ j
cut i j d e = ap (λ t. 2 ^ t) (sym e) ∙ pow-add 2 i j

-- the lower half of a range begins where the range begins
pub begin_half : (n j : ℕ) → n * 2 ^ suc j ≡ 2 * n * 2 ^ j
begin_half n j = ap (λ t. n * t) (twice j) ∙ sym (mul_assoc n 2 (2 ^ j)) ∙ ap (λ t. t * 2 ^ j) (mul_comm n 2)

-- one more halving, as the last and as the first
pub halve_last : (x j : ℕ) → x / 2 ^ suc j ≡ x / 2 ^ j / 2
halve_last x j = ap (λ t. x / t) (pow-suc 2 j) ∙ sym (div-div-eq-div-mul x (2 ^ j) 2)

pub halve_first : (x j : ℕ) → x / 2 / 2 ^ j ≡ x / 2 ^ suc j
halve_first x j = div-div-eq-div-mul x 2 (2 ^ j) ∙ ap (λ t. x / t) (sym (twice j))
