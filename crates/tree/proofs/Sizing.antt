-- Sizes: a power of two below a bound, and what the test of one tells.
use Rattle.std.proofs.Common.{◌≡◌, ℕ, zero, suc, ◌*◌, ◌/◌, ◌%◌, ◌^◌, ◌<◌, ◌≤◌, ◌&&◌, true, eqb, leb, Decides, refl, ap, ◌∙◌, ⊎_elim, arith, pow_pos, pow_mono}
use lib.Count.{ones, ones_step, ones_cat}
use Rattle.std.specs.Int.{is_power_of_two}
use Rattle.std.specs.Int.RustNames.{count_ones}
use Rattle.std.proofs.lemmas.Nat.{ones_le_self, zero_from_ones}
use Rattle.std.proofs.lemmas.Bool.{cases_eq, cases_lt, and_parts, and_from, eqb-true, leb-true, eq-eqb, le-leb}
use Rattle.std.proofs.lemmas.Bool.Decides.{same_from_decides, Decides-eqb, Decides-below_or}
use Rattle.tree.proofs.Powers.{twice}
use Rattle.tree.specs.Sizes.{power_below, sized, fit, Size}

power_decides : (n d : ℕ) → Decides (power_below d n) ((e : ℕ) × (e < d) × (n ≡ 2 ^ e))
power_decides n d = Decides-below_or (λ e. eqb n (2 ^ e)) (λ e. n ≡ 2 ^ e) (λ e. power_below e n) (λ e. Decides-eqb n (2 ^ e)) refl (λ _. refl) d

pub size_of : (n : ℕ) → sized n ≡ true → Size n
unfolding sized
size_of n h = let r = (power_decides n 13).0 h in record { depth = r.0; shallow = omega (arith, r.1); power = r.2 }

pub sized_decides : (n : ℕ) → Decides (sized n) (Size n)
unfolding sized
sized_decides n = (size_of n, λ s. let l = s.shallow in (power_decides n 13).1 (s.depth, omega arith, s.power))

-- a number is a power of two just if one of its binary digits is set
one_digit : (k : ℕ) → count_ones (2 ^ k) ≡ 1
unfolding ones
one_digit k = ap ones (omega arith) ∙ ones_cat k 1 0 (pow_pos k)

power_from_digit : (f n : ℕ) → n ≤ f → count_ones n ≡ 1 → (k : ℕ) × (n ≡ 2 ^ k)
power_from_digit zero n l h = absurd (omega (arith, ones_le_self n))
power_from_digit (suc f) n l h =
    ⊎_elim
    (λ (e : n % 2 ≡ 0). let r = power_from_digit f (n / 2) (omega arith) (omega (arith, ones_step n)) in (suc r.0, omega (arith, r.1, twice r.0)))
    (λ (e : n % 2 ≡ 0 → ⊥). let z : n / 2 ≡ 0 = zero_from_ones (n / 2) (omega (arith, ones_step n)) in (0, omega arith))
    (cases_eq (n % 2) 0)

-- so the test of the code tells the sizes
test_decides : (n : ℕ) → Decides (is_power_of_two n && leb n 4096) (Size n)
test_decides n = (found, is)
  where
    found : (is_power_of_two n && leb n 4096) ≡ true → Size n
    found h =
        let p = and_parts (is_power_of_two n) (leb n 4096) h in
        let r = power_from_digit n n (omega arith) (eqb-true (count_ones n) 1 p.0) in
        let small : n ≤ 4096 = leb-true n 4096 p.1 in
        record { depth = r.0; shallow = ⊎_elim (λ (a : 12 < r.0). absurd (omega (arith, r.1, pow_mono {i = 13} {j = r.0} a))) (λ (a : r.0 ≤ 12). a) (cases_lt 12 r.0); power = r.1 }

    is : Size n → (is_power_of_two n && leb n 4096) ≡ true
    is s = and_from _ _ (eq-eqb (count_ones n) 1 (ap count_ones s.power ∙ one_digit s.depth)) (le-leb n 4096 (omega (arith, s.power, pow_mono {i = s.depth} {j = 12} s.shallow)))

pub test_sized : (n : ℕ) → (is_power_of_two n && leb n 4096) ≡ sized n
test_sized n = same_from_decides _ _ (test_decides n) (sized_decides n)

pub sized_low : (n : ℕ) → sized n ≡ true → 1 ≤ n
sized_low n h = let s = size_of n h in omega (arith, s.power, pow_pos s.depth)

pub sized_high : (n : ℕ) → sized n ≡ true → n ≤ 4096
sized_high n h = let s = size_of n h in omega (arith, s.power, pow_mono {i = s.depth} {j = 12} s.shallow)

pub fit_parts : (n d : ℕ) → fit n d ≡ true → (sized n ≡ true) × (d ≡ 2 * n)
fit_parts n d h = let p = and_parts (sized n) (eqb d (2 * n)) h in (p.0, eqb-true d (2 * n) p.1)

-- tables that fit, in numbers
pub fitting : (n d : ℕ) → fit n d ≡ true → (1 ≤ n) × (n ≤ 4096) × (d ≡ 2 * n)
fitting n d h = let p = fit_parts n d h in (sized_low n p.0, sized_high n p.0, p.1)
