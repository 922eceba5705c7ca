-- What follows a range: `follow` goes by its rule.
use Rattle.std.proofs.Common.{◌≡◌, ℕ, zero, suc, ◌+◌, ◌-◌, ◌/◌, ◌%◌, ◌^◌, ◌<◌, ◌≤◌, ◌⊎◌, cond, eqb, leb, Some, None, Option, sym, refl, ap, ◌∙◌, subst, ap₂, ⊎_elim, inl, inr, div-one, arith}
use lib.Pow.{shr_le}
use native.Mathlib.Nat.{zero-div}
use lib.Count.{count_trailing_zeros, trailing_of_zero}
use Rattle.std.specs.Int.{w16, bit_at, trailing_ones}
use Rattle.std.proofs.lemmas.Bool.{cond-false, eq-eqb, ne_eqb, lt-leb, cases_lt}
use Rattle.std.proofs.lemmas.Nat.Bits.{bit_at_lowest, bit_at-suc, bit_at-trailing_ones}
use Rattle.tree.specs.Walk.{rise, follow, Rule}
use Rattle.tree.proofs.Powers.{twice, below_power, halve_first}

-- as soon as there are enough halvings, their number does not matter
enough : (f g n : ℕ) → n < 2 ^ f → n < 2 ^ g → 1 ≤ n → rise f n ≡ rise g n
enough zero g n h k l = absurd (omega arith)
enough (suc f) zero n h k l = absurd (omega arith)
enough (suc f) (suc g) n h k l =
    ⊎_elim
    (λ m. higher (enough f g (n / 2) (omega (arith, twice f)) (omega (arith, twice g)) (omega arith)))
    (λ m. top (omega arith))
    (cases_lt 1 n)
  where
    higher : rise f (n / 2) ≡ rise g (n / 2) → rise (suc f) n ≡ rise (suc g) n
    higher e = ap (λ o. cond (eqb (n % 2) 0) (Some (n + 1)) (cond (leb n 1) None o)) e

    top : 1 ≡ n → rise (suc f) n ≡ rise (suc g) n
    top e = subst (λ t. rise (suc f) t ≡ rise (suc g) t) e refl

-- after an even range comes the next
after_even : (n : ℕ) → n % 2 ≡ 0 → follow n ≡ Some (n + 1)
unfolding follow
after_even n e = ap (λ b. cond b (Some (n + 1)) (cond (leb n 1) None (rise n (n / 2)))) (eq-eqb (n % 2) 0 e)

-- after an odd range comes what follows its half
after_odd : (n : ℕ) → n % 2 ≡ 1 → 1 < n → follow n ≡ follow (n / 2)
unfolding follow
after_odd n e l =
    ap₂ (λ b c. cond b (Some (n + 1)) (cond c None (rise n (n / 2)))) (ne_eqb (n % 2) 0 (λ z. omega arith)) (lt-leb n 1 l)
    ∙ enough n (suc (n / 2)) (n / 2) (omega (arith, below_power n)) (omega (arith, below_power (n / 2), twice (n / 2))) (omega arith)

pub rule : Rule
unfolding follow
rule = record { even = after_even; odd = after_odd; one = refl }

-- what follows a range of which e is left, once it is halved past the binary ones at its end
abbrev rest : ℕ → Option ℕ
rest e = cond (eqb e 0) None (Some (e + 1))

past_ones : (t n : ℕ) → 1 ≤ n → ((i : ℕ) → i < t → bit_at n i ≡ 1) → bit_at n t ≡ 0 → follow n ≡ rest (n / 2 ^ t)
past_ones zero n l ones e = after_even n (omega (arith, bit_at_lowest n)) ∙ sym (ap rest (div-one n) ∙ cond-false _ _ _ (ne_eqb n 0 (λ y. omega arith)))
past_ones (suc t) n l ones e =
    ⊎_elim
    (λ m. higher m (past_ones t (n / 2) (omega arith) (λ i h. sym (bit_at-suc n i) ∙ ones (suc i) (omega arith)) (sym (bit_at-suc n t) ∙ e)))
    (λ m. top (omega arith))
    (cases_lt 1 n)
  where
    odd : n % 2 ≡ 1
    odd = sym (bit_at_lowest n) ∙ ones 0 (omega arith)

    higher : 1 < n → follow (n / 2) ≡ rest (n / 2 / 2 ^ t) → follow n ≡ rest (n / 2 ^ suc t)
    higher m h = after_odd n odd m ∙ h ∙ ap rest (halve_first n t)

    top : 1 ≡ n → follow n ≡ rest (n / 2 ^ suc t)
    top m = ap follow (sym m) ∙ rule.one ∙ ap rest (sym (zero-div (2 ^ t)) ∙ ap (λ k. k / 2 ^ t) (omega arith) ∙ halve_first n t)

-- 65535 is all binary ones, and of 16 bits no other is
follow_last : follow 65535 ≡ None
unfolding follow
follow_last = refl

pub after_all_ones : (n : ℕ) → n < 2 ^ 16 → (trailing_ones w16 n < 16 → ⊥) → follow n ≡ None
after_all_ones n l h = ⊎_elim (λ s. absurd (h (bit_at-trailing_ones w16 n s).0)) (λ s. ap follow (omega arith) ∙ follow_last) (cases_lt (n + 1) (2 ^ 16))

-- what the code has of another: the number t of the ones at its end, and e, which is left of it
module _ (n t e : ℕ) (fits : n < 2 ^ 16) (ones : t ≡ trailing_ones w16 n) (some : t < 16) (left : e ≡ n / 2 ^ t) where
  not_last : n + 1 < 2 ^ 16
  not_last = ⊎_elim (λ s. s) (λ s. let z : 2 ^ 16 - 1 - n ≡ 0 = omega arith in absurd (omega (arith, ap (count_trailing_zeros 16) z ∙ trailing_of_zero 16))) (cases_lt (n + 1) (2 ^ 16))

  after_ones : 1 ≤ n → follow n ≡ rest e
  after_ones low =
      let b = bit_at-trailing_ones w16 n not_last in
      past_ones (trailing_ones w16 n) n low b.2 b.1 ∙ ap rest (sym (left ∙ ap (λ k. n / 2 ^ k) ones))

  pub left_fits : e + 1 < 2 ^ 16
  left_fits = omega (arith, not_last, left, shr_le n t)

  -- nothing is left of it: it ends the round
  pub after_end : 0 < n → e ≡ 0 → follow n ≡ None
  after_end low z = after_ones low ∙ ap rest z

  pub after_left : (e ≡ 0) × (n ≤ 0) ⊎ (e ≡ 0 → ⊥) → follow n ≡ Some (e + 1)
  after_left (inl z) = let h : n ≡ 0 = omega (arith, z.1) in ap follow h ∙ rule.even 0 refl ∙ ap (λ k. Some (k + 1)) (sym z.0)
  after_left (inr z) = after_ones (low z) ∙ cond-false _ _ _ (ne_eqb e 0 z)
    where
      low : (e ≡ 0 → ⊥) → 1 ≤ n
      low z = ⊎_elim (λ s. s) (λ s. absurd (z (left ∙ ap (λ k. k / 2 ^ t) (omega arith) ∙ zero-div (2 ^ t)))) (cases_lt 0 n)
