-- Which keys a range has: those of its two halves.
use Rattle.std.proofs.Common.{◌≡◌, ℕ, zero, suc, ◌+◌, ◌*◌, ◌/◌, ◌^◌, ◌<◌, ◌≤◌, ◌⊎◌, sym, ap, ◌∙◌, inl, inr, ⊎_elim, div-one, arith}
use lib.Pow.{shr_le}
use Rattle.std.proofs.lemmas.Bool.{cases_eq, cases_lt}
use Rattle.tree.specs.Ranges.{Inside, Covers}
use Rattle.tree.proofs.Powers.{halve_last, halve_first}

pub inside_self : (n : ℕ) → Inside n n
inside_self n = record { halvings = 0; halved = div-one n }

-- what lies inside a half lies inside the whole
pub inside_half : (m n p : ℕ) → p / 2 ≡ n → Inside m p → Inside m n
inside_half m n p e i = record { halvings = suc i.halvings; halved = halve_last m i.halvings ∙ ap (λ (t : ℕ). t / 2) i.halved ∙ e }

-- what the first halving of m lies inside, m does
pub inside_first : (m n : ℕ) → Inside (m / 2) n → Inside m n
inside_first m n i = record { halvings = suc i.halvings; halved = sym (halve_first m i.halvings) ∙ i.halved }

pub covers_half : (N n p k : ℕ) → 1 ≤ n → p / 2 ≡ n → Covers N p k → Covers N n k
covers_half N n p k l e c = record { range = l; inside = inside_half (N + k) n p e c.inside }

-- key k is in the range of that key alone, and in no other of single keys
pub covers_leaf : (N n k : ℕ) → 1 ≤ n → N + k ≡ n → Covers N n k
covers_leaf N n k l e = record { range = l; inside = record { halvings = 0; halved = div-one (N + k) ∙ e } }

pub leaf_covers : (N n k : ℕ) → k < N → N ≤ n → Covers N n k → N + k ≡ n
leaf_covers N n k h l c = go c.inside.halvings c.inside.halved
  where
    go : (i : ℕ) → (N + k) / 2 ^ i ≡ n → N + k ≡ n
    go zero e = sym (div-one (N + k)) ∙ e
    go (suc i) e = absurd (let s = shr_le (N + k) i in let t = halve_last (N + k) i in omega arith)

-- a range with halves has the keys of both
pub covers_halves : (N n k : ℕ) → n < N → Covers N n k → Covers N (2 * n) k ⊎ Covers N (2 * n + 1) k
covers_halves N n k h c = go c.inside.halvings c.inside.halved
  where
    go : (i : ℕ) → (N + k) / 2 ^ i ≡ n → Covers N (2 * n) k ⊎ Covers N (2 * n + 1) k
    go zero e = absurd (let d = div-one (N + k) in omega arith)
    go (suc i) e =
        let p : ℕ = (N + k) / 2 ^ i in
        let l = c.range in
        let q : p / 2 ≡ n = sym (halve_last (N + k) i) ∙ e in
        ⊎_elim
        (λ (z : p ≡ 2 * n). inl (record { range = omega arith; inside = record { halvings = i; halved = z } }))
        (λ (z : p ≡ 2 * n → ⊥). inr (record { range = omega arith; inside = record { halvings = i; halved = omega arith } }))
        (cases_eq p (2 * n))

-- whether it has a key can be told: from the single keys up
pub covers_tell : (N k f n : ℕ) → k < N → 2 * N ≤ n + f → 1 ≤ n → Covers N n k ⊎ (Covers N n k → ⊥)
covers_tell N k zero n h e low = inr (λ c. let q = leaf_covers N n k h (omega arith) c in omega arith)
covers_tell N k (suc f) n h e low =
    ⊎_elim
    (λ (b : n < N). halves b (covers_tell N k f (2 * n) h (omega arith) (omega arith)) (covers_tell N k f (2 * n + 1) h (omega arith) (omega arith)))
    (λ (b : N ≤ n). ⊎_elim
    (λ (q : N + k ≡ n). inl (covers_leaf N n k low q))
    (λ (q : N + k ≡ n → ⊥). inr (λ c. q (leaf_covers N n k h b c)))
    (cases_eq (N + k) n))
    (cases_lt n N)
  where
    halves : n < N → Covers N (2 * n) k ⊎ (Covers N (2 * n) k → ⊥) → Covers N (2 * n + 1) k ⊎ (Covers N (2 * n + 1) k → ⊥) → Covers N n k ⊎ (Covers N n k → ⊥)
    halves b (inl x) y = inl (covers_half N n (2 * n) k low (omega arith) x)
    halves b (inr x) (inl y) = inl (covers_half N n (2 * n + 1) k low (omega arith) y)
    halves b (inr x) (inr y) = inr (λ c. ⊎_elim x y (covers_halves N n k b c))
