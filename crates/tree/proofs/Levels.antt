-- The levels of ranges, and the keys that a range has.
use Rattle.std.proofs.Common.{◌≡◌, ℕ, zero, suc, ◌+◌, ◌-◌, ◌*◌, ◌/◌, ◌^◌, ◌<◌, ◌≤◌, ◌⊎◌, sym, ap, ◌∙◌, subst, inl, inr, ⊎_elim, mul_assoc, mul_comm, div-mul-le_self, arith, pow_pos}
use native.Mathlib.Nat.{div-eq_of_lt, div-eq_of_lt-le, lt-mul-div-succ}
use Rattle.std.proofs.lemmas.Nat.{shr-shr, le-div, div_below}
use Rattle.std.proofs.lemmas.Bool.{cases_lt, cases_order}
use Rattle.tree.specs.Ranges.{Inside, Covers, Level, Among, Ranges}
use Rattle.tree.proofs.Covering.{leaf_covers, covers_halves}
use Rattle.tree.proofs.Powers.{twice, apart, cut}

-- each range stands at a level
has_level : (d n : ℕ) → 1 ≤ n → n < 2 * 2 ^ d → (j : ℕ) × Level d j n
has_level zero n l h = (0, record { down = 0; levels = omega arith; low = omega arith; high = h })
has_level (suc d) n l h = ⊎_elim (λ k. above (has_level d n l (omega (arith, twice d)))) lowest (cases_lt n (2 ^ suc d))
  where
    lowest : 2 ^ suc d ≤ n → (j : ℕ) × Level (suc d) j n
    lowest k = (0, record { down = suc d; levels = omega arith; low = k; high = h })

    above : (j : ℕ) × Level d j n → (j : ℕ) × Level (suc d) j n
    above (j, s) = (suc j, record { down = s.down; levels = omega arith; low = s.low; high = s.high })

-- and at no other
pub one_level : (d i j n : ℕ) → Level d i n → Level d j n → i ≡ j
one_level d i j n s t = ⊎_elim (λ e. omega arith) (λ o. absurd (⊎_elim lower higher o)) (cases_order s.down t.down)
  where
    lower : s.down < t.down → ⊥
    lower l = omega (arith, apart s.down t.down l)

    higher : t.down < s.down → ⊥
    higher l = omega (arith, apart t.down s.down l)

-- range 1 stands at the top
abbrev pub top_level : (d : ℕ) → Level d d 1
top_level d = record { down = 0; levels = omega arith; low = omega arith; high = omega arith }

-- key k alone, halved i times, is a range at level i
halved_level : (d i k : ℕ) → k < 2 ^ d → i ≤ d → Level d i ((2 ^ d + k) / 2 ^ i)
halved_level d i k h l =
    let c : 2 ^ d ≡ 2 ^ (d - i) * 2 ^ i = cut (d - i) i d (omega arith) in
    record {
      down = d - i;
      levels = omega arith;
      low = le-div (2 ^ (d - i)) (2 ^ d + k) (2 ^ i) (pow_pos i) (omega arith);
      high = div_below (2 ^ d + k) (2 ^ i) (2 * 2 ^ (d - i)) (pow_pos i) (omega (arith, mul_assoc 2 (2 ^ (d - i)) (2 ^ i)));
    }

-- a range that has key k stands at the level of its halvings
covers_level : (d n k : ℕ) → k < 2 ^ d → (c : Covers (2 ^ d) n k) → Level d c.inside.halvings n
covers_level d n k h c = ⊎_elim (λ l. absurd (omega (arith, none l))) (λ l. subst (Level d i) c.inside.halved (halved_level d i k h l)) (cases_lt d i)
  where
    i : ℕ
    i = c.inside.halvings

    none : d < i → (2 ^ d + k) / 2 ^ i ≡ 0
    none l = div-eq_of_lt (omega (arith, apart d i l))

-- the keys that a range has lie between its begin and its end
pub covers_among : (d j n k : ℕ) → Level d j n → k < 2 ^ d → Covers (2 ^ d) n k → Among d j n k
covers_among d j n k s h c =
    subst (λ t. Among d t n k) (one_level d i j n (covers_level d n k h c) s) (subst (λ t. Among d i t k) c.inside.halved halved)
  where
    i : ℕ
    i = c.inside.halvings

    halved : Among d i ((2 ^ d + k) / 2 ^ i) k
    halved = record { from = div-mul-le_self (2 ^ d + k) (2 ^ i); below = rw mul_comm (lt-mul-div-succ (2 ^ d + k) (pow_pos i)) }

-- and it has all that lie there
pub among_covers : (d j n k : ℕ) → Level d j n → Among d j n k → Covers (2 ^ d) n k
among_covers d j n k s a = record { range = omega (arith, pow_pos s.down); inside = record { halvings = j; halved = div-eq_of_lt-le (2 ^ j) a.from a.below } }

-- range 1 has all keys
has_all : (d k : ℕ) → k < 2 ^ d → Covers (2 ^ d) 1 k
has_all d k h = among_covers d d 1 k (top_level d) (record { from = omega arith; below = omega arith })

-- of two ranges that have a key, the one of fewer halvings lies inside the other
inner : (x i j m n : ℕ) → x / 2 ^ i ≡ m → x / 2 ^ j ≡ n → i ≤ j → Inside m n
inner x i j m n e f l = record { halvings = j - i; halved = ap (λ t. t / 2 ^ (j - i)) (sym e) ∙ shr-shr x i (j - i) ∙ ap (λ t. x / 2 ^ t) (omega arith) ∙ f }

-- so two ranges that have a key in common are nested
are_nested : (N m n k : ℕ) → Covers N m k → Covers N n k → Inside m n ⊎ Inside n m
are_nested N m n k c e =
    ⊎_elim
    (λ l. inl (inner (N + k) i j m n c.inside.halved e.inside.halved (omega arith)))
    (λ l. inr (inner (N + k) j i n m e.inside.halved c.inside.halved l))
    (cases_lt i j)
  where
    i : ℕ
    i = c.inside.halvings

    j : ℕ
    j = e.inside.halvings

pub ranges : (d : ℕ) → Ranges d
ranges d =
    record {
      level = has_level d;
      one_level = one_level d;
      keys = λ j n k s h. (covers_among d j n k s h, among_covers d j n k s);
      all = has_all d;
      single = λ i k h l c. let e = leaf_covers (2 ^ d) (2 ^ d + i) k l (omega arith) c in omega arith;
      halves = covers_halves (2 ^ d);
      nested = are_nested (2 ^ d);
    }
