-- The order in which a round goes through the ranges.
use Rattle.std.specs.Prelude.{◌≡◌, ℕ, zero, suc, ◌+◌, ◌*◌, ◌/◌, ◌%◌, ◌^◌, ◌<◌, ◌≤◌, cond, ◌⊎◌, List, [], ◌∷◌, length, Some, None, Option, ◌==◌, nat_le}
use Rattle.tree.specs.Ranges.{Covers, Level}

-- The range that follows n once n is settled, after at most f halvings.
abbrev pub rise : ℕ → ℕ → Option ℕ
rise zero n = None
rise (suc f) n = cond (n % 2 == 0) (Some (n + 1)) (cond (nat_le n 1) None (rise f (n / 2)))

unfoldable pub follow : ℕ → Option ℕ
follow n = rise (suc n) n

-- That is the rule: after an even range comes the next; an odd one is halved, rounding down; 1 ends the round.
pub record Rule : Type 0 where
  pub even : (n : ℕ) → n % 2 ≡ 0 → follow n ≡ Some (n + 1)
  pub odd : (n : ℕ) → n % 2 ≡ 1 → 1 < n → follow n ≡ follow (n / 2)
  pub one : follow 1 ≡ None

-- The ranges that a walk has passed, the newest first: each was settled, or differed and was split.
pub data Passed : Type 0 where
  settled : ℕ → Passed
  split : ℕ → Passed

-- A walk over 2 to the power d keys starts at range 1. It has passed these ranges and is now at this one, or at its end.
abbrev pub Walk : ℕ → List Passed → Option ℕ → Type 0
Walk d [] at = at ≡ Some 1
Walk d (settled n ∷ ps) at = Walk d ps (Some n) × (at ≡ follow n)
Walk d (split n ∷ ps) at = Walk d ps (Some n) × (n < 2 ^ d) × (at ≡ Some (2 * n))

-- The walk has passed range n.
abbrev pub HasPassed : ℕ → List Passed → Type 0
HasPassed n [] = ⊥
HasPassed n (settled m ∷ ps) = (n ≡ m) ⊎ HasPassed n ps
HasPassed n (split m ∷ ps) = (n ≡ m) ⊎ HasPassed n ps

-- Some range that it settled has key k.
abbrev pub SettledKey : ℕ → ℕ → List Passed → Type 0
SettledKey d k [] = ⊥
SettledKey d k (settled n ∷ ps) = Covers (2 ^ d) n k ⊎ SettledKey d k ps
SettledKey d k (split n ∷ ps) = SettledKey d k ps

-- Key k comes before the range at which the walk is; before its end comes every key.
abbrev pub Before : ℕ → ℕ → Option ℕ → Type 0
Before d k None = Unit {0}
Before d k (Some n) = (j : ℕ) × Level d j n × (2 ^ d + k < n * 2 ^ j)

-- A walk goes strictly forward: it passes no range twice, at most 2N - 1 in all, and what comes before the range at
-- which it is are exactly the keys that it has settled.
pub record Preorder (d : ℕ) : Type 0 where
  pub ranges : (ps : List Passed) (n : ℕ) → Walk d ps (Some n) → (1 ≤ n) × (n < 2 * 2 ^ d)
  pub once : (ps : List Passed) (n : ℕ) → Walk d ps (Some n) → HasPassed n ps → ⊥
  pub few : (ps : List Passed) (at : Option ℕ) → Walk d ps at → length ps < 2 * 2 ^ d
  pub keys : (ps : List Passed) (at : Option ℕ) (k : ℕ) → Walk d ps at → k < 2 ^ d → (SettledKey d k ps → Before d k at) × (Before d k at → SettledKey d k ps)
