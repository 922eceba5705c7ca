-- What the walk of a running round tells of its range and its count.
use Rattle.std.proofs.Common.{◌≡◌, ℕ, ◌+◌, ◌*◌, ◌<◌, ◌≤◌, true, [], ◌∷◌, Some, refl, subst, arith}
use mathlib.Core.Logic.{∥∥₁_elim}
use native.Mathlib.Bridge.{le_prop}
use Rattle.tree.specs.Sizes.{sized}
use Rattle.tree.specs.Walk.{follow, settled, split}
use Rattle.tree.proofs.Forward.{preorder}
use Rattle.tree.proofs.Sizing.{size_of}
use Rattle.replica.specs.Walking.{Walked}

-- a round starts at range 1 with nothing counted
pub start : (N : ℕ) → sized N ≡ true → Walked N 1 0
start N h = let s = size_of N h in record { depth = s.depth; power = s.power; passed = []; walk = refl; counted = refl }

pub walk_starts : (N : ℕ) → sized N ≡ true → ∥ Walked N 1 0 ∥₁
walk_starts N h = ∣ start N h ∣₁

module _ {N range count : ℕ} where
  -- the range is split
  splits : range < N → Walked N range count → Walked N (2 * range) (count + 1)
  splits h w =
      record {
        depth = w.depth;
        power = w.power;
        passed = split range ∷ w.passed;
        walk = (w.walk, subst (λ (n : ℕ). range < n) w.power h, refl);
        counted = let c = w.counted in omega arith;
      }

  -- the range is settled, and another follows
  settles : (n : ℕ) → Some n ≡ follow range → Walked N range count → Walked N n (count + 1)
  settles n e w =
      record {
        depth = w.depth;
        power = w.power;
        passed = settled range ∷ w.passed;
        walk = (w.walk, e);
        counted = let c = w.counted in omega arith;
      }

  low : Walked N range count → 1 ≤ range
  low w = ((preorder w.depth).ranges w.passed range w.walk).0

  high : Walked N range count → range < 2 * N
  high w = let h = ((preorder w.depth).ranges w.passed range w.walk).1 in let p = w.power in omega arith

  -- one more answer can be counted
  few : Walked N range count → count + 1 < 2 * N + 1
  few w = let h = (preorder w.depth).few w.passed (Some range) w.walk in let p = w.power in let c = w.counted in omega arith

  -- the same of what a record keeps
  module _ (w : ∥ Walked N range count ∥₁) where
    pub range_low : 1 ≤ range
    range_low = ∥∥₁_elim w le_prop low

    pub range_high : range < 2 * N
    range_high = ∥∥₁_elim w le_prop high

    pub count_high : count + 1 < 2 * N + 1
    count_high = ∥∥₁_elim w le_prop few

    pub walk_splits : range < N → ∥ Walked N (2 * range) (count + 1) ∥₁
    walk_splits h = ∥∥₁_elim w squash₁ (λ p. ∣ splits h p ∣₁)

    pub walk_settles : (n : ℕ) → Some n ≡ follow range → ∥ Walked N n (count + 1) ∥₁
    walk_settles n e = ∥∥₁_elim w squash₁ (λ p. ∣ settles n e p ∣₁)
