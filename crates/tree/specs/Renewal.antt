-- The digest table after one key has changed: the digest of its range is renewed, and then of the ranges above it,
-- upward, from what the tables hold.
use Rattle.std.specs.Prelude.{◌≡◌, ℕ, zero, suc, ◌+◌, ◌*◌, ◌/◌, ◌<◌, true, cond, ◌&&◌, List, length, get_or, Ok, Err, Result, ◌==◌, nat_lt, slice_index, slice_index_or, slice_set}
use Rattle.element.specs.Model.{Model}
use Rattle.element.specs.declared.refusal.Refusal.{Refusal}
use Rattle.element.specs.declared.refusal.Refusal.TheVariants.{Size, Key}
use Rattle.tree.specs.Ranges.{Covers}
use Rattle.tree.specs.Sizes.{sized, fit}
use Rattle.tree.specs.Tree.{leaf_bytes, node_bytes, tree}

module _ (h : List ℕ → ℕ) where
  -- The digest of range n by what the table holds of its halves.
  abbrev pub node_in : List ℕ → ℕ → ℕ
  node_in ds n = h (node_bytes (slice_index ds (2 * n)) (slice_index ds (2 * n + 1)))

  -- Ranges n, n / 2, .. down to 1 renewed in turn, at most f of them.
  unfoldable pub climbed : ℕ → ℕ → List ℕ → List ℕ
  climbed zero n ds = ds
  climbed (suc f) n ds = cond (n == 0) ds (climbed f (n / 2) (slice_set ds n (node_in ds n)))

module _ {R : Type 0} (m : Model R) (h : List ℕ → ℕ) (es : List R) (k : ℕ) where
  unfoldable pub renewed : List ℕ → List ℕ
  renewed ds = climbed h 12 ((length es + k) / 2) (slice_set ds (length es + k) (h (leaf_bytes m (slice_index_or es k m.bottom))))

  -- What a renewal answers, and what it leaves in the digest table.
  abbrev pub renew_answer : List ℕ → Result (Unit {0}) Refusal
  renew_answer ds = cond (fit (length es) (length ds)) (cond (nat_lt k (length es)) (Ok tt) (Err Key)) (Err Size)

  abbrev pub renew_after : List ℕ → List ℕ
  renew_after ds = cond (fit (length es) (length ds) && nat_lt k (length es)) (renewed ds) ds

  -- That is the rule: the range of the key has its element's digest, each range above has that of its halves in the
  -- table as it is now, and no other place has changed.
  pub record Renewed (ds ds' : List ℕ) : Type 0 where
    pub long : length ds' ≡ length ds
    pub leaf : get_or ds' (length es + k) 0 ≡ h (leaf_bytes m (slice_index_or es k m.bottom))
    pub above : (n : ℕ) → n < length es → Covers (length es) n k → slice_index ds' n ≡ node_in h ds' n
    pub rest : (n : ℕ) → (Covers (length es) n k → ⊥) → slice_index ds' n ≡ slice_index ds n

-- It holds of all tables that are used, whatever the digest table held before.
abbrev pub Renewing : {R : Type 0} → Model R → (List ℕ → ℕ) → Type 0
Renewing {R} m h = (es : List R) (k : ℕ) (ds : List ℕ) → sized (length es) ≡ true → k < length es → length ds ≡ 2 * length es → Renewed m h es k ds (renewed m h es k ds)

-- A table that was the tree before key k changed is, renewed, the tree after.
abbrev pub Stays : {R : Type 0} → Model R → (List ℕ → ℕ) → Type 0
Stays {R} m h = (es : List R) (k : ℕ) (x : R) → sized (length es) ≡ true → k < length es → renewed m h (slice_set es k x) k (tree m h es) ≡ tree m h (slice_set es k x)
