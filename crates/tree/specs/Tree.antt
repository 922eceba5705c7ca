-- The digest tree of a table of elements (Merkle's tree): for every element type and every digest h.
use Rattle.std.specs.Prelude.{◌≡◌, ℕ, zero, suc, ◌+◌, ◌-◌, ◌*◌, ◌<◌, ◌≤◌, true, cond, ◌⊎◌, List, ◌∷◌, ◌++◌, map, length, Ok, Err, Result, ◌==◌, nat_le, slice_index_or}
use Rattle.std.specs.List.{range_with_len}
use Rattle.element.specs.Bytes.{be}
use Rattle.element.specs.Model.{Model}
use Rattle.element.specs.Order.{Same}
use Rattle.element.specs.declared.refusal.Refusal.{Refusal}
use Rattle.element.specs.declared.refusal.Refusal.TheVariants.{Size}
use Rattle.tree.specs.Ranges.{Inside, Covers}
use Rattle.tree.specs.Sizes.{sized, fit}

-- What is digested of a range with two halves, by their digests.
abbrev pub node_bytes : ℕ → ℕ → List ℕ
node_bytes lower upper = 1 ∷ (be 8 lower ++ be 8 upper)

-- What is digested of a single key, by its element.
abbrev pub leaf_bytes : {R : Type 0} → Model R → R → List ℕ
leaf_bytes m x = 0 ∷ m.written x

module _ {R : Type 0} (m : Model R) (h : List ℕ → ℕ) (es : List R) where
  -- What is digested of range n, where there are at most f levels below it.
  unfoldable pub digested_by : ℕ → ℕ → List ℕ
  digested_by zero n = leaf_bytes m (slice_index_or es (n - length es) m.bottom)
  digested_by (suc f) n =
      cond (nat_le (length es) n)
      (leaf_bytes m (slice_index_or es (n - length es) m.bottom))
      (node_bytes (h (digested_by f (2 * n))) (h (digested_by f (2 * n + 1))))

  -- No table has more than 12 levels.
  unfoldable pub digested : ℕ → List ℕ
  digested n = digested_by 12 n

  -- The digest of range n.
  unfoldable pub digest_of : ℕ → ℕ
  digest_of n = h (digested n)

  -- The digest table: 0 at place 0, and the digest of range n at place n.
  abbrev pub place_of : ℕ → ℕ
  place_of n = cond (n == 0) 0 (digest_of n)

  unfoldable pub tree : List ℕ
  tree = map place_of (range_with_len 0 (2 * length es))

  -- What a build over a digest table answers, and what it leaves there.
  abbrev pub build_answer : List ℕ → Result (Unit {0}) Refusal
  build_answer ds = cond (fit (length es) (length ds)) (Ok tt) (Err Size)

  abbrev pub build_after : List ℕ → List ℕ
  build_after ds = cond (fit (length es) (length ds)) tree ds

  -- That is Merkle's tree.
  pub record Merkle : Type 0 where
    pub leaf : (k : ℕ) → k < length es → digested (length es + k) ≡ leaf_bytes m (slice_index_or es k m.bottom)
    pub node : (n : ℕ) → 1 ≤ n → n < length es → digested n ≡ node_bytes (digest_of (2 * n)) (digest_of (2 * n + 1))

-- Two tables of one size, compared at a range.
module _ {R : Type 0} (m : Model R) (h : List ℕ → ℕ) (es fs : List R) (n : ℕ) where
  -- They hold the same element at each key of the range.
  abbrev pub Agree : Type 0
  Agree = (k : ℕ) → k < length es → Covers (length es) n k → Same m (slice_index_or es k m.bottom) (slice_index_or fs k m.bottom)

  -- At the range or one inside it, two different byte strings have one digest.
  pub record Clash : Type 0 where
    pub range : ℕ
    pub inside : Inside range n
    pub low : 1 ≤ range
    pub high : range < 2 * length es
    pub differ : digested m h es range ≡ digested m h fs range → ⊥
    pub collide : digest_of m h es range ≡ digest_of m h fs range

  -- What a digest tells: tables that agree have the same, and tables with the same agree, or there is a clash.
  pub record Tells : Type 0 where
    pub agree_same : Agree → digest_of m h es n ≡ digest_of m h fs n
    pub same_agree : digest_of m h es n ≡ digest_of m h fs n → Agree ⊎ Clash

-- Both hold of all tables that are used.
abbrev pub Built : {R : Type 0} → Model R → (List ℕ → ℕ) → Type 0
Built {R} m h = (es : List R) → sized (length es) ≡ true → Merkle m h es

abbrev pub Telling : {R : Type 0} → Model R → (List ℕ → ℕ) → Type 0
Telling {R} m h = (es fs : List R) (n : ℕ) → sized (length es) ≡ true → length fs ≡ length es → 1 ≤ n → n < 2 * length es → Tells m h es fs n
