-- The digest of a range is Merkle's, and a table with Merkle's digests at all places is the tree.
use Rattle.std.proofs.Common.{◌≡◌, ℕ, zero, suc, ◌+◌, ◌-◌, ◌*◌, ◌^◌, ◌<◌, ◌≤◌, true, List, length, get_or, set, sym, refl, ap, ◌∙◌, ap₂, ⊎_elim, mul-le-mul_right, mul-one, arith, length-set}
use Rattle.std.proofs.lemmas.List.{get_or-set_same, get_or-set_other}
use Rattle.std.proofs.lemmas.List.FromFn.{fill_by_all, length-map-range_with_len, get_or-map-range_with_len}
use Rattle.std.proofs.lemmas.Bool.{cond-true, cond-false, cases_lt, cases_eq, le-leb, lt-leb, ne_eqb}
use Rattle.element.specs.Model.{Model}
use Rattle.tree.specs.Renewal.{node_in}
use Rattle.tree.specs.Sizes.{fit}
use Rattle.tree.specs.Tree.{leaf_bytes, node_bytes, digested_by, digested, digest_of, place_of, tree, build_after, Merkle, Built}
use Rattle.tree.proofs.Powers.{begin_half}
use Rattle.tree.proofs.Sizing.{sized_high, fitting}
use Rattle.tree.proofs.Upward.{upward}

module _ {R : Type 0} (m : Model R) (h : List ℕ → ℕ) (es : List R) where
  leaf_at : (f n : ℕ) → length es ≤ n → digested_by m h es f n ≡ leaf_bytes m (get_or es (n - length es) m.bottom)
  unfolding digested_by
  leaf_at zero n l = refl
  leaf_at (suc f) n l = cond-true _ _ _ (le-leb (length es) n l)

  node_at : (f n : ℕ) → n < length es → digested_by m h es (suc f) n ≡ node_bytes (h (digested_by m h es f (2 * n))) (h (digested_by m h es f (2 * n + 1)))
  unfolding digested_by
  node_at f n l = cond-false _ _ _ (lt-leb (length es) n l)

  -- levels past the single keys change nothing
  level_more : (f n : ℕ) → length es ≤ n * 2 ^ f → digested_by m h es (suc f) n ≡ digested_by m h es f n
  level_more zero n l = let e : length es ≤ n = omega (arith, mul-one n) in leaf_at 1 n e ∙ sym (leaf_at 0 n e)
  level_more (suc f) n l =
      ⊎_elim
      (λ (b : n < length es).
      node_at (suc f) n b
      ∙ ap₂ (λ (x y : List ℕ). node_bytes (h x) (h y))
      (level_more f (2 * n) (omega (arith, begin_half n f)))
      (level_more f (2 * n + 1) (omega (arith, begin_half n f, mul-le-mul_right {m = 2 * n} {n = 2 * n + 1} (2 ^ f) (omega arith))))
      ∙ sym (node_at f n b))
      (λ (b : length es ≤ n). leaf_at (suc (suc f)) n b ∙ sym (leaf_at (suc f) n b))
      (cases_lt n (length es))

  pub digested_leaf : (n : ℕ) → length es ≤ n → digested m h es n ≡ leaf_bytes m (get_or es (n - length es) m.bottom)
  unfolding digested
  digested_leaf n l = leaf_at 12 n l

  pub digested_node : length es ≤ 4096 → (n : ℕ) → 1 ≤ n → n < length es → digested m h es n ≡ node_bytes (digest_of m h es (2 * n)) (digest_of m h es (2 * n + 1))
  unfolding digested digest_of
  digested_node small n low high =
      node_at 11 n high
      ∙ ap₂ (λ (x y : List ℕ). node_bytes (h x) (h y)) (sym (level_more 11 (2 * n) (omega arith))) (sym (level_more 11 (2 * n + 1) (omega arith)))

  pub digest_is : (n : ℕ) → digest_of m h es n ≡ h (digested m h es n)
  unfolding digest_of
  digest_is n = refl

  pub merkle : length es ≤ 4096 → Merkle m h es
  merkle small = record {
    leaf = λ k l. let e : length es + k - length es ≡ k = omega arith in digested_leaf (length es + k) (omega arith) ∙ ap (λ (i : ℕ). leaf_bytes m (get_or es i m.bottom)) e;
    node = digested_node small;
  }

  -- the tree by its places
  pub tree_long : length (tree m h es) ≡ 2 * length es
  unfolding tree
  tree_long = length-map-range_with_len (place_of m h es) 0 (2 * length es)

  at_place : (n : ℕ) → 1 ≤ n → place_of m h es n ≡ digest_of m h es n
  at_place n l = cond-false _ 0 (digest_of m h es n) (ne_eqb n 0 (λ (e : n ≡ 0). omega arith))

  pub tree_place : (n : ℕ) → 1 ≤ n → n < 2 * length es → get_or (tree m h es) n 0 ≡ digest_of m h es n
  unfolding tree
  tree_place n low high = get_or-map-range_with_len (place_of m h es) 0 (2 * length es) n n 0 high (omega arith) ∙ at_place n low

  pub tree_zero : 1 ≤ length es → get_or (tree m h es) 0 0 ≡ 0
  unfolding tree
  tree_zero l = get_or-map-range_with_len (place_of m h es) 0 (2 * length es) 0 0 0 (omega arith) refl

  pub tree_from : (ds : List ℕ) → length ds ≡ 2 * length es → get_or ds 0 0 ≡ 0 → ((n : ℕ) → 1 ≤ n → n < 2 * length es → get_or ds n 0 ≡ digest_of m h es n) → ds ≡ tree m h es
  unfolding tree
  tree_from ds l z each =
      fill_by_all (place_of m h es) ds (2 * length es) 0 l
      (λ k b. ⊎_elim
      (λ (e : k ≡ 0). ap (λ (i : ℕ). get_or ds i 0) e ∙ z ∙ ap (place_of m h es) (sym e))
      (λ (e : k ≡ 0 → ⊥). let p : 1 ≤ k = omega arith in each k p b ∙ sym (at_place k p))
      (cases_eq k 0))

  -- digests of single keys and of halves, at each place, are the tree's: from the last range up
  module _ (small : length es ≤ 4096) (ds : List ℕ)
      (leaves : (k : ℕ) → k < length es → get_or ds (length es + k) 0 ≡ h (leaf_bytes m (get_or es k m.bottom)))
      (nodes : (n : ℕ) → 1 ≤ n → n < length es → get_or ds n 0 ≡ node_in h ds n) where
    -- place n holds the tree's digest
    abbrev Holds : ℕ → Type 0
    Holds n = get_or ds n 0 ≡ digest_of m h es n

    at_key : (n : ℕ) → 1 ≤ n → length es ≤ n → n < 2 * length es → Holds n
    at_key n low b high =
        let i : length es + (n - length es) ≡ n = omega arith in
        ap (λ (j : ℕ). get_or ds j 0) (sym i) ∙ leaves (n - length es) (omega arith) ∙ ap h (sym (digested_leaf n b)) ∙ sym (digest_is n)

    at_halves : (n : ℕ) → 1 ≤ n → n < length es → Holds (2 * n) → Holds (2 * n + 1) → Holds n
    at_halves n low b x y = nodes n low b ∙ ap₂ (λ (x y : ℕ). h (node_bytes x y)) x y ∙ ap h (sym (digested_node small n low b)) ∙ sym (digest_is n)

    pub built : length ds ≡ 2 * length es → get_or ds 0 0 ≡ 0 → ds ≡ tree m h es
    built l z = tree_from ds l z (upward Holds (length es) at_key at_halves)

  -- the digests of the single keys, then of the others, then place 0: what a build leaves
  pub assembled : (ds one two : List ℕ) → fit (length es) (length ds) ≡ true → length two ≡ length ds
      → ((k : ℕ) → k < length es → get_or one (length es + k) 0 ≡ h (leaf_bytes m (get_or es k m.bottom)))
      → ((k : ℕ) → 1 ≤ k → k < length es → get_or two k 0 ≡ node_in h two k)
      → ((k : ℕ) → length es ≤ k → get_or two k 0 ≡ get_or one k 0)
      → set two 0 0 ≡ build_after m h es ds
  assembled ds one two fits long leaves nodes kept =
      built size.1 (set two 0 0)
      (λ k b. other (length es + k) (omega arith) ∙ kept (length es + k) (omega arith) ∙ leaves k b)
      (λ k low b. other k low ∙ nodes k low b ∙ ap₂ (λ (x y : ℕ). h (node_bytes x y)) (sym (other (2 * k) (omega arith))) (sym (other (2 * k + 1) (omega arith))))
      (length-set two 0 0 ∙ long ∙ size.2)
      (get_or-set_same two 0 0 0 (omega (arith, size)))
      ∙ sym (cond-true _ (tree m h es) ds fits)
    where
      size : (1 ≤ length es) × (length es ≤ 4096) × (length ds ≡ 2 * length es)
      size = fitting (length es) (length ds) fits

      other : (k : ℕ) → 1 ≤ k → get_or (set two 0 0) k 0 ≡ get_or two k 0
      other k l = get_or-set_other two 0 k 0 0 (λ (e : k ≡ 0). omega arith)

-- so it is of every table that is used
pub trees : {R : Type 0} (m : Model R) (h : List ℕ → ℕ) → Built m h
trees m h es s = merkle m h es (sized_high (length es) s)
