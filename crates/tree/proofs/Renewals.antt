-- A renewed table keeps its rule, and one that was the tree stays the tree.
use Rattle.std.proofs.Common.{◌≡◌, ℕ, zero, suc, ◌+◌, ◌-◌, ◌*◌, ◌/◌, ◌^◌, ◌<◌, ◌≤◌, true, List, length, get_or, set, sym, ap, ◌∙◌, ap₂, ⊎_elim, div-one, arith, length-set}
use lib.Pow.{shr_le}
use Rattle.std.proofs.lemmas.List.{get_or-set_same, get_or-set_other}
use Rattle.std.proofs.lemmas.Bool.{cond-true, and_from, lt-ltb, cases_eq}
use Rattle.element.specs.Model.{Model}
use Rattle.tree.specs.Ranges.{Inside, Covers}
use Rattle.tree.specs.Renewal.{climbed, renewed, renew_after, Renewed, Renewing, Stays}
use Rattle.tree.specs.Sizes.{fit}
use Rattle.tree.specs.Tree.{leaf_bytes, node_bytes, digest_of, tree}
use Rattle.tree.proofs.Climbing.{climb_long, climb_off, climb_at}
use Rattle.tree.proofs.Covering.{inside_first, covers_half, covers_tell, leaf_covers}
use Rattle.tree.proofs.Merkles.{digested_leaf, digested_node, digest_is, tree_long, tree_place, tree_zero, tree_from}
use Rattle.tree.proofs.Powers.{halve_first}
use Rattle.tree.proofs.Sizing.{sized_low, sized_high}
use Rattle.tree.proofs.Upward.{upward}

module _ {R : Type 0} (m : Model R) (h : List ℕ → ℕ) where
  renews : (es : List R) (k : ℕ) (ds : List ℕ) → length es ≤ 4096 → k < length es → length ds ≡ 2 * length es → Renewed m h es k ds (renewed m h es k ds)
  unfolding renewed
  renews es k ds small high long = record {
    long = climb_long h 12 (c / 2) next ∙ length-set ds c v;
    leaf = climb_off h 12 (c / 2) c next (λ l i. not_below i) ∙ get_or-set_same ds c v 0 (omega arith);
    above = λ n b cov. climb_at h 12 (c / 2) n next (omega arith) (omega (arith, length-set ds c v)) cov.range (from_half n b cov.inside.halvings cov.inside.halved);
    rest = λ n off.
        climb_off h 12 (c / 2) n next (λ l i. off (record { range = l; inside = inside_first c n i }))
        ∙ get_or-set_other ds c n v 0 (λ (q : n ≡ c). off (record { range = omega arith; inside = record { halvings = 0; halved = div-one c ∙ sym q } }));
  }
    where
      c : ℕ
      c = length es + k

      v : ℕ
      v = h (leaf_bytes m (get_or es k m.bottom))

      next : List ℕ
      next = set ds c v

      not_below : Inside (c / 2) c → ⊥
      not_below i = let s = shr_le (c / 2) i.halvings in let e = i.halved in omega arith

      from_half : (n : ℕ) → n < length es → (t : ℕ) → c / 2 ^ t ≡ n → Inside (c / 2) n
      from_half n b zero e = absurd (let d = div-one c in omega arith)
      from_half n b (suc t) e = record { halvings = t; halved = halve_first c t ∙ e }

  pub renewing : Renewing m h
  renewing es k ds s high long = renews es k ds (sized_high (length es) s) high long

  -- what the code does is what a renewal leaves
  pub renewed_by : (es : List R) (k : ℕ) (ds : List ℕ) (v : ℕ) → fit (length es) (length ds) ≡ true → k < length es → v ≡ h (leaf_bytes m (get_or es k m.bottom))
      → climbed h 12 ((length es + k) / 2) (set ds (length es + k) v) ≡ renew_after m h es k ds
  unfolding renewed
  renewed_by es k ds v fits b e =
      ap (λ (w : ℕ). climbed h 12 ((length es + k) / 2) (set ds (length es + k) w)) e
      ∙ sym (cond-true _ (renewed m h es k ds) ds (and_from _ _ fits (lt-ltb k (length es) b)))

  module _ (es : List R) (k : ℕ) (x : R) (small : length es ≤ 4096) (high : k < length es) where
    abbrev new : List R
    new = set es k x

    same_long : length new ≡ length es
    same_long = length-set es k x

    abbrev ds' : List ℕ
    ds' = renewed m h new k (tree m h es)

    rule : Renewed m h new k (tree m h es) ds'
    rule = renews new k (tree m h es) (omega (arith, same_long)) (omega (arith, same_long)) (tree_long m h es ∙ ap (λ (n : ℕ). 2 * n) (sym same_long))

    -- what does not have the key is as it was
    as_before : (n : ℕ) → 1 ≤ n → n < 2 * length es → (Covers (length new) n k → ⊥) → get_or ds' n 0 ≡ digest_of m h es n
    as_before n low b off = rule.rest n off ∙ tree_place m h es n low b

    -- place n holds the tree's digest
    abbrev Holds : ℕ → Type 0
    Holds n = get_or ds' n 0 ≡ digest_of m h new n

    at_key : (n : ℕ) → 1 ≤ n → length es ≤ n → n < 2 * length es → Holds n
    at_key n low s b = ⊎_elim changed kept (cases_eq n (length new + k))
      where
        changed : n ≡ length new + k → Holds n
        changed q =
            let i : n - length new ≡ k = omega arith in
            ap (λ (j : ℕ). get_or ds' j 0) q
            ∙ rule.leaf
            ∙ ap (λ (j : ℕ). h (leaf_bytes m (get_or new j m.bottom))) (sym i)
            ∙ ap h (sym (digested_leaf m h new n (omega (arith, same_long))))
            ∙ sym (digest_is m h new n)

        kept : (n ≡ length new + k → ⊥) → Holds n
        kept q =
            let i : n - length es ≡ n - length new = ap (λ (l : ℕ). n - l) (sym same_long) in
            let ne : n - length es ≡ k → ⊥ = λ (z : n - length es ≡ k). q (omega (arith, same_long)) in
            as_before n low b (λ cov. q (sym (leaf_covers (length new) n k (omega (arith, same_long)) (omega (arith, same_long)) cov)))
            ∙ digest_is m h es n
            ∙ ap h (digested_leaf m h es n s)
            ∙ ap (λ (y : R). h (leaf_bytes m y)) (sym (get_or-set_other es k (n - length es) x m.bottom ne))
            ∙ ap (λ (j : ℕ). h (leaf_bytes m (get_or new j m.bottom))) i
            ∙ ap h (sym (digested_leaf m h new n (omega (arith, same_long))))
            ∙ sym (digest_is m h new n)

    at_halves : (n : ℕ) → 1 ≤ n → n < length es → Holds (2 * n) → Holds (2 * n + 1) → Holds n
    at_halves n low s y z = ⊎_elim above beside (covers_tell (length new) k (2 * length new) n (omega (arith, same_long)) (omega arith) low)
      where
        -- the digest of range n in the new table, by those of its halves
        whole : (p q : ℕ) → p ≡ digest_of m h new (2 * n) → q ≡ digest_of m h new (2 * n + 1) → h (node_bytes p q) ≡ digest_of m h new n
        whole p q y z = ap₂ (λ (u w : ℕ). h (node_bytes u w)) y z ∙ ap h (sym (digested_node m h new (omega (arith, same_long)) n low (omega (arith, same_long)))) ∙ sym (digest_is m h new n)

        above : Covers (length new) n k → Holds n
        above cov = rule.above n (omega (arith, same_long)) cov ∙ whole _ _ y z

        -- a half of a range that does not have the key
        half : (Covers (length new) n k → ⊥) → (p : ℕ) → p / 2 ≡ n → 1 ≤ p → p < 2 * length es → Holds p → digest_of m h es p ≡ digest_of m h new p
        half off p e l u is = sym (as_before p l u (λ cov. off (covers_half (length new) n p k low e cov))) ∙ is

        beside : (Covers (length new) n k → ⊥) → Holds n
        beside off =
            as_before n low (omega arith) off
            ∙ digest_is m h es n
            ∙ ap h (digested_node m h es small n low s)
            ∙ whole _ _ (half off (2 * n) (omega arith) (omega arith) (omega arith) y) (half off (2 * n + 1) (omega arith) (omega arith) (omega arith) z)

    pub renewed_tree : 1 ≤ length es → ds' ≡ tree m h new
    renewed_tree one =
        tree_from m h new ds'
        (rule.long ∙ tree_long m h es ∙ ap (λ (n : ℕ). 2 * n) (sym same_long))
        (rule.rest 0 (λ cov. let z = cov.range in omega arith) ∙ tree_zero m h es one)
        (λ n low b. upward Holds (length es) at_key at_halves n low (omega (arith, same_long)))

  pub stays : Stays m h
  stays es k x s high = renewed_tree es k x (sized_high (length es) s) high (sized_low (length es) s)
