-- What equal digests tell: equal elements, or two byte strings with one digest.
use Rattle.std.proofs.Common.{◌≡◌, ℕ, ◌+◌, ◌-◌, ◌*◌, ◌/◌, ◌^◌, ◌<◌, ◌≤◌, ◌⊎◌, List, ◌∷◌, ◌++◌, length, get_or, take, drop, sym, refl, ap, ◌∙◌, subst, ap₂, inl, inr, ⊎_elim, arith}
use mathlib.Core.List.{List-discrete}
use native.Mathlib.Decide.{ℕ_discrete}
use Rattle.std.proofs.lemmas.List.{take_at, drop_at}
use Rattle.element.specs.Bytes.{be, number}
use Rattle.element.specs.Model.{Model, Laws}
use Rattle.element.specs.Order.{Same}
use Rattle.element.specs.Numbers.{length_be, number_be}
use Rattle.element.proofs.Orders.{same_written, written_same}
use Rattle.tree.specs.Tree.{leaf_bytes, node_bytes, digested, digest_of, Agree, Clash, Tells, Telling}
use Rattle.tree.proofs.Covering.{inside_self, inside_half, covers_half, covers_leaf, covers_halves, leaf_covers}
use Rattle.tree.proofs.Merkles.{digested_leaf, digested_node, digest_is}
use Rattle.tree.proofs.Sizing.{sized_high}
use Rattle.tree.proofs.Upward.{upward}

-- two strings of parts of one length
append_same : (s t u v : List ℕ) → length s ≡ length t → s ++ u ≡ t ++ v → (s ≡ t) × (u ≡ v)
append_same s t u v l e =
    (sym (take_at s u (length t) l) ∙ ap (take (length t)) e ∙ take_at t v (length t) refl, sym (drop_at s u (length t) l) ∙ ap (drop (length t)) e ∙ drop_at t v (length t) refl)

be_same : (n x y : ℕ) → x < 256 ^ n → y < 256 ^ n → be n x ≡ be n y → x ≡ y
be_same n x y a b e = sym (number_be n x a) ∙ ap number e ∙ number_be n y b

-- the halves' digests of two ranges with the same bytes
node_same : (p q r s : ℕ) → p < 2 ^ 64 → q < 2 ^ 64 → r < 2 ^ 64 → s < 2 ^ 64 → node_bytes p q ≡ node_bytes r s → (p ≡ r) × (q ≡ s)
node_same p q r s a b c d e =
    let t : be 8 p ++ be 8 q ≡ be 8 r ++ be 8 s = cc in
    let u = append_same (be 8 p) (be 8 r) (be 8 q) (be 8 s) (length_be 8 p ∙ sym (length_be 8 r)) t in
    (be_same 8 p r a c u.0, be_same 8 q s b d u.1)

module _ {R : Type 0} (m : Model R) (l : Laws m) (h : List ℕ → ℕ) (small : (bs : List ℕ) → h bs < 2 ^ 64)
    (es fs : List R) (few : length es ≤ 4096) (long : length fs ≡ length es) where
  below : (xs : List R) (n : ℕ) → digest_of m h xs n < 2 ^ 64
  below xs n = subst (λ (d : ℕ). d < 2 ^ 64) (sym (digest_is m h xs n)) (small (digested m h xs n))

  agree_half : (n p : ℕ) → 1 ≤ n → p / 2 ≡ n → Agree m h es fs n → Agree m h es fs p
  agree_half n p low e a k b c = a k b (covers_half (length es) n p k low e c)

  -- the element of a range of a single key, by the key
  leaf_in : (xs : List R) → length xs ≡ length es → (n : ℕ) → length es ≤ n → digested m h xs n ≡ leaf_bytes m (get_or xs (n - length es) m.bottom)
  leaf_in xs e n b = digested_leaf m h xs n (omega arith) ∙ ap (λ (i : ℕ). leaf_bytes m (get_or xs (n - i) m.bottom)) e

  -- tables that agree at a range have the same digested of it
  abbrev AgreeTells : ℕ → Type 0
  AgreeTells n = Agree m h es fs n → digested m h es n ≡ digested m h fs n

  same_key : (n : ℕ) → 1 ≤ n → length es ≤ n → n < 2 * length es → AgreeTells n
  same_key n low b high a =
      let k : ℕ = n - length es in
      leaf_in es refl n b
      ∙ ap (λ (bs : List ℕ). 0 ∷ bs) (same_written l (get_or es k m.bottom) (get_or fs k m.bottom) (a k (omega arith) (covers_leaf (length es) n k low (omega arith))))
      ∙ sym (leaf_in fs long n b)

  same_halves : (n : ℕ) → 1 ≤ n → n < length es → AgreeTells (2 * n) → AgreeTells (2 * n + 1) → AgreeTells n
  same_halves n low b x y a =
      digested_node m h es few n low b
      ∙ ap₂ (λ (x y : ℕ). node_bytes x y) (half (2 * n) (omega arith) x) (half (2 * n + 1) (omega arith) y)
      ∙ sym (digested_node m h fs (omega arith) n low (omega arith))
    where
      half : (p : ℕ) → p / 2 ≡ n → AgreeTells p → digest_of m h es p ≡ digest_of m h fs p
      half p e same = digest_is m h es p ∙ ap h (same (agree_half n p low e a)) ∙ sym (digest_is m h fs p)

  -- equal digests at a range tell of agreement, or of a clash
  abbrev DigestTells : ℕ → Type 0
  DigestTells n = digest_of m h es n ≡ digest_of m h fs n → Agree m h es fs n ⊎ Clash m h es fs n

  here : (n : ℕ) → 1 ≤ n → n < 2 * length es → (digested m h es n ≡ digested m h fs n → Agree m h es fs n ⊎ Clash m h es fs n) → DigestTells n
  here n low high same d = go (List-discrete ℕ_discrete (digested m h es n) (digested m h fs n))
    where
      go : Dec (digested m h es n ≡ digested m h fs n) → Agree m h es fs n ⊎ Clash m h es fs n
      go (yes y) = same y
      go (no y) = inr (record { range = n; inside = inside_self n; low = low; high = high; differ = y; collide = d })

  tells_key : (n : ℕ) → 1 ≤ n → length es ≤ n → n < 2 * length es → DigestTells n
  tells_key n low b high = here n low high (λ y. inl (λ k s c.
      let i : n - length es ≡ k = omega (arith, leaf_covers (length es) n k s b c) in
      let t : leaf_bytes m (get_or es (n - length es) m.bottom) ≡ leaf_bytes m (get_or fs (n - length es) m.bottom) = sym (leaf_in es refl n b) ∙ y ∙ leaf_in fs long n b in
      let w : m.written (get_or es (n - length es) m.bottom) ≡ m.written (get_or fs (n - length es) m.bottom) = cc in
      subst (λ (j : ℕ). Same m (get_or es j m.bottom) (get_or fs j m.bottom)) i (written_same l _ _ w)))

  widen : (n p : ℕ) → p / 2 ≡ n → Clash m h es fs p → Clash m h es fs n
  widen n p e c = record { range = c.range; inside = inside_half c.range n p e c.inside; low = c.low; high = c.high; differ = c.differ; collide = c.collide }

  both_tell : (n : ℕ) → n < length es → Agree m h es fs (2 * n) ⊎ Clash m h es fs (2 * n) → Agree m h es fs (2 * n + 1) ⊎ Clash m h es fs (2 * n + 1) → Agree m h es fs n ⊎ Clash m h es fs n
  both_tell n b (inl x) (inl y) = inl (λ k s c. ⊎_elim (x k s) (y k s) (covers_halves (length es) n k b c))
  both_tell n b (inl x) (inr y) = inr (widen n (2 * n + 1) (omega arith) y)
  both_tell n b (inr x) y = inr (widen n (2 * n) (omega arith) x)

  tells_halves : (n : ℕ) → 1 ≤ n → n < length es → DigestTells (2 * n) → DigestTells (2 * n + 1) → DigestTells n
  tells_halves n low b p q = here n low (omega arith) (λ y.
      let t = sym (digested_node m h es few n low b) ∙ y ∙ digested_node m h fs (omega arith) n low (omega arith) in
      let u = node_same _ _ _ _ (below es (2 * n)) (below es (2 * n + 1)) (below fs (2 * n)) (below fs (2 * n + 1)) t in
      both_tell n b (p u.0) (q u.1))

  tells : (n : ℕ) → 1 ≤ n → n < 2 * length es → Tells m h es fs n
  tells n low high = record {
    agree_same = λ a. digest_is m h es n ∙ ap h (upward AgreeTells (length es) same_key same_halves n low high a) ∙ sym (digest_is m h fs n);
    same_agree = upward DigestTells (length es) tells_key tells_halves n low high;
  }

pub telling : {R : Type 0} (m : Model R) → Laws m → (h : List ℕ → ℕ) → ((bs : List ℕ) → h bs < 2 ^ 64) → Telling m h
telling m l h small es fs n s long low high = tells m l h small es fs (sized_high (length es) s) long n low high
