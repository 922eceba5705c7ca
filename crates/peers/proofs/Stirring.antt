-- The keys that differed when a round opened, or were laid since; the others hold what they held, at both ends.
use Rattle.std.proofs.Common.{◌≡◌, ℕ, zero, suc, ◌+◌, ◌-◌, ◌*◌, ◌^◌, ◌<◌, ◌≤◌, Bool, true, false, ◌||◌, eqb, ◌⊎◌, List, [], ◌∷◌, sym, refl, ap, ◌∙◌, subst, ap₂, inl, inr, ⊎_elim, arith}
use Rattle.std.proofs.lemmas.Bool.{and_parts, both_ways, cases_Bool, cases_lt, eqb-true, not-false, or_parts}
use Rattle.element.proofs.Orders.{written_same}
use Rattle.element.specs.Order.{Same, AtMost}
use Rattle.tree.proofs.Covering.{covers_tell}
use Rattle.tree.specs.Ranges.{Covers}
use Rattle.tree.specs.Walk.{Passed, settled, split}
use Rattle.peers.specs.Pairs.{End, left, right}
use Rattle.peers.specs.Promise.{stirred}
use Rattle.peers.specs.Runs.{Run, keys, holds, same_bytes, lays_at, laid_in, differs_at}
use Rattle.peers.proofs.Settings.{Setting}
use Rattle.peers.proofs.Orders.{le_refl, le_trans, le_same, le_join, same_le, same_sym}
use Rattle.peers.proofs.Views.{Cell, stays, grows, takes}
use Rattle.peers.proofs.Bounds.{together, le_together, modest_at, cells_at, holds_grow}
use Rattle.peers.proofs.Costs.{Marked, SplitsMarked}

same_bytes_eq : (xs ys : List ℕ) → same_bytes xs ys ≡ true → xs ≡ ys
same_bytes_eq [] [] h = refl
same_bytes_eq [] (y ∷ ys) h = absurd (both_ways false refl h)
same_bytes_eq (x ∷ xs) [] h = absurd (both_ways false refl h)
same_bytes_eq (x ∷ xs) (y ∷ ys) h = let two = and_parts (eqb x y) (same_bytes xs ys) h in ap₂ ◌∷◌ (eqb-true x y two.0) (same_bytes_eq xs ys two.1)

-- more keys pass a weaker test
pub marked_more : {s t : ℕ → Bool} → ((k : ℕ) → s k ≡ true → t k ≡ true) → {d i : ℕ} → Marked s d i → Marked t d i
marked_more f m = record { key = m.key; below = m.below; covers = m.covers; passes = f m.key m.passes }

pub splits_more : {s t : ℕ → Bool} → ((k : ℕ) → s k ≡ true → t k ≡ true) → (d : ℕ) (ps : List Passed) → SplitsMarked s d ps → SplitsMarked t d ps
splits_more f d [] m = tt
splits_more f d (settled i ∷ ps) m = splits_more f d ps m
splits_more f d (split i ∷ ps) m = (marked_more f m.0, splits_more f d ps m.1)

-- a range has a key that passes, or none does
pub find_marked : (test : ℕ → Bool) (d i b : ℕ) → 1 ≤ i → b ≤ 2 ^ d → Marked test d i ⊎ ((k : ℕ) → k < b → Covers (2 ^ d) i k → test k ≡ false)
find_marked test d i zero l h = inr (λ k z c. absurd (omega arith))
find_marked test d i (suc b) l h = ⊎_elim inl (λ f. here f (cases_Bool (test b)) (covers_tell (2 ^ d) b (2 * 2 ^ d) i h (omega arith) l)) (find_marked test d i b l (omega arith))
  where
    Goal : Type 0
    Goal = Marked test d i ⊎ ((k : ℕ) → k < suc b → Covers (2 ^ d) i k → test k ≡ false)

    extend : ((k : ℕ) → k < b → Covers (2 ^ d) i k → test k ≡ false) → (Covers (2 ^ d) i b → test b ≡ false) → Goal
    extend f g = inr (λ k z c. ⊎_elim (λ (y : k < b). f k y c) (λ y. let is : b ≡ k = omega arith in subst (λ (j : ℕ). Covers (2 ^ d) i j → test j ≡ false) is g c) (cases_lt k b))

    here : ((k : ℕ) → k < b → Covers (2 ^ d) i k → test k ≡ false) → (test b ≡ true) ⊎ (test b ≡ false) → Covers (2 ^ d) i b ⊎ (Covers (2 ^ d) i b → ⊥) → Goal
    here f (inl p) (inl c) = inl (record { key = b; below = h; covers = c; passes = p })
    here f (inl p) (inr c) = extend f (λ z. absurd (c z))
    here f (inr p) c = extend f (λ z. p)

module _ (S : Setting) {n : ℕ} (run : Run S.m S.h S.L n) (o : ℕ) where
  -- one event more
  stirred_on : (t k : ℕ) → o ≤ t → stirred run o (suc t) k ≡ (differs_at run o k || (lays_at k (run.event t) || laid_in run k o (t - o)))
  stirred_on t k h =
      let e : suc t - o ≡ suc (t - o) = omega arith in
      let f : o + (t - o) ≡ t = omega arith in
      ap (λ (s : ℕ). differs_at run o k || laid_in run k o s) e ∙ ap (λ (u : ℕ). differs_at run o k || (lays_at k (run.event u) || laid_in run k o (t - o))) f

  pub stirred_more : (t k : ℕ) → o ≤ t → stirred run o t k ≡ true → stirred run o (suc t) k ≡ true
  stirred_more t k h s = stirred_on t k h ∙ go (differs_at run o k) (lays_at k (run.event t)) (laid_in run k o (t - o)) s
    where
      go : (a b c : Bool) → (a || c) ≡ true → (a || (b || c)) ≡ true
      go true b c s = refl
      go false true c s = refl
      go false false c s = s

  -- what is not stirred was not before, and was not laid
  pub unstirred : (t k : ℕ) → o ≤ t → stirred run o (suc t) k ≡ false → (stirred run o t k ≡ false) × (lays_at k (run.event t) ≡ false)
  unstirred t k h s = go (differs_at run o k) (lays_at k (run.event t)) (laid_in run k o (t - o)) (sym (stirred_on t k h) ∙ s)
    where
      go : (a b c : Bool) → (a || (b || c)) ≡ false → ((a || c) ≡ false) × (b ≡ false)
      go true b c s = absurd (both_ways true s refl)
      go false true c s = absurd (both_ways true s refl)
      go false false c s = (s, refl)

  -- where nothing is laid, no more is stirred
  pub stirred_still : (t k : ℕ) → o ≤ t → lays_at k (run.event t) ≡ false → stirred run o (suc t) k ≡ true → stirred run o t k ≡ true
  stirred_still t k h l s = go (differs_at run o k) (lays_at k (run.event t)) (laid_in run k o (t - o)) l (sym (stirred_on t k h) ∙ s)
    where
      go : (a b c : Bool) → b ≡ false → (a || (b || c)) ≡ true → (a || c) ≡ true
      go true b c l s = refl
      go false true c l s = absurd (both_ways true l refl)
      go false false c l s = s

  pub unstirred_before : (s t k : ℕ) → o ≤ s → s ≤ t → stirred run o t k ≡ false → stirred run o s k ≡ false
  unstirred_before s zero k a b h = let is : 0 ≡ s = omega arith in subst (λ (u : ℕ). stirred run o u k ≡ false) is h
  unstirred_before s (suc t) k a b h = ⊎_elim
      (λ c. unstirred_before s t k a (omega arith) (unstirred t k (omega arith) h).0)
      (λ c. let is : suc t ≡ s = omega arith in subst (λ (u : ℕ). stirred run o u k ≡ false) is h)
      (cases_lt s (suc t))

  module _ (size : keys run ≡ S.N) (start : o ≤ n) where
    -- together the ends hold no more at such a key than each held at the opening
    Cold : ℕ → Type 0
    Cold t = (k : ℕ) → stirred run o t k ≡ false → (d : End) → AtMost S.m (together S (run.pair t) k) (holds run o d k)

    alike : (k : ℕ) → stirred run o o k ≡ false → Same S.m (holds run o left k) (holds run o right k)
    alike k h = written_same S.laws _ _ (same_bytes_eq _ _ (not-false _ (or_parts (differs_at run o k) (laid_in run k o (o - o)) h).0))

    cold_start : Cold o
    unfolding Cold
    cold_start k h left = le_join S (le_refl S _) (le_same S (same_sym S (alike k h)))
    cold_start k h right = le_join S (le_same S (alike k h)) (le_refl S _)

    cold_next : (t : ℕ) → o ≤ t → t < n → Cold t → Cold (suc t)
    unfolding Cold
    cold_next t a b old k h d =
        let two = unstirred t k a h in
        le_trans S (le_join S (go two.1 left (cells_at S run size t b left k)) (go two.1 right (cells_at S run size t b right k))) (old k two.0 d)
      where
        go : lays_at k (run.event t) ≡ false → (e : End) → Cell S (run.event t) (run.pair t) (run.pair (suc t)) e k → AtMost S.m (holds run (suc t) e k) (together S (run.pair t) k)
        go l e (stays c z) = subst (λ (x : S.R). AtMost S.m x (together S (run.pair t) k)) (sym c) (le_together S (run.pair t) e k)
        go l e (grows x c z w) = absurd (both_ways _ l w)
        go l e (takes f bs x u y i c z) =
            subst (λ (x : S.R). AtMost S.m x (together S (run.pair t) k)) (sym c)
            (le_join S (le_together S (run.pair t) e k) (modest_at S run size t (omega arith) e f u k bs y x i))

    cold : (t : ℕ) → o ≤ t → t ≤ n → Cold t
    cold zero a b = let is : o ≡ 0 = omega arith in subst Cold is cold_start
    cold (suc t) a b = ⊎_elim
        (λ c. cold_next t (omega arith) b (cold t (omega arith) (omega arith)))
        (λ c. let is : o ≡ suc t = omega arith in subst Cold is cold_start)
        (cases_lt o (suc t))

    -- so both hold there what one end held at the opening
    pub still_same : (t k : ℕ) → o ≤ t → t ≤ n → stirred run o t k ≡ false → (d e : End) → Same S.m (holds run t d k) (holds run o e k)
    unfolding Cold
    still_same t k a b h d e =
        same_le S
        (le_trans S (le_together S (run.pair t) d k) (cold t a b k h e))
        (le_trans S (le_together S (run.pair o) e k) (le_trans S (cold_start k (unstirred_before o t k (omega arith) a h) d) (holds_grow S run size o t a b d k)))
