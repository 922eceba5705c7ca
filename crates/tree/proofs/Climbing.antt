-- Digests renewed from a range upward: what each place then holds.
use Rattle.std.proofs.Common.{◌≡◌, ℕ, zero, suc, ◌+◌, ◌*◌, ◌/◌, ◌^◌, ◌<◌, ◌≤◌, List, length, get_or, set, sym, refl, ap, ◌∙◌, subst, ap₂, ⊎_elim, div-one, arith}
use native.Mathlib.Nat.{pow-zero}
use lib.Pow.{shr_le}
use Rattle.std.proofs.lemmas.List.{length-set, get_or-set_same, get_or-set_other}
use Rattle.std.proofs.lemmas.Bool.{cond-true, cond-false, cases_eq, eq-eqb, ne_eqb}
use Rattle.tree.specs.Renewal.{node_in, climbed}
use Rattle.tree.specs.Tree.{node_bytes}
use Rattle.tree.specs.Ranges.{Inside}
use Rattle.tree.proofs.Covering.{inside_first}
use Rattle.tree.proofs.Powers.{twice, halve_first}

module _ (h : List ℕ → ℕ) where
  pub climb_done : (f n : ℕ) (ds : List ℕ) → n ≡ 0 → climbed h f n ds ≡ ds
  unfolding climbed
  climb_done zero n ds e = refl
  climb_done (suc f) n ds e = cond-true _ ds _ (eq-eqb n 0 e)

  climb_on : (f n : ℕ) (ds : List ℕ) → 1 ≤ n → climbed h (suc f) n ds ≡ climbed h f (n / 2) (set ds n (node_in h ds n))
  unfolding climbed
  climb_on f n ds l = cond-false _ ds _ (ne_eqb n 0 (λ (e : n ≡ 0). omega arith))

  -- ranges past the first change nothing
  climb_enough : (f n : ℕ) (ds : List ℕ) → n < 2 ^ f → climbed h (suc f) n ds ≡ climbed h f n ds
  climb_enough zero n ds l = let e : n ≡ 0 = omega (arith, pow-zero 2) in climb_done 1 n ds e ∙ sym (climb_done 0 n ds e)
  climb_enough (suc f) n ds l =
      ⊎_elim
      (λ (e : n ≡ 0). climb_done (suc (suc f)) n ds e ∙ sym (climb_done (suc f) n ds e))
      (λ (e : n ≡ 0 → ⊥).
      let p : 1 ≤ n = omega arith in
      climb_on (suc f) n ds p ∙ climb_enough f (n / 2) (set ds n (node_in h ds n)) (omega (arith, twice f)) ∙ sym (climb_on f n ds p))
      (cases_eq n 0)

  pub climb_step : (n v : ℕ) (ds : List ℕ) → v ≡ node_in h ds n → 1 ≤ n → n < 4096 → climbed h 12 (n / 2) (set ds n v) ≡ climbed h 12 n ds
  climb_step n v ds e low high =
      ap (λ (x : ℕ). climbed h 12 (n / 2) (set ds n x)) e ∙ climb_enough 11 (n / 2) (set ds n (node_in h ds n)) (omega arith) ∙ sym (climb_on 11 n ds low)

  climb_none : (n : ℕ) (ds : List ℕ) → climbed h 0 n ds ≡ ds
  unfolding climbed
  climb_none n ds = refl

  pub climb_long : (f n : ℕ) (ds : List ℕ) → length (climbed h f n ds) ≡ length ds
  climb_long zero n ds = ap length (climb_none n ds)
  climb_long (suc f) n ds =
      ⊎_elim
      (λ (e : n ≡ 0). ap length (climb_done (suc f) n ds e))
      (λ (e : n ≡ 0 → ⊥). ap length (climb_on f n ds (omega arith)) ∙ climb_long f (n / 2) (set ds n (node_in h ds n)) ∙ length-set ds n (node_in h ds n))
      (cases_eq n 0)

  -- a place that is not renewed keeps what it held
  pub climb_off : (f n p : ℕ) (ds : List ℕ) → (1 ≤ p → Inside n p → ⊥) → get_or (climbed h f n ds) p 0 ≡ get_or ds p 0
  climb_off zero n p ds off = ap (λ (xs : List ℕ). get_or xs p 0) (climb_none n ds)
  climb_off (suc f) n p ds off =
      ⊎_elim
      (λ (e : n ≡ 0). ap (λ (xs : List ℕ). get_or xs p 0) (climb_done (suc f) n ds e))
      (λ (e : n ≡ 0 → ⊥).
      ap (λ (xs : List ℕ). get_or xs p 0) (climb_on f n ds (omega arith))
      ∙ climb_off f (n / 2) p (set ds n (node_in h ds n)) (λ l i. off l (inside_first n p i))
      ∙ get_or-set_other ds n p (node_in h ds n) 0 (λ (q : p ≡ n). off (omega arith) (record { halvings = 0; halved = div-one n ∙ sym q })))
      (cases_eq n 0)

  -- a place above the one from which it starts
  climb_past : (f n p : ℕ) (ds : List ℕ) → n < p → get_or (climbed h f n ds) p 0 ≡ get_or ds p 0
  climb_past f n p ds l = climb_off f n p ds (λ _ i. let s = shr_le n i.halvings in let e = i.halved in omega arith)

  -- a place that is renewed has the digest of its halves in the table as it is then
  pub climb_at : (f n p : ℕ) (ds : List ℕ) → n < 2 ^ f → 2 * n + 1 < length ds → 1 ≤ p → Inside n p → get_or (climbed h f n ds) p 0 ≡ node_in h (climbed h f n ds) p
  climb_at zero n p ds small long low i = absurd (let s = shr_le n i.halvings in let e = i.halved in omega (arith, pow-zero 2))
  climb_at (suc f) n p ds small long low i =
      go i.halvings i.halved (climb_at f (n / 2) p (set ds n (node_in h ds n)) (omega (arith, twice f)) (omega (arith, length-set ds n (node_in h ds n))) low)
    where
      pos : 1 ≤ n
      pos = let s = shr_le n i.halvings in let e = i.halved in omega arith

      next : List ℕ
      next = set ds n (node_in h ds n)

      is : climbed h (suc f) n ds ≡ climbed h f (n / 2) next
      is = climb_on f n ds pos

      same_at : (q : ℕ) → n < q → get_or (climbed h f (n / 2) next) q 0 ≡ get_or ds q 0
      same_at q l = climb_past f (n / 2) q next (omega arith) ∙ get_or-set_other ds n q (node_in h ds n) 0 (λ (e : q ≡ n). omega arith)

      first : get_or (climbed h f (n / 2) next) n 0 ≡ node_in h (climbed h f (n / 2) next) n
      first =
          climb_past f (n / 2) n next (omega arith)
          ∙ get_or-set_same ds n (node_in h ds n) 0 (omega arith)
          ∙ ap₂ (λ (x y : ℕ). h (node_bytes x y)) (sym (same_at (2 * n) (omega arith))) (sym (same_at (2 * n + 1) (omega arith)))

      go : (t : ℕ) → n / 2 ^ t ≡ p → (Inside (n / 2) p → get_or (climbed h f (n / 2) next) p 0 ≡ node_in h (climbed h f (n / 2) next) p) → get_or (climbed h (suc f) n ds) p 0 ≡ node_in h (climbed h (suc f) n ds) p
      go zero e ih = let q : n ≡ p = sym (div-one n) ∙ e in subst (λ (xs : List ℕ). get_or xs p 0 ≡ node_in h xs p) (sym is) (subst (λ (r : ℕ). get_or (climbed h f (n / 2) next) r 0 ≡ node_in h (climbed h f (n / 2) next) r) q first)
      go (suc t) e ih = subst (λ (xs : List ℕ). get_or xs p 0 ≡ node_in h xs p) (sym is) (ih (record { halvings = t; halved = halve_first n t ∙ e }))
