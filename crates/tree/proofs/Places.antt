-- The place of a range in the order of a round: where its keys begin, and how many ranges come before it.
use Rattle.std.proofs.Common.{◌≡◌, ℕ, zero, suc, ◌+◌, ◌-◌, ◌*◌, ◌/◌, ◌%◌, ◌^◌, ◌<◌, ◌≤◌, cond, eqb, Some, None, Option, sym, refl, ap, ◌∙◌, subst, ap₂, ⊎_elim, add-zero, one-mul, arith, pow_pos}
use Rattle.std.proofs.lemmas.Bool.{eq-eqb, ne_eqb, cases_eq}
use Rattle.tree.specs.Ranges.{Level}
use Rattle.tree.specs.Walk.{follow}
use Rattle.tree.proofs.Powers.{twice, begin_half}
use Rattle.tree.proofs.Levels.{one_level, top_level}
use Rattle.tree.proofs.Following.{rule}

-- How many ranges come before n, which stands i levels below range 1 and j above the single keys: those before its
-- parent, the parent, and where n is the upper half all ranges inside the lower.
abbrev pub rank : ℕ → ℕ → ℕ → ℕ
rank zero j n = 0
rank (suc i) j n = rank i (suc j) (n / 2) + 1 + cond (eqb (n % 2) 0) 0 (2 * 2 ^ j - 1)

-- the lower half of a range comes right after it
rank_even : (i j n : ℕ) → n % 2 ≡ 0 → rank (suc i) j n ≡ rank i (suc j) (n / 2) + 1
rank_even i j n e = ap (λ b. rank i (suc j) (n / 2) + 1 + cond b 0 (2 * 2 ^ j - 1)) (eq-eqb (n % 2) 0 e) ∙ add-zero (rank i (suc j) (n / 2) + 1)

-- the upper half comes after it and all of the lower half
rank_odd : (i j n : ℕ) → (n % 2 ≡ 0 → ⊥) → rank (suc i) j n ≡ rank i (suc j) (n / 2) + 2 * 2 ^ j
rank_odd i j n e = ap (λ b. rank i (suc j) (n / 2) + 1 + cond b 0 (2 * 2 ^ j - 1)) (ne_eqb (n % 2) 0 e) ∙ omega (arith, pow_pos j)

-- a range, those before it and those inside it are no more than there are
pub room : (d i j n : ℕ) → i + j ≡ d → rank i j n + 2 * 2 ^ j ≤ 2 * 2 ^ d
room d zero j n e = let q : j ≡ d = omega arith in subst (λ t. 0 + 2 * 2 ^ j ≤ 2 * 2 ^ t) q (omega arith)
room d (suc i) j n e =
    let h : rank i (suc j) (n / 2) + 2 * 2 ^ suc j ≤ 2 * 2 ^ d = room d i (suc j) (n / 2) (omega arith) in
    ⊎_elim (λ z. omega (arith, rank_even i j n z, twice j, pow_pos j)) (λ z. omega (arith, rank_odd i j n z, twice j)) (cases_eq (n % 2) 0)

-- The keys of range n begin at b, counted from N, and r ranges come before n.
pub record Place (d n b r : ℕ) : Type 0 where
  pub level : ℕ
  pub stands : Level d level n
  pub begin : n * 2 ^ level ≡ b
  pub ranked : rank stands.down level n ≡ r

-- as many ranges come before n, however it is placed
pub one_rank : (d n b c r s : ℕ) → Place d n b r → Place d n c s → r ≡ s
one_rank d n b c r s p q =
    let e : p.level ≡ q.level = one_level d p.level q.level n p.stands q.stands in
    let f : p.stands.down ≡ q.stands.down = omega arith in
    sym p.ranked ∙ ap₂ (λ i j. rank i j n) f e ∙ q.ranked

-- What follows range n, which stands at level j and has r before it, begins where n ends and comes after all inside n.
-- Where nothing follows, n ends with the last key.
abbrev pub Next : ℕ → ℕ → ℕ → ℕ → Option ℕ → Type 0
Next d j n r None = (n + 1) * 2 ^ j ≡ 2 * 2 ^ d
Next d j n r (Some m) = Place d m ((n + 1) * 2 ^ j) (r + (2 * 2 ^ j - 1))

-- so it is, by induction on the levels below range 1
next : (d i j n : ℕ) → i + j ≡ d → 2 ^ i ≤ n → n < 2 * 2 ^ i → Next d j n (rank i j n) (follow n)
next d zero j n e l h =
    let n1 : 1 ≡ n = omega arith in
    let jd : j ≡ d = omega arith in
    subst (λ t. Next d j t 0 (follow t)) n1 (subst (Next d j 1 0) (sym rule.one) (ap (λ t. 2 * 2 ^ t) jd))
next d (suc i) j n e l h = ⊎_elim even (λ z. odd z (next d i (suc j) (n / 2) (omega arith) (omega (arith, twice i)) (omega (arith, twice i)))) (cases_eq (n % 2) 0)
  where
    even : n % 2 ≡ 0 → Next d j n (rank (suc i) j n) (follow n)
    even z =
        let f : n / 2 ≡ (n + 1) / 2 = omega arith in
        let g : rank (suc i) j (n + 1) ≡ rank i (suc j) ((n + 1) / 2) + 2 * 2 ^ j = rank_odd i j (n + 1) (λ y. omega arith) in
        let k : rank i (suc j) (n / 2) ≡ rank i (suc j) ((n + 1) / 2) = ap (rank i (suc j)) f in
        let s : Level d j (n + 1) = record { down = suc i; levels = e; low = omega arith; high = omega (arith, twice i) } in
        subst (Next d j n (rank (suc i) j n)) (sym (rule.even n z)) (record { level = j; stands = s; begin = refl; ranked = omega (arith, rank_even i j n z, pow_pos j) })

    -- the parent of an upper half ends where the half ends
    parent : (n % 2 ≡ 0 → ⊥) → (n / 2 + 1) * 2 ^ suc j ≡ (n + 1) * 2 ^ j
    parent z = begin_half (n / 2 + 1) j ∙ ap (λ t. t * 2 ^ j) (omega arith)

    raise : (n % 2 ≡ 0 → ⊥) → (o : Option ℕ) → Next d (suc j) (n / 2) (rank i (suc j) (n / 2)) o → Next d j n (rank (suc i) j n) o
    raise z None a = sym (parent z) ∙ a
    raise z (Some m) a = record { level = a.level; stands = a.stands; begin = a.begin ∙ parent z; ranked = omega (arith, rank_odd i j n z, twice j, pow_pos j) }

    odd : (n % 2 ≡ 0 → ⊥) → Next d (suc j) (n / 2) (rank i (suc j) (n / 2)) (follow (n / 2)) → Next d j n (rank (suc i) j n) (follow n)
    odd z a = subst (Next d j n (rank (suc i) j n)) (sym (rule.odd n (omega arith) (omega (arith, twice i, pow_pos i)))) (raise z (follow (n / 2)) a)

-- the same of a range that has its place
pub follows : (d n b r : ℕ) → (p : Place d n b r) → Next d p.level n r (follow n)
follows d n b r p = subst (λ t. Next d p.level n t (follow n)) p.ranked (next d p.stands.down p.level n p.stands.levels p.stands.low p.stands.high)

-- the lower half of range n begins where n begins and comes right after n
pub lower_half : (d n b r : ℕ) → Place d n b r → n < 2 ^ d → Place d (2 * n) b (r + 1)
lower_half d n b r p h = go p.level p.stands.levels p.begin p.ranked
  where
    i : ℕ
    i = p.stands.down

    go : (j : ℕ) → i + j ≡ d → n * 2 ^ j ≡ b → rank i j n ≡ r → Place d (2 * n) b (r + 1)
    go zero e f g = absurd (omega (arith, ap (λ t. 2 ^ t) (sym e ∙ add-zero i)))
    go (suc j) e f g =
        let t : 2 * n / 2 ≡ n = omega arith in
        record {
          level = j;
          stands = record { down = suc i; levels = omega arith; low = omega (arith, twice i); high = omega (arith, twice i) };
          begin = sym (begin_half n j) ∙ f;
          ranked = rank_even i j (2 * n) (omega arith) ∙ ap (λ m. rank i (suc j) m + 1) t ∙ ap (λ m. m + 1) g;
        }

-- range 1 is the first
pub top_place : (d : ℕ) → Place d 1 (2 ^ d) 0
top_place d = record { level = d; stands = top_level d; begin = one-mul (2 ^ d); ranked = refl }
