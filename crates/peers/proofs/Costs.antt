-- How many ranges a walk passes that splits only ranges with a key that passes a test.
use Rattle.std.proofs.Common.{◌≡◌, ℕ, zero, suc, ◌+◌, ◌-◌, ◌*◌, ◌/◌, ◌%◌, ◌^◌, ◌<◌, ◌≤◌, Bool, true, cond, eqb, List, [], ◌∷◌, length, Some, None, Option, sym, ap, ◌∙◌, subst, ap₂, ⊎_elim, add-zero, arith, pow_pos}
use Rattle.std.proofs.lemmas.Bool.{eq-eqb, ne_eqb, cases_eq, cases_lt}
use Rattle.tree.specs.Ranges.{Covers, Level}
use Rattle.tree.specs.Walk.{follow, Passed, settled, split, Walk}
use Rattle.tree.proofs.Powers.{twice, begin_half}
use Rattle.tree.proofs.Levels.{top_level, covers_among}
use Rattle.tree.proofs.Following.{rule}
use Rattle.peers.specs.Promise.{tally}

-- Range n, of 2 to the power d keys, has a key that passes the test.
pub record Marked (test : ℕ → Bool) (d n : ℕ) : Type 0 where
  pub key : ℕ
  pub below : key < 2 ^ d
  pub covers : Covers (2 ^ d) n key
  pub passes : test key ≡ true

-- Each range that a walk has split has such a key.
abbrev pub SplitsMarked : (ℕ → Bool) → ℕ → List Passed → Type 0
SplitsMarked test d [] = Unit {0}
SplitsMarked test d (settled n ∷ ps) = SplitsMarked test d ps
SplitsMarked test d (split n ∷ ps) = Marked test d n × SplitsMarked test d ps

-- below a larger bound no fewer keys pass
tally_grows : (test : ℕ → Bool) (a b : ℕ) → a ≤ b → tally test a ≤ tally test b
tally_grows test a zero h = let e : 0 ≡ a = omega arith in subst (λ t. tally test t ≤ 0) e (omega arith)
tally_grows test a (suc b) h =
    ⊎_elim
    (λ l. omega (arith, tally_grows test a b (omega arith)))
    (λ l. let e : suc b ≡ a = omega arith in subst (λ t. tally test t ≤ tally test (suc b)) e (omega arith))
    (cases_lt a (suc b))

-- past a key that passes, more do
tally_passes : (test : ℕ → Bool) (a k b : ℕ) → a ≤ k → k < b → test k ≡ true → tally test a < tally test b
tally_passes test a k b l h e =
    let s : tally test (suc k) ≡ 1 + tally test k = ap (λ c. cond c 1 0 + tally test k) e in
    omega (arith, tally_grows test a k l, tally_grows test (suc k) b h)

-- where a range has a key that passes, its cost allows for a step and for both halves
both_halves : (j a b m : ℕ) → m ≡ a + b → 1 ≤ m → 1 + (1 + 2 * (j * a)) + (1 + 2 * (j * b)) ≤ 1 + 2 * (suc j * m)
both_halves j a b m e h = omega (arith, ap (λ t. j * t) e)

module _ (d : ℕ) (test : ℕ → Bool) where
  -- How many of the keys before x, counted from N, pass.
  abbrev before : ℕ → ℕ
  before x = tally test (x - 2 ^ d)

  before_grows : (x y : ℕ) → x ≤ y → before x ≤ before y
  before_grows x y h = tally_grows test (x - 2 ^ d) (y - 2 ^ d) (omega arith)

  -- How many of the keys of range n, which stands at level j, pass.
  unfoldable marks : ℕ → ℕ → ℕ
  marks j n = before ((n + 1) * 2 ^ j) - before (n * 2 ^ j)

  -- those of its two halves together
  marks_halves : (j n : ℕ) → marks (suc j) n ≡ marks j (2 * n) + marks j (2 * n + 1)
  unfolding marks
  marks_halves j n =
      let e : (n + 1) * 2 ^ suc j ≡ (2 * n + 1 + 1) * 2 ^ j = begin_half (n + 1) j ∙ ap (λ t. t * 2 ^ j) (omega arith) in
      let g = before_grows (2 * n * 2 ^ j) ((2 * n + 1) * 2 ^ j) (omega arith) in
      let h = before_grows ((2 * n + 1) * 2 ^ j) ((2 * n + 1 + 1) * 2 ^ j) (omega arith) in
      ap₂ (λ x y. before x - before y) e (begin_half n j) ∙ omega arith

  -- of range 1, all that pass
  marks_top : marks d 1 ≡ tally test (2 ^ d)
  unfolding marks
  marks_top =
      let e : 2 * 2 ^ d - 2 ^ d ≡ 2 ^ d = omega arith in
      let f : 1 * 2 ^ d - 2 ^ d ≡ 0 = omega arith in
      ap₂ (λ x y. tally test x - tally test y) e f ∙ omega arith

  -- at least one where there is one
  marks_marked : (j n : ℕ) → Level d j n → Marked test d n → 1 ≤ marks j n
  unfolding marks
  marks_marked j n s m =
      let a = covers_among d j n m.key s m.below m.covers in
      omega (arith, tally_passes test (n * 2 ^ j - 2 ^ d) m.key ((n + 1) * 2 ^ j - 2 ^ d) (omega arith) (omega arith) m.passes)

  -- The most steps that a walk takes in range n, which stands at level j.
  abbrev cost : ℕ → ℕ → ℕ
  cost j n = 1 + 2 * (j * marks j n)

  -- The most steps after range n, which stands i levels below range 1: those in the upper half beside it, where n is the
  -- lower, and those after its parent.
  abbrev rest : ℕ → ℕ → ℕ → ℕ
  rest zero j n = 0
  rest (suc i) j n = cond (eqb (n % 2) 0) (cost j (n + 1)) 0 + rest i (suc j) (n / 2)

  -- after a lower half, and after an upper
  rest_even : (i j n : ℕ) → n % 2 ≡ 0 → rest (suc i) j n ≡ cost j (n + 1) + rest i (suc j) (n / 2)
  rest_even i j n e = ap (λ b. cond b (cost j (n + 1)) 0 + rest i (suc j) (n / 2)) (eq-eqb (n % 2) 0 e)

  rest_odd : (i j n : ℕ) → (n % 2 ≡ 0 → ⊥) → rest (suc i) j n ≡ rest i (suc j) (n / 2)
  rest_odd i j n e = ap (λ b. cond b (cost j (n + 1)) 0 + rest i (suc j) (n / 2)) (ne_eqb (n % 2) 0 e) ∙ omega arith

  -- A walk at range n has taken c steps: with those in n and after it, at most the cost of range 1.
  record Within (n c : ℕ) : Type 0 where
    level : ℕ
    stands : Level d level n
    few : c + cost level n + rest stands.down level n ≤ cost d 1

  -- The same of a walk at this range, or at its end.
  abbrev Spent : ℕ → Option ℕ → Type 0
  Spent c None = c ≤ cost d 1
  Spent c (Some n) = Within n c

  -- it goes on to what follows a range, by induction on the levels below range 1
  next : (i j n c : ℕ) → i + j ≡ d → 2 ^ i ≤ n → n < 2 * 2 ^ i → c + rest i j n ≤ cost d 1 → Spent c (follow n)
  next zero j n c e l h few =
      let f : 1 ≡ n = omega arith in
      subst (λ t. Spent c (follow t)) f (subst (Spent c) (sym rule.one) (omega arith))
  next (suc i) j n c e l h few = ⊎_elim even (λ z. odd z (next i (suc j) (n / 2) c (omega arith) (omega (arith, twice i)) (omega (arith, twice i)))) (cases_eq (n % 2) 0)
    where
      even : n % 2 ≡ 0 → Spent c (follow n)
      even z =
          let f : n / 2 ≡ (n + 1) / 2 = omega arith in
          let g : rest i (suc j) (n / 2) ≡ rest i (suc j) ((n + 1) / 2) = ap (rest i (suc j)) f in
          let s : Level d j (n + 1) = record { down = suc i; levels = e; low = omega arith; high = omega (arith, twice i) } in
          subst (Spent c) (sym (rule.even n z)) (record { level = j; stands = s; few = omega (arith, rest_even i j n z, rest_odd i j (n + 1) (λ y. omega arith)) })

      odd : (n % 2 ≡ 0 → ⊥) → (c + rest i (suc j) (n / 2) ≤ cost d 1 → Spent c (follow (n / 2))) → Spent c (follow n)
      odd z a = subst (Spent c) (sym (rule.odd n (omega arith) (omega (arith, twice i, pow_pos i)))) (a (omega (arith, rest_odd i j n z)))

  -- after a range that was settled
  settles : (n c : ℕ) → Within n c → Spent (suc c) (follow n)
  settles n c at = next at.stands.down at.level n (suc c) at.stands.levels at.stands.low at.stands.high (omega arith)

  -- at the lower half of one that was split
  splits : (n c : ℕ) → Within n c → n < 2 ^ d → Marked test d n → Within (2 * n) (suc c)
  splits n c at h m = go at.level at.stands.levels at.few (marks_marked at.level n at.stands m)
    where
      i : ℕ
      i = at.stands.down

      go : (j : ℕ) → i + j ≡ d → c + cost j n + rest i j n ≤ cost d 1 → 1 ≤ marks j n → Within (2 * n) (suc c)
      go zero e f g = absurd (omega (arith, ap (λ t. 2 ^ t) (sym e ∙ add-zero i)))
      go (suc j) e f g =
          let t : rest i (suc j) (2 * n / 2) ≡ rest i (suc j) n = ap (rest i (suc j)) (omega arith) in
          let u = both_halves j (marks j (2 * n)) (marks j (2 * n + 1)) (marks (suc j) n) (marks_halves j n) g in
          record {
            level = j;
            stands = record { down = suc i; levels = omega arith; low = omega (arith, twice i); high = omega (arith, twice i) };
            few = omega (arith, rest_even i j (2 * n) (omega arith));
          }

  -- at range 1
  start : Within 1 0
  start = record { level = d; stands = top_level d; few = omega arith }

  -- so it is all along a walk
  spent : (ps : List Passed) (at : Option ℕ) → Walk d ps at → SplitsMarked test d ps → Spent (length ps) at
  spent [] at w m = subst (Spent 0) (sym w) start
  spent (settled n ∷ ps) at w m = subst (Spent (suc (length ps))) (sym w.1) (settles n (length ps) (spent ps (Some n) w.0 m))
  spent (split n ∷ ps) at w m = subst (Spent (suc (length ps))) (sym w.2) (splits n (length ps) (spent ps (Some n) w.0 m.1) w.1 m.0)

-- and at its end the cost of range 1 is the bound
pub walk_cost : (d : ℕ) (test : ℕ → Bool) (ps : List Passed) → Walk d ps None → SplitsMarked test d ps → length ps ≤ 1 + 2 * d * tally test (2 ^ d)
walk_cost d test ps w m = let s = spent d test ps None w m in omega (arith, ap (λ t. d * t) (marks_top d test))
