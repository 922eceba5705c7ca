-- A walk goes forward: what holds at each range that it comes to.
use Rattle.std.proofs.Common.{◌≡◌, ℕ, ◌+◌, ◌-◌, ◌*◌, ◌^◌, ◌<◌, ◌≤◌, ◌⊎◌, List, [], ◌∷◌, length, Some, None, Option, sym, ap, subst, inl, inr, ⊎_elim, mul-le-mul_right, arith, pow_pos, pow_mono}
use Rattle.std.proofs.lemmas.Bool.{cases_lt}
use Rattle.tree.specs.Ranges.{Covers}
use Rattle.tree.specs.Walk.{follow, Passed, settled, split, Walk, HasPassed, SettledKey, Before, Preorder}
use Rattle.tree.proofs.Levels.{one_level, covers_among, among_covers}
use Rattle.tree.proofs.Places.{Place, Next, one_rank, room, follows, lower_half, top_place}

-- Range m has its place, with fewer than r ranges before it.
record Behind (d r m : ℕ) : Type 0 where
  begin : ℕ
  rank : ℕ
  place : Place d m begin rank
  less : rank < r

-- Exactly the keys before b, counted from N, are settled.
abbrev SettledBefore : ℕ → List Passed → ℕ → Type 0
SettledBefore d ps b = (k : ℕ) → k < 2 ^ d → (SettledKey d k ps → 2 ^ d + k < b) × (2 ^ d + k < b → SettledKey d k ps)

-- What holds of a walk at range n.
record Reached (d : ℕ) (ps : List Passed) (n : ℕ) : Type 0 where
  begin : ℕ
  rank : ℕ
  place : Place d n begin rank
  count : length ps ≤ rank
  past : (m : ℕ) → HasPassed m ps → Behind d rank m
  keys : SettledBefore d ps begin

-- it holds at range 1
start : (d : ℕ) → Reached d [] 1
start d =
    record {
      begin = 2 ^ d;
      rank = 0;
      place = top_place d;
      count = omega arith;
      past = λ m p. absurd p;
      keys = λ k h. (λ p. absurd p, λ l. absurd (omega arith));
    }

-- where n lies behind a place, so do all ranges passed with it
passed : (d : ℕ) (ps : List Passed) (n r : ℕ) (at : Reached d ps n) → at.rank < r → (m : ℕ) → (m ≡ n) ⊎ HasPassed m ps → Behind d r m
passed d ps n r at l m (inl e) = subst (Behind d r) (sym e) (record { begin = at.begin; rank = at.rank; place = at.place; less = l })
passed d ps n r at l m (inr p) = let b = at.past m p in record { begin = b.begin; rank = b.rank; place = b.place; less = omega arith }

-- once n is settled, so are the keys up to the end of n
settles : (d : ℕ) (ps : List Passed) (n : ℕ) (at : Reached d ps n) → SettledBefore d (settled n ∷ ps) ((n + 1) * 2 ^ at.place.level)
settles d ps n at k h = (below, above)
  where
    j : ℕ
    j = at.place.level

    wider : n * 2 ^ j ≤ (n + 1) * 2 ^ j
    wider = mul-le-mul_right (2 ^ j) (omega arith)

    below : Covers (2 ^ d) n k ⊎ SettledKey d k ps → 2 ^ d + k < (n + 1) * 2 ^ j
    below (inl c) = (covers_among d j n k at.place.stands h c).below
    below (inr s) = omega (arith, (at.keys k h).0 s, wider)

    above : 2 ^ d + k < (n + 1) * 2 ^ j → Covers (2 ^ d) n k ⊎ SettledKey d k ps
    above l =
        ⊎_elim
        (λ b. inr ((at.keys k h).1 b))
        (λ b. inl (among_covers d j n k at.place.stands (record { from = omega arith; below = l })))
        (cases_lt (2 ^ d + k) at.begin)

-- at the range after one that was settled
after : (d : ℕ) (ps : List Passed) (n m : ℕ) → Reached d ps n → Some m ≡ follow n → Reached d (settled n ∷ ps) m
after d ps n m at e =
    record {
      begin = (n + 1) * 2 ^ j;
      rank = r;
      place = subst (Next d j n at.rank) (sym e) (follows d n at.begin at.rank at.place);
      count = omega (arith, later);
      past = passed d ps n r at later;
      keys = settles d ps n at;
    }
  where
    j : ℕ
    j = at.place.level

    r : ℕ
    r = at.rank + (2 * 2 ^ j - 1)

    later : at.rank < r
    later = omega (arith, pow_pos j)

-- at the lower half of one that was split
halve : (d : ℕ) (ps : List Passed) (n : ℕ) → Reached d ps n → n < 2 ^ d → Reached d (split n ∷ ps) (2 * n)
halve d ps n at h =
    record {
      begin = at.begin;
      rank = at.rank + 1;
      place = lower_half d n at.begin at.rank at.place h;
      count = omega arith;
      past = passed d ps n (at.rank + 1) at (omega arith);
      keys = at.keys;
    }

-- so it holds at every range
reached : (d : ℕ) (ps : List Passed) (n : ℕ) → Walk d ps (Some n) → Reached d ps n
reached d [] n w = let e : 1 ≡ n = cc in subst (Reached d []) e (start d)
reached d (settled m ∷ ps) n w = after d ps m n (reached d ps m w.0) w.1
reached d (split m ∷ ps) n w = let e : 2 * m ≡ n = cc in subst (Reached d (split m ∷ ps)) e (halve d ps m (reached d ps m w.0) w.1)

-- a walk stays among the ranges
in_range : (d : ℕ) (ps : List Passed) (n : ℕ) → Walk d ps (Some n) → (1 ≤ n) × (n < 2 * 2 ^ d)
in_range d ps n w =
    let s = (reached d ps n w).place.stands in
    (omega (arith, pow_pos s.down), omega (arith, pow_mono {i = s.down} {j = d} (omega arith)))

-- it passes none twice
never_again : (d : ℕ) (ps : List Passed) (n : ℕ) → Walk d ps (Some n) → HasPassed n ps → ⊥
never_again d ps n w p =
    let at = reached d ps n w in
    let b = at.past n p in
    omega (arith, one_rank d n at.begin b.begin at.rank b.rank at.place b.place)

-- a walk at a range has passed at most all others
fewer : (d : ℕ) (ps : List Passed) (n : ℕ) → Reached d ps n → length ps + 1 < 2 * 2 ^ d
fewer d ps n at =
    let p = at.place in
    omega (arith, room d p.stands.down p.level n p.stands.levels, pow_pos p.level)

-- in all it passes at most 2N - 1
at_most : (d : ℕ) (ps : List Passed) (at : Option ℕ) → Walk d ps at → length ps < 2 * 2 ^ d
at_most d [] at w = omega (arith, pow_pos d)
at_most d (settled n ∷ ps) at w = omega (arith, fewer d ps n (reached d ps n w.0))
at_most d (split n ∷ ps) at w = omega (arith, fewer d ps n (reached d ps n w.0))

-- at the end of a walk all keys are settled
settled_all : (d : ℕ) (ps : List Passed) (k : ℕ) → Walk d ps None → k < 2 ^ d → SettledKey d k ps
settled_all d [] k w h = let z : ◌≡◌ {A = ℕ} 0 1 = cc in absurd (omega arith)
settled_all d (settled n ∷ ps) k w h =
    let at = reached d ps n w.0 in
    let e : (n + 1) * 2 ^ at.place.level ≡ 2 * 2 ^ d = subst (Next d at.place.level n at.rank) (sym w.1) (follows d n at.begin at.rank at.place) in
    (settles d ps n at k h).1 (omega arith)
settled_all d (split n ∷ ps) k w h = let z : ◌≡◌ {A = ℕ} 0 1 = cc in absurd (omega arith)

-- before the range at which it is come exactly the settled keys
settled_before : (d : ℕ) (ps : List Passed) (at : Option ℕ) (k : ℕ) → Walk d ps at → k < 2 ^ d → (SettledKey d k ps → Before d k at) × (Before d k at → SettledKey d k ps)
settled_before d ps None k w h = (λ s. tt, λ b. settled_all d ps k w h)
settled_before d ps (Some n) k w h = (before, within)
  where
    at : Reached d ps n
    at = reached d ps n w

    before : SettledKey d k ps → Before d k (Some n)
    before s = (at.place.level, at.place.stands, omega (arith, (at.keys k h).0 s, at.place.begin))

    within : Before d k (Some n) → SettledKey d k ps
    within (j, s, l) =
        let e : n * 2 ^ j ≡ n * 2 ^ at.place.level = ap (λ t. n * 2 ^ t) (one_level d j at.place.level n s at.place.stands) in
        (at.keys k h).1 (omega (arith, at.place.begin))

pub preorder : (d : ℕ) → Preorder d
preorder d = record { ranges = in_range d; once = never_again d; few = at_most d; keys = settled_before d }
