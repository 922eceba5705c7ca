-- The courier: 64 places, and a list of picks (bytes) that say what becomes of the frames that wait.
use Rattle.std.specs.Prelude.{◌≡◌, ℕ, ◌+◌, ◌%◌, cond, List, [], ◌∷◌, ◌++◌, length, take, drop, Some, None, Option, nat_lt, slice_index_or}
use Rattle.channel.specs.Links.{Link}
use Rattle.channel.specs.Queues.{after_put}

-- The frames that wait, the oldest first, and the picks that are left, the next one first.
pub record Cargo : Type 0 where
  pub waiting : List (List ℕ)
  pub picks : List ℕ

-- What a take answers, and what it leaves.
pub record Pick : Type 0 where
  pub came : Option (List ℕ)
  pub left : Cargo

abbrev pub outcome : Option (List ℕ) → List (List ℕ) → List ℕ → Pick
outcome o ws ps = record { came = o; left = record { waiting = ws; picks = ps } }

-- The place that pick p names among n frames.
abbrev pub place : ℕ → ℕ → ℕ
place p n = p % n

-- With pick p, the next: below 128 the frame at its place is answered and stays; from 128 on it is removed, and none is
-- answered. The pick is used up.
abbrev pub by_pick : List (List ℕ) → ℕ → List ℕ → Pick
by_pick ws p ps =
    cond (nat_lt p 128)
    (outcome (Some (slice_index_or ws (place p (length ws)) [])) ws ps)
    (outcome None (take (place p (length ws)) ws ++ drop (place p (length ws) + 1) ws) ps)

-- With no frame or no pick left, a take answers none and uses none.
abbrev pub picked : List (List ℕ) → List ℕ → Pick
picked ws [] = outcome None ws []
picked [] (p ∷ ps) = outcome None [] (p ∷ ps)
picked (w ∷ ws) (p ∷ ps) = by_pick (w ∷ ws) p ps

-- What a put leaves.
abbrev pub stowed : Cargo → List ℕ → Cargo
stowed c f = record { waiting = after_put c.waiting f; picks = c.picks }

-- The channel, by what it carries. All frames that wait count as those that may arrive, whatever picks are left.
abbrev pub courier : {C : Type 0} → (C → Cargo) → Link C
courier held = record {
  may = λ c. (held c).waiting;
  puts = λ c f d. held d ≡ stowed (held c) f;
  takes = λ c o d. picked (held c).waiting (held c).picks ≡ record { came = o; left = held d };
}
