-- The in-order channel: 64 places, first in, first out.
use Rattle.std.specs.Prelude.{◌≡◌, ◌≤◌, ℕ, Bool, cond, ◌&&◌, List, [], ◌∷◌, ◌++◌, length, drop, Some, None, Option, nat_le, nat_lt}
use mathlib.Core.List.{Memᴰ}
use Rattle.channel.specs.Links.{Link}

-- Among n places wait at most n frames, and none of more than 71 bytes.
pub record WaitIn (n : ℕ) (ws : List (List ℕ)) : Type 0 where
  pub many : length ws ≤ n
  pub few : (f : List ℕ) → Memᴰ f ws → length f ≤ 71

-- A put among n places keeps frame f where fewer than n frames wait and f can be carried. Else f is lost.
abbrev pub kept : ℕ → List (List ℕ) → List ℕ → Bool
kept n ws f = nat_lt (length ws) n && (nat_le 1 (length f) && nat_le (length f) 71)

-- What waits among n places after a put: a frame that is kept joins at the end.
abbrev pub put_among : ℕ → List (List ℕ) → List ℕ → List (List ℕ)
put_among n ws f = cond (kept n ws f) (ws ++ (f ∷ [])) ws

abbrev pub after_put : List (List ℕ) → List ℕ → List (List ℕ)
after_put ws f = put_among 64 ws f

-- The first that waits.
abbrev pub first : List (List ℕ) → Option (List ℕ)
first [] = None
first (f ∷ ws) = Some f

-- A take answers it and removes it.
pub record Shifted (ws : List (List ℕ)) (o : Option (List ℕ)) (vs : List (List ℕ)) : Type 0 where
  pub came : o ≡ first ws
  pub rest : vs ≡ drop 1 ws

-- The channel, by what waits in it.
abbrev pub queue : {C : Type 0} → (C → List (List ℕ)) → Link C
queue waiting = record {
  may = waiting;
  puts = λ c f d. waiting d ≡ after_put (waiting c) f;
  takes = λ c o d. Shifted (waiting c) o (waiting d);
}
