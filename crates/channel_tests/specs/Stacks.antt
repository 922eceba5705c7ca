-- A stack of 4 places: the frame that was put last comes first.
use Rattle.std.specs.Prelude.{◌≡◌, ℕ, List, [], ◌∷◌, ◌++◌, Some, None, Option}
use Rattle.channel.specs.Links.{Link}
use Rattle.channel.specs.Queues.{put_among}

-- A take answers the last of the frames ws and leaves vs, or answers none where there is none.
abbrev pub Popped : List (List ℕ) → Option (List ℕ) → List (List ℕ) → Type 0
Popped ws None vs = (ws ≡ []) × (vs ≡ [])
Popped ws (Some f) vs = ws ≡ vs ++ (f ∷ [])

abbrev pub stack : {C : Type 0} → (C → List (List ℕ)) → Link C
stack waiting = record {
  may = waiting;
  puts = λ c f d. waiting d ≡ put_among 4 (waiting c) f;
  takes = λ c o d. Popped (waiting c) o (waiting d);
}
