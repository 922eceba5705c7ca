-- What a channel means, and what every channel shows. A frame is here a byte string.
use Rattle.std.specs.Prelude.{◌≡◌, ℕ, ◌≤◌, ◌⊎◌, List, length, Some, Option}
use mathlib.Core.List.{Memᴰ}

-- A channel C by the frames that may still arrive, and by what a put and a take do. Each channel says exactly what its
-- own do; code over any channel knows only what the law `Fair` says.
pub record Link (C : Type 0) : Type 1 where
  -- the frames that may still arrive
  pub may : C → List (List ℕ)
  -- a put of a frame, from the channel before to the channel after
  pub puts : C → List ℕ → C → Type 0
  -- a take: none, or the frame that came
  pub takes : C → Option (List ℕ) → C → Type 0

-- Frame f may arrive from channel c.
abbrev pub Arrives : {C : Type 0} → Link C → C → List ℕ → Type 0
Arrives l c f = Memᴰ f (l.may c)

-- A frame that a channel carries has from 1 to 71 bytes. Any other is lost.
pub record Carried (f : List ℕ) : Type 0 where
  pub some : 1 ≤ length f
  pub few : length f ≤ 71

pub record Fair {C : Type 0} (l : Link C) : Type 0 where
  -- after a put a frame may arrive only if it could before, or is the one put and can be carried
  pub put : (c d : C) (f g : List ℕ) → l.puts c f d → Arrives l d g → Arrives l c g ⊎ ((g ≡ f) × Carried f)
  -- a take answers none, or a frame that might arrive
  pub took : (c d : C) (f : List ℕ) → l.takes c (Some f) d → Arrives l c f
  -- and afterwards no frame may arrive that could not before
  pub left : (c d : C) (o : Option (List ℕ)) (g : List ℕ) → l.takes c o d → Arrives l d g → Arrives l c g
