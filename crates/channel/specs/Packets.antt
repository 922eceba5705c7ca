-- Packets: frames as a channel keeps them, in memory of their own.
use Rattle.std.specs.Prelude.{◌≡◌, ℕ, ◌-◌, ◌≤◌, List, ◌++◌, length, drop, replicate}

-- The memory of a packet that holds the frame f: the frame, and zeros behind it.
abbrev pub padded : List ℕ → List ℕ
padded f = f ++ replicate (71 - length f) 0

-- The 71 bytes bs hold a frame of n bytes, and zeros behind it.
pub record Padded (bs : List ℕ) (n : ℕ) : Type 0 where
  pub full : length bs ≡ 71
  pub room : n ≤ 71
  pub zeros : drop n bs ≡ replicate (71 - n) 0
