-- What a running round knows of its walk.
use Rattle.std.specs.Prelude.{◌≡◌, ℕ, ◌^◌, List, length, Some}
use Rattle.tree.specs.Walk.{Passed, Walk}

-- Over N keys, a walk that is at this range has passed as many ranges as were counted.
pub record Walked (N range count : ℕ) : Type 0 where
  pub depth : ℕ
  pub power : N ≡ 2 ^ depth
  pub passed : List Passed
  pub walk : Walk depth passed (Some range)
  pub counted : length passed ≡ count
