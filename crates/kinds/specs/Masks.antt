-- The rule of a set of mast positions. Bit k of a mask, counted from the lowest, is position k.
use Rattle.std.specs.Prelude.{ℕ, Bool, ◌==◌, bit_or}

-- Nothing is removed that was not added: the positions removed add none to those added.
abbrev pub contained : ℕ → ℕ → Bool
contained added removed = bit_or added removed == added
