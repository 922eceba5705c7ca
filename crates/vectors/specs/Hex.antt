-- Hexadecimal digits, by their codes in ASCII.
use Rattle.std.specs.Prelude.{ℕ, ◌+◌, ◌-◌, cond, ◌&&◌, Some, None, Option, nat_le}

-- The value of a digit, from `0` (48) to `9` (57) or from `a` (97) to `f` (102).
abbrev pub hex_value : ℕ → Option ℕ
hex_value b =
    cond (nat_le 48 b && nat_le b 57) (Some (b - 48))
    (cond (nat_le 97 b && nat_le b 102) (Some (b - 97 + 10)) None)
