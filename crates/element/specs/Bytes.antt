-- Byte strings, as lists of numbers below 256, and integers in them: big-endian and unsigned.
use Rattle.std.specs.Prelude.{ℕ, zero, suc, ◌+◌, ◌*◌, ◌/◌, ◌%◌, ◌^◌, ◌<◌, cond, List, [], ◌∷◌, ◌++◌, length, drop, nat_le}
use Rattle.std.specs.List.{AllByRecursion}

-- The numbers of bs are bytes.
abbrev pub ByteString : List ℕ → Type 0
ByteString bs = AllByRecursion (λ b. b < 256) bs

-- The k lowest bytes of n, the highest of them first.
abbrev pub be : ℕ → ℕ → List ℕ
be zero n = []
be (suc k) n = n / 256 ^ k % 256 ∷ be k n

-- The number whose digits to the base 256 are a, and then bs.
abbrev pub after : ℕ → List ℕ → ℕ
after a [] = a
after a (b ∷ bs) = after (a * 256 + b) bs

-- The number that bs spells.
abbrev pub number : List ℕ → ℕ
number bs = after 0 bs

-- bs written over the front of out, or out as it is where it is too short for that.
abbrev pub placed : List ℕ → List ℕ → List ℕ
placed bs out = cond (nat_le (length bs) (length out)) (bs ++ drop (length bs) out) out
