-- The two digests, each a fold over the bytes of its input, from the first to the last.
use Rattle.std.specs.Prelude.{ℕ, ◌+◌, ◌*◌, ◌%◌, ◌^◌, List, fold, bit_xor}

-- FNV-1a of 64 bits: exclusive or with the byte, then multiplication modulo 2 to the power 64.
abbrev pub fnv_start : ℕ
fnv_start = 0xcbf29ce484222325

abbrev pub fnv_step : ℕ → ℕ → ℕ
fnv_step h b = bit_xor h b * 0x100000001b3 % 2 ^ 64

abbrev pub fnv : List ℕ → ℕ
fnv bs = fold fnv_step fnv_start bs

-- The sum of the bytes, modulo 65,536.
abbrev pub sum : List ℕ → ℕ
sum bs = fold (λ total b. total + b) 0 bs % 65536
