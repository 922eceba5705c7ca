-- The counter of field samples: eight seats, one for each field party, of 32 bits. 32 bytes.
use Rattle.std.specs.Prelude.{ℕ, zero, suc, ◌^◌, max, Bool, true, false, ◌&&◌, List, [], ◌∷◌, take, drop, replicate, nat_lt}
use Rattle.std.specs.List.{flat_map as each}
use Rattle.element.specs.Bytes.{be, number}
use Rattle.element.specs.Ruled.{Ruled}
use Rattle.kinds.specs.declared.counter.Counter.{Counter}

-- The record of these seats.
abbrev pub counter_of : List ℕ → Counter
counter_of xs = record { seats = xs }

-- There are n seats, each of 32 bits, which every record of the machine keeps.
abbrev pub seated : ℕ → List ℕ → Bool
seated zero [] = true
seated zero (x ∷ xs) = false
seated (suc n) [] = false
seated (suc n) (x ∷ xs) = nat_lt x (2 ^ 32) && seated n xs

-- The greater in each seat.
abbrev pub maxima : List ℕ → List ℕ → List ℕ
maxima [] ys = []
maxima (x ∷ xs) [] = []
maxima (x ∷ xs) (y ∷ ys) = max x y ∷ maxima xs ys

-- The bytes of all seats, four for each.
abbrev pub words : List ℕ → List ℕ
words xs = each (be 4) xs

-- The n seats that bytes spell, four bytes for each.
abbrev pub words_in : ℕ → List ℕ → List ℕ
words_in zero bs = []
words_in (suc n) bs = number (take 4 bs) ∷ words_in n (drop 4 bs)

-- Every string of 32 bytes is lawful.
abbrev pub counter : Ruled Counter
counter = record {
  width = 32;
  bottom = counter_of (replicate 8 0);
  keeps = λ x. seated 8 x.seats;
  join = λ x y. counter_of (maxima x.seats y.seats);
  bytes = λ x. words x.seats;
  spelt = λ bs. counter_of (words_in 8 bs);
}
