-- The register: a height with the stamp and the office of the entry that set it. 14 bytes.
use Rattle.std.specs.Prelude.{ℕ, ◌^◌, Bool, cond, ◌&&◌, List, ◌++◌, take, drop, ◌==◌, nat_lt}
use Rattle.element.specs.Bytes.{be, number}
use Rattle.element.specs.Ruled.{Ruled}
use Rattle.kinds.specs.declared.register.Register.{Register}

abbrev pub register_of : ℕ → ℕ → ℕ → Register
register_of s o v = record { stamp = s; office = o; value = v }

-- The only rule of a register is its fields' widths, which every record of the machine keeps.
abbrev pub fits : Register → Bool
fits x = nat_lt x.stamp (2 ^ 64) && (nat_lt x.office (2 ^ 16) && nat_lt x.value (2 ^ 32))

-- x is less than y: by stamp, then by office, then by value.
abbrev pub before : Register → Register → Bool
before x y =
    cond (x.stamp == y.stamp)
    (cond (x.office == y.office) (nat_lt x.value y.value) (nat_lt x.office y.office))
    (nat_lt x.stamp y.stamp)

-- Bytes 0 to 7 are the stamp, 8 and 9 the office, 10 to 13 the value.
abbrev pub register_bytes : Register → List ℕ
register_bytes x = be 8 x.stamp ++ (be 2 x.office ++ be 4 x.value)

-- Join takes the greater. Every string of 14 bytes is lawful.
abbrev pub register : Ruled Register
register = record {
  width = 14;
  bottom = register_of 0 0 0;
  keeps = fits;
  join = λ x y. cond (before x y) y x;
  bytes = register_bytes;
  spelt = λ bs. register_of (number (take 8 bs)) (number (take 2 (drop 8 bs))) (number (take 4 (drop 10 bs)));
}
