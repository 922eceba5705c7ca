-- The set of mast positions: a mask of those added and a mask of those removed, 64 positions each. 16 bytes.
use Rattle.std.specs.Prelude.{ℕ, ◌^◌, Bool, cond, ◌&&◌, List, ◌++◌, length, take, drop, Some, None, Option, ◌==◌, bit_or, nat_lt}
use Rattle.element.specs.Bytes.{be, number}
use Rattle.element.specs.Ruled.{Ruled}
use Rattle.kinds.specs.Masks.{contained}
use Rattle.kinds.specs.declared.set_record.SetRecord.{SetRecord}

abbrev pub set_of : ℕ → ℕ → SetRecord
set_of a r = record { added = a; removed = r }

-- The rule of a set, and its fields' widths, which every record of the machine keeps.
abbrev pub lawful_set : SetRecord → Bool
lawful_set x = nat_lt x.added (2 ^ 64) && (nat_lt x.removed (2 ^ 64) && contained x.added x.removed)

-- Join is the union of each mask. Bytes 0 to 7 are the mask added, 8 to 15 the mask removed.
abbrev pub position_set : Ruled SetRecord
position_set = record {
  width = 16;
  bottom = set_of 0 0;
  keeps = lawful_set;
  join = λ x y. set_of (bit_or x.added y.added) (bit_or x.removed y.removed);
  bytes = λ x. be 8 x.added ++ be 8 x.removed;
  spelt = λ bs. set_of (number (take 8 bs)) (number (take 8 (drop 8 bs)));
}

-- The record that bytes spell, lawful or not, where there are 16 of them.
abbrev pub spelt_set : List ℕ → Option SetRecord
spelt_set bs = cond (length bs == 16) (Some (position_set.spelt bs)) None
