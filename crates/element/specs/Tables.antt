-- A table of elements, one record for each key from 0 on, and an element joined into one of its keys.
use Rattle.std.specs.Prelude.{ℕ, cond, List, length, Ok, Err, Result, nat_lt, slice_index_or, slice_set}
use Rattle.element.specs.Model.{Model}
use Rattle.element.specs.declared.refusal.Refusal.{Refusal}
use Rattle.element.specs.declared.refusal.Refusal.TheVariants.{Key}

module _ {R : Type 0} (m : Model R) (table : List R) (key : ℕ) (x : R) where
  -- What the key then holds. `slice_index_or` answers its default, bottom, where there is no such key.
  abbrev pub held_at : R
  held_at = m.joined (slice_index_or table key m.bottom) x

  -- The table then: no other key has changed. `slice_set` past the end changes nothing, so where there is no such key the
  -- whole table is as it was.
  abbrev pub joined_at : List R
  joined_at = slice_set table key held_at

  -- The answer: what the key then holds, or that there is no such key.
  abbrev pub answered_at : Result R Refusal
  answered_at = cond (nat_lt key (length table)) (Ok held_at) (Err Key)
