-- What an element type is: the ghost meaning of the trait `Element`, and the laws that each implementation shows.
use Rattle.std.specs.Prelude.{◌≡◌, ℕ, ◌≤◌, List, length, Some, Option}
use Rattle.element.specs.Bytes.{ByteString}

-- A table holds plain records of a type R. Each record stands for an element, and `means` answers that element's own
-- record. In the models made by `Ruled` and `pair`, a record that keeps its type's rule stands for itself, and one that
-- breaks it stands for bottom (a pair part by part).
pub record Model (R : Type 0) : Type 0 where
  -- how many bytes each element has
  pub width : ℕ
  -- the record of the least element
  pub bottom : R
  -- the record of the element that a record stands for
  pub means : R → R
  -- the record of the join of what two records stand for
  pub joined : R → R → R
  -- the bytes of the element that a record stands for
  pub written : R → List ℕ
  -- the record of the element that has these bytes, or none where they are not lawful
  pub parsed : List ℕ → Option R

-- The laws ask that join and bytes see only what a record stands for: join by `join_sees`, bytes by `read_back` and
-- `write_back`. So they hold of all records, also of those that break a rule.
pub record Laws {R : Type 0} (m : Model R) : Type 0 where
  -- the width is from 1 to 64
  pub width_low : 1 ≤ m.width
  pub width_high : m.width ≤ 64
  -- join is associative, commutative and idempotent, and bottom is the least
  pub join_assoc : (x y z : R) → m.joined (m.joined x y) z ≡ m.joined x (m.joined y z)
  pub join_comm : (x y : R) → m.joined x y ≡ m.joined y x
  pub join_idem : (x : R) → m.joined x x ≡ m.means x
  pub join_bottom : (x : R) → m.joined m.bottom x ≡ m.means x
  -- join sees only what a record stands for, and gives a record that stands for itself, as bottom does
  pub join_sees : (x y : R) → m.joined (m.means x) y ≡ m.joined x y
  pub join_means : (x y : R) → m.means (m.joined x y) ≡ m.joined x y
  pub bottom_means : m.means m.bottom ≡ m.bottom
  -- writing gives lawful bytes of the width, which read back as the element
  pub written_long : (x : R) → length (m.written x) ≡ m.width
  pub written_bytes : (x : R) → ByteString (m.written x)
  pub read_back : (x : R) → m.parsed (m.written x) ≡ Some (m.means x)
  -- lawful bytes, read and written, are the same
  pub write_back : (bs : List ℕ) → ByteString bs → (x : R) → m.parsed bs ≡ Some x → m.written x ≡ bs
