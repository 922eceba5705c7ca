-- Equality and order of elements, by what their records stand for. `Same` and `AtMost` are records of one fact each, so
-- that a proof can find their arguments x and y from their types.
use Rattle.std.specs.Prelude.{◌≡◌}
use Rattle.element.specs.Model.{Model}

module _ {R : Type 0} (m : Model R) where
  -- x and y stand for one element.
  pub record Same (x y : R) : Type 0 where
    pub is : m.means x ≡ m.means y

  -- x is at most y: their join is what y stands for.
  pub record AtMost (x y : R) : Type 0 where
    pub is : m.joined x y ≡ m.means y

  -- It is an order of elements, with bottom the least, in which join is the least upper bound.
  pub record Order : Type 0 where
    pub reflexive : (x y : R) → Same x y → AtMost x y
    pub transitive : (x y z : R) → AtMost x y → AtMost y z → AtMost x z
    pub antisymmetric : (x y : R) → AtMost x y → AtMost y x → Same x y
    pub bottom_least : (x : R) → AtMost m.bottom x
    pub join_above : (x y : R) → AtMost x (m.joined x y) × AtMost y (m.joined x y)
    pub join_least : (x y z : R) → AtMost x z → AtMost y z → AtMost (m.joined x y) z
