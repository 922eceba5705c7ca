-- The pair of two elements, part by part.
use Rattle.std.specs.Prelude.{◌+◌, cond, ◌++◌, length, take, drop, Some, None, Option, ◌==◌}
use Rattle.element.specs.Model.{Model}
use Rattle.element.specs.declared.pair.Pair.{Pair}

abbrev pub pair_of : {A B : Type 0} → A → B → Pair A B
pair_of x y = record { first = x; second = y }

-- A pair, where both parts are there.
abbrev pub both : {A B : Type 0} → Option A → Option B → Option (Pair A B)
both (Some x) (Some y) = Some (pair_of x y)
both (Some x) None = None
both None y = None

-- The bytes are the first's and then the second's.
abbrev pub pair : {A B : Type 0} → Model A → Model B → Model (Pair A B)
pair m n = record {
  width = m.width + n.width;
  bottom = pair_of m.bottom n.bottom;
  means = λ x. pair_of (m.means x.first) (n.means x.second);
  joined = λ x y. pair_of (m.joined x.first y.first) (n.joined x.second y.second);
  written = λ x. m.written x.first ++ n.written x.second;
  parsed = λ bs. cond (length bs == m.width + n.width) (both (m.parsed (take m.width bs)) (n.parsed (drop m.width bs))) None;
}
