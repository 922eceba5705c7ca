-- Element types whose records have a rule: a record that breaks it stands for bottom.
use Rattle.std.specs.Prelude.{ℕ, Bool, cond, ◌&&◌, List, length, Some, None, ◌==◌}
use Rattle.element.specs.Model.{Model}

-- Such a type says what join and the bytes are of records that keep the rule.
pub record Ruled (R : Type 0) : Type 0 where
  pub width : ℕ
  pub bottom : R
  -- whether a record keeps the rule
  pub keeps : R → Bool
  pub join : R → R → R
  pub bytes : R → List ℕ
  -- the record that a byte string of the width spells, lawful if that record keeps the rule
  pub spelt : List ℕ → R

module _ {R : Type 0} (k : Ruled R) where
  -- What a record stands for: itself where it keeps the rule, and bottom where it breaks it.
  abbrev pub meant : R → R
  meant x = cond (k.keeps x) x k.bottom

  -- The model: join and bytes are those of what the records stand for.
  abbrev pub ruled : Model R
  ruled = record {
    width = k.width;
    bottom = k.bottom;
    means = meant;
    joined = λ x y. k.join (meant x) (meant y);
    written = λ x. k.bytes (meant x);
    parsed = λ bs. cond (length bs == k.width && k.keeps (k.spelt bs)) (Some (k.spelt bs)) None;
  }
