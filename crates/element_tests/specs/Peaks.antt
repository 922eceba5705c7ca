-- An element that is not among those supplied: one byte, of which the greater wins.
use Rattle.std.specs.Prelude.{ℕ, max, [], ◌∷◌, nat_lt, slice_index}
use Rattle.element.specs.Ruled.{Ruled}
use Rattle.element_tests.specs.declared.peak.Peak.{Peak}

abbrev pub peak_of : ℕ → Peak
peak_of n = record { value = n }

abbrev pub peak : Ruled Peak
peak = record {
  width = 1;
  bottom = peak_of 0;
  keeps = λ x. nat_lt x.value 256;
  join = λ x y. peak_of (max x.value y.value);
  bytes = λ x. x.value ∷ [];
  spelt = λ bs. peak_of (slice_index bs 0);
}
