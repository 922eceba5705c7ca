-- The laws of the peak.
use Rattle.std.specs.Prelude.{◌≡◌, ℕ, max, true, List, [], ◌∷◌, length, slice_index, refl}
use Rattle.std.proofs.Common.{ap, arith}
use Rattle.std.proofs.lemmas.Bool.{lt-ltb, ltb-true}
use Rattle.element.proofs.Rules.{Sound}
use Rattle.element_tests.specs.Peaks.{peak, peak_of}
use Rattle.element_tests.specs.declared.peak.Peak.{Peak}

forth : (bs : List ℕ) → length bs ≡ 1 → slice_index bs 0 ∷ [] ≡ bs
forth [] l = absurd (omega arith)
forth (b ∷ []) l = refl
forth (a ∷ b ∷ bs) l = absurd (omega arith)

keeps_join : (x y : Peak) → peak.keeps x ≡ true → peak.keeps y ≡ true → peak.keeps (peak.join x y) ≡ true
keeps_join x y h k =
    let a = ltb-true x.value 256 h in
    let b = ltb-true y.value 256 k in
    lt-ltb (max x.value y.value) 256 (omega arith)

pub sound : Sound peak
sound = record {
  width_low = omega arith;
  width_high = omega arith;
  keeps_bottom = refl;
  keeps_join = keeps_join;
  assoc = λ x y z. let e : max (max x.value y.value) z.value ≡ max x.value (max y.value z.value) = omega arith in ap peak_of e;
  comm = λ x y. let e : max x.value y.value ≡ max y.value x.value = omega arith in ap peak_of e;
  idem = λ x h. let e : max x.value x.value ≡ x.value = omega arith in ap peak_of e;
  least = λ x h. let e : max 0 x.value ≡ x.value = omega arith in ap peak_of e;
  long = λ x h. refl;
  octets = λ x h. (ltb-true x.value 256 h, tt);
  back = λ x h. refl;
  forth = λ bs o l. forth bs l;
}
