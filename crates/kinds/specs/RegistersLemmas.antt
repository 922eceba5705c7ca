-- The register's laws: its order is total, so the greater of two does not depend on their order.
use Rattle.std.specs.Prelude.{◌≡◌, ℕ, ◌^◌, ◌<◌, true, false, List, ◌++◌, length, take, drop, ◌≢◌, refl}
use Rattle.std.proofs.Common.{sym, ap, ◌∙◌, ⊎_elim, arith, length-take, length-drop, take-append-drop}
use Rattle.std.proofs.lemmas.List.{drop-drop, take_all}
use Rattle.std.proofs.lemmas.Bool.Decides.{nat_tests}
use Rattle.std.proofs.lemmas.Bool.{cases_Bool}
use Rattle.element.specs.Bytes.{ByteString, be, number}
use Rattle.kinds.specs.declared.register.Register.{Register}
use Rattle.kinds.specs.Registers.{register, register_of, register_bytes, before, fits}
use Rattle.element.specs.Numbers.{number_be, be_spelt, bytes_be, bytes_append, bytes_take, bytes_drop}
use Rattle.element.proofs.Rules.{Sound}

same : {x y : Register} → x.stamp ≡ y.stamp → x.office ≡ y.office → x.value ≡ y.value → x ≡ y
same p q r = λ i. record { stamp = p i; office = q i; value = r i }

-- the order is total
equal : (x y : Register) → before x y ≡ false → before y x ≡ false → x ≡ y
equal x y h k = same (grind (arith, nat_tests)) (grind (arith, nat_tests)) (grind (arith, nat_tests))

trans : (x y z : Register) → before x y ≡ true → before y z ≡ true → before x z ≡ true
trans x y z h k = grind (arith, nat_tests)

not_both : (x y : Register) → before x y ≡ true → before y x ≢ true
not_both x y h k = grind (arith, nat_tests)

behind : (x y z : Register) → before x y ≡ false → before y z ≡ false → before x z ≡ false
behind x y z h k = grind (arith, nat_tests)

comm : (x y : Register) → register.join x y ≡ register.join y x
comm x y =
    ⊎_elim
    (λ (a : before x y ≡ true). ⊎_elim (λ (b : before y x ≡ true). absurd (not_both x y a b)) (λ (b : before y x ≡ false). rw (a, b)) (cases_Bool (before y x)))
    (λ (a : before x y ≡ false). ⊎_elim (λ (b : before y x ≡ true). rw (a, b)) (λ (b : before y x ≡ false). rw (a, b) (equal x y a b)) (cases_Bool (before y x)))
    (cases_Bool (before x y))

assoc : (x y z : Register) → register.join (register.join x y) z ≡ register.join x (register.join y z)
assoc x y z =
    ⊎_elim
    (λ (a : before x y ≡ true). ⊎_elim
    (λ (b : before y z ≡ true). let c = trans x y z a b in rw (a, b, c))
    (λ (b : before y z ≡ false). rw (a, b, a))
    (cases_Bool (before y z)))
    (λ (a : before x y ≡ false). ⊎_elim
    (λ (b : before y z ≡ true). rw (a, b))
    (λ (b : before y z ≡ false). let c = behind x y z a b in rw (a, b, c, a))
    (cases_Bool (before y z)))
    (cases_Bool (before x y))

idem : (x : Register) → register.join x x ≡ x
idem x = ⊎_elim (λ (a : before x x ≡ true). rw a) (λ (a : before x x ≡ false). rw a) (cases_Bool (before x x))

least : (x : Register) → register.join (register_of 0 0 0) x ≡ x
least x =
    ⊎_elim
    (λ (a : before (register_of 0 0 0) x ≡ true). rw a)
    (λ (a : before (register_of 0 0 0) x ≡ false). rw a (equal (register_of 0 0 0) x a (grind (arith, nat_tests))))
    (cases_Bool (before (register_of 0 0 0) x))

keeps_join : (x y : Register) → fits x ≡ true → fits y ≡ true → fits (register.join x y) ≡ true
keeps_join x y h k = ⊎_elim (λ (a : before x y ≡ true). rw a k) (λ (a : before x y ≡ false). rw a h) (cases_Bool (before x y))

octets : (x : Register) → ByteString (register_bytes x)
octets x = bytes_append (be 8 x.stamp) (be 2 x.office ++ be 4 x.value) (bytes_be 8 x.stamp) (bytes_append (be 2 x.office) (be 4 x.value) (bytes_be 2 x.office) (bytes_be 4 x.value))

back : (x : Register) → fits x ≡ true → register.spelt (register_bytes x) ≡ x
back x h =
    let a : x.stamp < 256 ^ 8 = grind (arith, nat_tests) in
    let b : x.office < 256 ^ 2 = grind (arith, nat_tests) in
    let d : x.value < 256 ^ 4 = grind (arith, nat_tests) in
    same (number_be 8 x.stamp a) (number_be 2 x.office b) (number_be 4 x.value d)

forth : (bs : List ℕ) → ByteString bs → length bs ≡ 14 → register_bytes (register.spelt bs) ≡ bs
forth bs o l =
    let tail : List ℕ = drop 8 bs in
    let a : length (take 8 bs) ≡ 8 = length-take 8 bs ∙ omega arith in
    let t : length tail ≡ 6 = length-drop 8 bs ∙ omega arith in
    let b : length (take 2 tail) ≡ 2 = length-take 2 tail ∙ omega arith in
    let d : length (drop 10 bs) ≡ 4 = length-drop 10 bs ∙ omega arith in
    let p = be_spelt 8 (take 8 bs) a (bytes_take 8 bs o) in
    let q = be_spelt 2 (take 2 tail) b (bytes_take 2 tail (bytes_drop 8 bs o)) in
    let w = take_all 4 (drop 10 bs) (omega arith) in
    let r = ap (λ (xs : List ℕ). be 4 (number xs)) w ∙ be_spelt 4 (drop 10 bs) d (bytes_drop 10 bs o) in
    (λ i. p i ++ (q i ++ r i))
    ∙ ap (λ (xs : List ℕ). take 8 bs ++ (take 2 tail ++ xs)) (sym (drop-drop 2 8 bs))
    ∙ ap (λ (xs : List ℕ). take 8 bs ++ xs) (take-append-drop 2 tail)
    ∙ take-append-drop 8 bs

pub sound : Sound register
sound = record {
  width_low = omega arith;
  width_high = omega arith;
  keeps_bottom = refl;
  keeps_join = keeps_join;
  assoc = assoc;
  comm = comm;
  idem = λ x h. idem x;
  least = λ x h. least x;
  long = λ x h. refl;
  octets = λ x h. octets x;
  back = back;
  forth = forth;
}
