-- The laws of the set of mast positions.
use Rattle.std.specs.Prelude.{◌≡◌, ℕ, ◌^◌, ◌<◌, true, List, ◌++◌, length, take, drop, bit_or, refl}
use Rattle.std.proofs.Common.{ap, ◌∙◌, arith, length-take, length-drop, take-append-drop}
use Rattle.std.proofs.lemmas.Nat.{or_comm, or_lt}
use Rattle.std.specs.Int.Bits.{or_self}
use Rattle.std.proofs.lemmas.List.{take_all}
use Rattle.std.proofs.lemmas.Bool.{and_from, lt-ltb, eq-eqb, and_parts, ltb-true, eqb-true}
use Rattle.element.specs.Bytes.{ByteString, be, number}
use Rattle.kinds.specs.Sets.{position_set, lawful_set}
use Rattle.kinds.specs.declared.set_record.SetRecord.{SetRecord}
use Rattle.element.specs.Numbers.{number_be, be_spelt, bytes_be, bytes_append, bytes_take, bytes_drop}
use Rattle.element.proofs.Rules.{Sound}
use Rattle.kinds.specs.Unions.{or_assoc, or_within}

same : {x y : SetRecord} → x.added ≡ y.added → x.removed ≡ y.removed → x ≡ y
same p q = λ i. record { added = p i; removed = q i }

record Lawful (x : SetRecord) : Type 0 where
  pub added : x.added < 2 ^ 64
  pub removed : x.removed < 2 ^ 64
  pub rule : bit_or x.added x.removed ≡ x.added

parts : (x : SetRecord) → lawful_set x ≡ true → Lawful x
parts x h =
    let p = and_parts _ _ h in
    let q = and_parts _ _ p.1 in
    record { added = ltb-true _ _ p.0; removed = ltb-true _ _ q.0; rule = eqb-true _ _ q.1 }

keeps_join : (x y : SetRecord) → lawful_set x ≡ true → lawful_set y ≡ true → lawful_set (position_set.join x y) ≡ true
keeps_join x y h k =
    let p = parts x h in
    let q = parts y k in
    and_from _ _ (lt-ltb _ _ (or_lt 64 _ _ p.added q.added))
    (and_from _ _ (lt-ltb _ _ (or_lt 64 _ _ p.removed q.removed)) (eq-eqb _ _ (or_within _ _ _ _ p.rule q.rule)))

back : (x : SetRecord) → lawful_set x ≡ true → position_set.spelt (position_set.bytes x) ≡ x
back x h = let p = parts x h in same (number_be 8 x.added p.added) (number_be 8 x.removed p.removed)

forth : (bs : List ℕ) → ByteString bs → length bs ≡ 16 → position_set.bytes (position_set.spelt bs) ≡ bs
forth bs o l =
    let a : length (take 8 bs) ≡ 8 = length-take 8 bs ∙ omega arith in
    let d : length (drop 8 bs) ≡ 8 = length-drop 8 bs ∙ omega arith in
    let w = take_all 8 (drop 8 bs) (omega arith) in
    let p = be_spelt 8 (take 8 bs) a (bytes_take 8 bs o) in
    let q = ap (λ (xs : List ℕ). be 8 (number xs)) w ∙ be_spelt 8 (drop 8 bs) d (bytes_drop 8 bs o) in
    (λ i. p i ++ q i) ∙ take-append-drop 8 bs

pub sound : Sound position_set
sound = record {
  width_low = omega arith;
  width_high = omega arith;
  keeps_bottom = refl;
  keeps_join = keeps_join;
  assoc = λ x y z. same (or_assoc x.added y.added z.added) (or_assoc x.removed y.removed z.removed);
  comm = λ x y. same (or_comm x.added y.added) (or_comm x.removed y.removed);
  idem = λ x h. same (or_self x.added) (or_self x.removed);
  least = λ x h. refl;
  long = λ x h. refl;
  octets = λ x h. bytes_append (be 8 x.added) (be 8 x.removed) (bytes_be 8 x.added) (bytes_be 8 x.removed);
  back = back;
  forth = forth;
}
