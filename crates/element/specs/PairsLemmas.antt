-- The laws of a pair, from those of its parts.
use Rattle.std.specs.Prelude.{◌≡◌, ℕ, ◌+◌, ◌≤◌, Bool, true, false, cond, List, ◌++◌, length, take, drop, Some, None, Option, ◌==◌, refl}
use Rattle.std.proofs.Common.{ap, ap₂, ◌∙◌, arith, length-append, take-append-drop}
use Rattle.std.proofs.lemmas.List.{take_at, drop_at}
use Rattle.std.proofs.lemmas.Option.{none-some}
use Rattle.std.proofs.lemmas.Bool.{cond-true, eq-eqb}
use Rattle.element.specs.Bytes.{ByteString}
use Rattle.element.specs.Model.{Model, Laws}
use Rattle.element.specs.Pairs.{pair, pair_of, both}
use Rattle.element.specs.declared.pair.Pair.{Pair}
use Rattle.element.specs.Numbers.{bytes_append, bytes_take, bytes_drop}

-- an answer that is given only under a condition
pub when_some : {A : Type 0} (b : Bool) (p : Option A) (x : A) → cond b p None ≡ Some x → (b ≡ true) × (p ≡ Some x)
when_some true p x h = (refl, h)
when_some false p x h = absurd (none-some x h)

both_parts : {A B : Type 0} (p : Option A) (q : Option B) (x : Pair A B) → both p q ≡ Some x → (p ≡ Some x.first) × (q ≡ Some x.second)
both_parts (Some a) (Some b) x h = let e : pair_of a b ≡ x = cc in (ap (λ (y : Pair _ _). Some y.first) e, ap (λ (y : Pair _ _). Some y.second) e)
both_parts (Some a) None x h = absurd (none-some x h)
both_parts None q x h = absurd (none-some x h)

module _ {A B : Type 0} {m : Model A} {n : Model B} (l : Laws m) (k : Laws n) where
  front : (x : Pair A B) → take m.width ((pair m n).written x) ≡ m.written x.first
  front x = take_at (m.written x.first) (n.written x.second) m.width (l.written_long x.first)

  rear : (x : Pair A B) → drop m.width ((pair m n).written x) ≡ n.written x.second
  rear x = drop_at (m.written x.first) (n.written x.second) m.width (l.written_long x.first)

  long : (x : Pair A B) → length ((pair m n).written x) ≡ m.width + n.width
  long x = length-append (m.written x.first) (n.written x.second) ∙ ap₂ (λ (i j : ℕ). i + j) (l.written_long x.first) (k.written_long x.second)

  read_back : (x : Pair A B) → (pair m n).parsed ((pair m n).written x) ≡ Some ((pair m n).means x)
  read_back x =
      cond-true _ _ None (eq-eqb _ _ (long x))
      ∙ ap₂ both (ap m.parsed (front x) ∙ l.read_back x.first) (ap n.parsed (rear x) ∙ k.read_back x.second)

  write_back : (bs : List ℕ) → ByteString bs → (x : Pair A B) → (pair m n).parsed bs ≡ Some x → (pair m n).written x ≡ bs
  write_back bs o x h =
      let p = when_some (length bs == m.width + n.width) _ x h in
      let q = both_parts (m.parsed (take m.width bs)) (n.parsed (drop m.width bs)) x p.1 in
      ap₂ (λ (xs ys : List ℕ). xs ++ ys)
      (l.write_back (take m.width bs) (bytes_take m.width bs o) x.first q.0)
      (k.write_back (drop m.width bs) (bytes_drop m.width bs o) x.second q.1)
      ∙ take-append-drop m.width bs

  pub laws : m.width + n.width ≤ 64 → Laws (pair m n)
  laws room = record {
    width_low = omega (arith, l.width_low);
    width_high = room;
    join_assoc = λ x y z. ap₂ pair_of (l.join_assoc x.first y.first z.first) (k.join_assoc x.second y.second z.second);
    join_comm = λ x y. ap₂ pair_of (l.join_comm x.first y.first) (k.join_comm x.second y.second);
    join_idem = λ x. ap₂ pair_of (l.join_idem x.first) (k.join_idem x.second);
    join_bottom = λ x. ap₂ pair_of (l.join_bottom x.first) (k.join_bottom x.second);
    join_sees = λ x y. ap₂ pair_of (l.join_sees x.first y.first) (k.join_sees x.second y.second);
    join_means = λ x y. ap₂ pair_of (l.join_means x.first y.first) (k.join_means x.second y.second);
    bottom_means = ap₂ pair_of l.bottom_means k.bottom_means;
    written_long = long;
    written_bytes = λ x. bytes_append (m.written x.first) (n.written x.second) (l.written_bytes x.first) (k.written_bytes x.second);
    read_back = read_back;
    write_back = write_back;
  }
