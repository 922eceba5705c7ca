-- The laws of an element type whose records have a rule, from what holds of the records that keep it.
use Rattle.std.proofs.Common.{◌≡◌, ℕ, ◌≤◌, true, false, ◌&&◌, eqb, List, length, Some, None, sym, ap, ◌∙◌, ⊎_elim}
use Rattle.std.proofs.lemmas.Bool.{cases_Bool, cond-true, cond-false, and_from, and_parts, eq-eqb, eqb-true}
use Rattle.std.proofs.lemmas.Option.{cond_some}
use Rattle.element.specs.Bytes.{ByteString}
use Rattle.element.specs.Model.{Laws}
use Rattle.element.specs.Ruled.{Ruled, ruled, meant}

-- What is to be shown of a new type of this kind.
pub record Sound {R : Type 0} (k : Ruled R) : Type 0 where
  pub width_low : 1 ≤ k.width
  pub width_high : k.width ≤ 64
  pub keeps_bottom : k.keeps k.bottom ≡ true
  pub keeps_join : (x y : R) → k.keeps x ≡ true → k.keeps y ≡ true → k.keeps (k.join x y) ≡ true
  pub assoc : (x y z : R) → k.join (k.join x y) z ≡ k.join x (k.join y z)
  pub comm : (x y : R) → k.join x y ≡ k.join y x
  pub idem : (x : R) → k.keeps x ≡ true → k.join x x ≡ x
  pub least : (x : R) → k.keeps x ≡ true → k.join k.bottom x ≡ x
  pub long : (x : R) → k.keeps x ≡ true → length (k.bytes x) ≡ k.width
  pub octets : (x : R) → k.keeps x ≡ true → ByteString (k.bytes x)
  pub back : (x : R) → k.keeps x ≡ true → k.spelt (k.bytes x) ≡ x
  pub forth : (bs : List ℕ) → ByteString bs → length bs ≡ k.width → k.bytes (k.spelt bs) ≡ bs

module _ {R : Type 0} {k : Ruled R} (s : Sound k) where
  -- a record that keeps the rule stands for itself
  pub keeps_meant : (x : R) → k.keeps x ≡ true → meant k x ≡ x
  keeps_meant x h = cond-true (k.keeps x) x k.bottom h

  pub meant_keeps : (x : R) → k.keeps (meant k x) ≡ true
  meant_keeps x =
      ⊎_elim
      (λ (h : k.keeps x ≡ true). ap k.keeps (keeps_meant x h) ∙ h)
      (λ (h : k.keeps x ≡ false). ap k.keeps (cond-false (k.keeps x) x k.bottom h) ∙ s.keeps_bottom)
      (cases_Bool (k.keeps x))

  once : (x : R) → meant k (meant k x) ≡ meant k x
  once x = keeps_meant (meant k x) (meant_keeps x)

  closed : (x y : R) → meant k (k.join (meant k x) (meant k y)) ≡ k.join (meant k x) (meant k y)
  closed x y = keeps_meant _ (s.keeps_join _ _ (meant_keeps x) (meant_keeps y))

  assoc : (x y z : R) → (ruled k).joined ((ruled k).joined x y) z ≡ (ruled k).joined x ((ruled k).joined y z)
  assoc x y z =
      ap (λ (w : R). k.join w (meant k z)) (closed x y)
      ∙ s.assoc (meant k x) (meant k y) (meant k z)
      ∙ ap (k.join (meant k x)) (sym (closed y z))

  read_back : (x : R) → (ruled k).parsed ((ruled k).written x) ≡ Some (meant k x)
  read_back x =
      let h = meant_keeps x in
      let e = s.back (meant k x) h in
      let b = and_from _ _ (eq-eqb _ _ (s.long (meant k x) h)) (ap k.keeps e ∙ h) in
      cond-true _ _ None b ∙ ap Some e

  write_back : (bs : List ℕ) → ByteString bs → (x : R) → (ruled k).parsed bs ≡ Some x → (ruled k).written x ≡ bs
  write_back bs o x h =
      let p = cond_some (eqb (length bs) k.width && k.keeps (k.spelt bs)) (k.spelt bs) x h in
      let q = and_parts _ _ p.0 in
      ap (λ (y : R). k.bytes (meant k y)) (sym p.1)
      ∙ ap k.bytes (keeps_meant (k.spelt bs) q.1)
      ∙ s.forth bs o (eqb-true _ _ q.0)

  pub laws : Laws (ruled k)
  laws = record {
    width_low = s.width_low;
    width_high = s.width_high;
    join_assoc = assoc;
    join_comm = λ x y. s.comm (meant k x) (meant k y);
    join_idem = λ x. s.idem (meant k x) (meant_keeps x);
    join_bottom = λ x. ap (λ (b : R). k.join b (meant k x)) (keeps_meant k.bottom s.keeps_bottom) ∙ s.least (meant k x) (meant_keeps x);
    join_sees = λ x y. ap (λ (z : R). k.join z (meant k y)) (once x);
    join_means = closed;
    bottom_means = keeps_meant k.bottom s.keeps_bottom;
    written_long = λ x. s.long (meant k x) (meant_keeps x);
    written_bytes = λ x. s.octets (meant k x) (meant_keeps x);
    read_back = read_back;
    write_back = write_back;
  }

-- What reading answers, where the bytes are lawful.
module _ {R : Type 0} (k : Ruled R) (bs : List ℕ) where
  pub read_lawful : (x : R) → length bs ≡ k.width → x ≡ k.spelt bs → k.keeps x ≡ true → Some x ≡ (ruled k).parsed bs
  read_lawful x l e h = ap Some e ∙ sym (cond-true _ _ None (and_from _ _ (eq-eqb _ _ l) (ap k.keeps (sym e) ∙ h)))
