-- The order of elements, from the laws of join.
use Rattle.std.proofs.Common.{◌≡◌, sym, ap, ◌∙◌}
use Rattle.element.specs.Model.{Model, Laws}
use Rattle.element.specs.Order.{Same, Order}
use Rattle.std.proofs.lemmas.Option.{same_Some}

module _ {R : Type 0} {m : Model R} (l : Laws m) where
  -- join sees only what its second argument stands for, too
  pub join_sees_right : (x y : R) → m.joined x (m.means y) ≡ m.joined x y
  join_sees_right x y = l.join_comm x (m.means y) ∙ l.join_sees y x ∙ l.join_comm y x

  -- two records stand for one element just if their bytes are the same
  pub written_means : (x : R) → m.written (m.means x) ≡ m.written x
  written_means x = l.write_back (m.written x) (l.written_bytes x) (m.means x) (l.read_back x)

  pub same_written : (x y : R) → Same m x y → m.written x ≡ m.written y
  same_written x y h = sym (written_means x) ∙ ap m.written h.is ∙ written_means y

  pub written_same : (x y : R) → m.written x ≡ m.written y → Same m x y
  written_same x y e = record { is = same_Some _ _ (sym (l.read_back x) ∙ ap m.parsed e ∙ l.read_back y) }

  pub order : Order m
  order = record {
    reflexive = λ x y h. record { is = sym (l.join_sees x y) ∙ ap (λ (z : R). m.joined z y) h.is ∙ l.join_sees y y ∙ l.join_idem y };
    transitive = λ x y z p q. record {
      is =
          sym (join_sees_right x z)
          ∙ ap (m.joined x) (sym q.is)
          ∙ sym (l.join_assoc x y z)
          ∙ ap (λ (w : R). m.joined w z) p.is
          ∙ l.join_sees y z
          ∙ q.is;
    };
    antisymmetric = λ x y p q. record { is = sym q.is ∙ l.join_comm y x ∙ p.is };
    bottom_least = λ x. record { is = l.join_bottom x };
    join_above = λ x y. (
      record { is = sym (l.join_assoc x x y) ∙ ap (λ (w : R). m.joined w y) (l.join_idem x) ∙ l.join_sees x y ∙ sym (l.join_means x y) },
      record { is = ap (m.joined y) (l.join_comm x y) ∙ sym (l.join_assoc y y x) ∙ ap (λ (w : R). m.joined w x) (l.join_idem y) ∙ l.join_sees y x ∙ l.join_comm y x ∙ sym (l.join_means x y) },
    );
    join_least = λ x y z p q. record {
      is =
          l.join_assoc x y z
          ∙ ap (m.joined x) q.is
          ∙ join_sees_right x z
          ∙ p.is;
    };
  }
