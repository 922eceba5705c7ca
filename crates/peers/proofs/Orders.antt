-- The order of elements, in the shape in which the proofs of this crate use it.
use Rattle.std.proofs.Common.{◌≡◌, Some, sym, ◌∙◌, subst}
use Rattle.std.proofs.lemmas.Option.{same_Some}
use Rattle.element.proofs.Orders.{order, join_sees_right}
use Rattle.element.specs.Order.{Same, AtMost}
use Rattle.peers.proofs.Settings.{Setting}

module _ (S : Setting) where
  pub le_refl : (x : S.R) → AtMost S.m x x
  le_refl x = record { is = S.laws.join_idem x }

  pub le_trans : {x y z : S.R} → AtMost S.m x y → AtMost S.m y z → AtMost S.m x z
  le_trans {x} {y} {z} p q = (order S.laws).transitive x y z p q

  pub le_same : {x y : S.R} → Same S.m x y → AtMost S.m x y
  le_same {x} {y} h = (order S.laws).reflexive x y h

  pub le_eq : {x y : S.R} → x ≡ y → AtMost S.m x y
  le_eq {x} h = subst (λ (y : S.R). AtMost S.m x y) h (le_refl x)

  pub le_left : (x y : S.R) → AtMost S.m x (S.m.joined x y)
  le_left x y = ((order S.laws).join_above x y).0

  pub le_right : (x y : S.R) → AtMost S.m y (S.m.joined x y)
  le_right x y = ((order S.laws).join_above x y).1

  pub le_join : {x y z : S.R} → AtMost S.m x z → AtMost S.m y z → AtMost S.m (S.m.joined x y) z
  le_join {x} {y} {z} p q = (order S.laws).join_least x y z p q

  pub same_le : {x y : S.R} → AtMost S.m x y → AtMost S.m y x → Same S.m x y
  same_le {x} {y} p q = (order S.laws).antisymmetric x y p q

  pub same_sym : {x y : S.R} → Same S.m x y → Same S.m y x
  same_sym h = record { is = sym h.is }

  pub same_trans : {x y z : S.R} → Same S.m x y → Same S.m y z → Same S.m x z
  same_trans h k = record { is = h.is ∙ k.is }

  -- what is read from an element's bytes is that element
  pub read_same : (x y : S.R) → S.m.parsed (S.m.written y) ≡ Some x → Same S.m x y
  read_same x y h =
      let is = same_Some _ _ (sym h ∙ S.laws.read_back y) in
      record { is = subst (λ (z : S.R). S.m.means z ≡ S.m.means y) (sym is) (sym (S.laws.join_idem (S.m.means y)) ∙ S.laws.join_sees y (S.m.means y) ∙ join_sees_right S.laws y y ∙ S.laws.join_idem y) }
