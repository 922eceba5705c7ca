use Rattle.std.proofs.Common.{◌≡◌, ℕ, Bool, List, length, take, replicate, Decides, sym, refl, ap, ◌∙◌, arith}
use Rattle.std.proofs.lemmas.Slice.Eq.{slice_eq-Decides}
use Rattle.std.proofs.lemmas.List.{take_at}
use Rattle.element.specs.Bytes.{placed}
use Rattle.element.specs.Model.{Model, Laws}
use Rattle.element.specs.Order.{Same}
use Rattle.element.proofs.Orders.{same_written, written_same}
use Rattle.element.proofs.Writes.{placed_room}
use Rattle.element.proofs.compare.same.Goals as goal
use Rattle.std.proofs.lemmas.Bool.Decides.{Decides-eqb}

module _ {R : Type 0} {m : Model R} (l : Laws m) (out : List ℕ) (wide : length out ≡ 64) where
  front : (x : R) (left : List ℕ) → left ≡ placed (m.written x) out → take m.width left ≡ m.written x
  front x left e =
      let w = l.written_long x in
      let h = l.width_high in
      ap (take m.width) (e ∙ placed_room (m.written x) out (omega arith)) ∙ take_at (m.written x) _ m.width w

  tells : (x y : R) (left right : List ℕ) (r : Bool) → left ≡ placed (m.written x) out → right ≡ placed (m.written y) out → Decides r (left ≡ right) → Decides r (Same m x y)
  tells x y left right r p q d = (
    (λ h. written_same l x y (sym (front x left p) ∙ ap (take m.width) (d.0 h) ∙ front y right q)),
    (λ h. d.1 (p ∙ ap (λ (bs : List ℕ). placed bs out) (same_written l x y h) ∙ sym q)),
  )

pub returns : goal.returns
returns g c =
    let m = g.E.Element.model in
    let left = c.write.new.out in
    let right = c.write-2.new.out in
    let p : left ≡ placed (m.written c.args.x) (replicate 64 0) = c.write.ensures.after in
    let q : right ≡ placed (m.written c.args.y) (replicate 64 0) = c.write-2.ensures.after in
    tells g.met.E.Element.laws (replicate 64 0) refl c.args.x c.args.y left right c.eq.result p q (slice_eq-Decides Decides-eqb left right c.eq.result c.eq.ensures)
