-- A declined step touches nothing but the incoming channel.
use Rattle.std.proofs.Common.{◌≡◌, ℕ, Bool, true, false, List, Some, None, Ok, Err, Option, Result, sym, refl, ◌∙◌, arith}
use Rattle.channel.specs.Links.{Link}
use Rattle.element.specs.Model.{Model}
use Rattle.element.specs.declared.refusal.Refusal.{Refusal}
use Rattle.element.specs.declared.refusal.Refusal.TheVariants.{Stale}
use Rattle.frame.specs.Decoding.{decoded}
use Rattle.frame.specs.Frames.{Frame, compare, same, differ, offer, held}
use Rattle.replica.specs.Replicas.{Replica, fitting}
use Rattle.replica.specs.Steps.{Where, awaits, Untouched, Declined, Handled, Judged, Reacts, StepsWith}
use Rattle.replica.specs.declared.answer.Answer.{Answer}
use Rattle.replica.specs.declared.answer.Answer.TheVariants.{Nothing, Answered}

pub ok_err : {A : Type 0} (a : A) (e : Refusal) → Ok a ≡ Err e → ⊥
ok_err a e h = let z : ◌≡◌ {A = ℕ} 0 1 = cc in omega arith

-- what a test decides
pub where_elim : {C : Type 0} (b : Bool) (P Q : Type 0) → Where b P Q → (b ≡ true → P → C) → (b ≡ false → Q → C) → C
where_elim true P Q w f g = f refl w
where_elim false P Q w f g = g refl w

module _ {R : Type 0} (m : Model R) (h : List ℕ → ℕ) {O : Type 0} (l : Link O) (s t : Replica R) (c d : O) (z : Refusal) where
  Left : Type 0
  Left = Untouched m h l s t c d

  taken : (b : Bool) (P : Type 0) (y : Result Answer Refusal) → y ≡ Err z → (P → (a : Answer) × (y ≡ Ok a)) → Where b P (Declined m h l Stale s t c d y) → Left
  unfolding Left
  taken true P y is ok w = absurd (ok_err (ok w).0 z (sym (ok w).1 ∙ is))
  taken false P y is ok w = w.untouched

  reacts : (f : Frame) → Reacts m h l f s t c d (Err z) → Left
  reacts (compare r n x) w = absurd (ok_err Answered z (sym w.says))
  reacts (same r n) w = taken (awaits s.progress r n) _ (Err z) refl (λ k. (_, k.says)) w
  reacts (differ r n) w = taken (awaits s.progress r n) _ (Err z) refl (λ k. (_, k.says)) w
  reacts (offer r n bs) w = absurd (ok_err Answered z (sym w.2.says))
  reacts (held r n bs) w = taken (awaits s.progress r n) _ (Err z) refl (λ k. (_, k.2.says)) w

  judged : (o : Option Frame) → Judged m h l o s t c d (Err z) → Left
  unfolding Left
  judged None w = w.untouched
  judged (Some f) w = reacts f w

  handled : (g : Option (List ℕ)) → Handled m h l g s t c d (Err z) → Left
  handled None k = absurd (ok_err Nothing z (sym k.says))
  handled (Some bs) k = judged (decoded m s.progress.size bs) k

  pub declined_step : {I : Type 0} (j : Link I) (a b : I) (got : Option (List ℕ)) → StepsWith m h l j got s t a b c d (Err z) → Untouched m h l s t c d
  unfolding Left
  declined_step j a b got w = where_elim (fitting s) _ _ w (λ _ k. handled got k.handled) (λ _ k. k.declined.untouched)
