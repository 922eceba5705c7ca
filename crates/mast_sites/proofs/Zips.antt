-- Two lists of one length, and their `zip`.
use Rattle.std.proofs.Common.{◌≡◌, length, List, [], ◌∷◌, arith}
use Rattle.std.specs.List.{All, AllZip, zip}
use Rattle.std.proofs.lemmas.List.Elements.{All-cons, All-head, All-tail}

module _ {A B : Type 0} (R : A → B → Type 0) where
  -- what holds of each pair holds place by place
  pub AllZip-from_All : (xs : List A) (ys : List B) → length xs ≡ length ys → All (λ (p : A × B). R p.0 p.1) (zip xs ys) → AllZip R xs ys
  AllZip-from_All [] [] e h = tt
  AllZip-from_All [] (y ∷ ys) e h = absurd (omega arith)
  AllZip-from_All (x ∷ xs) [] e h = absurd (omega arith)
  AllZip-from_All (x ∷ xs) (y ∷ ys) e h =
      let P : A × B → Type 0 = λ p. R p.0 p.1 in (
        All-head P (x, y) (zip xs ys) h,
        AllZip-from_All xs ys (omega arith) (All-tail P (x, y) (zip xs ys) h),
      )

  -- and the other way round
  pub All-from_AllZip : (xs : List A) (ys : List B) → AllZip R xs ys → All (λ (p : A × B). R p.0 p.1) (zip xs ys)
  All-from_AllZip [] ys h = λ k d b. absurd (omega arith)
  All-from_AllZip (x ∷ xs) [] h = absurd h
  All-from_AllZip (x ∷ xs) (y ∷ ys) h = All-cons (λ p. R p.0 p.1) (x, y) (zip xs ys) h.0 (All-from_AllZip xs ys h.1)
