use Rattle.std.proofs.Common.{rules, ◌≡◌, ℕ, zero, suc, List, [], ◌∷◌, ◌++◌, length, get_or, slice_get, remove, Option, refl, ap, sym, subst, ◌∙◌, arith}
use Rattle.std.proofs.lemmas.Option.{slice_get-get_or}
use Rattle.channel_tests.specs.Stacks.{Popped}
use Rattle.channel_tests.proofs.stack.StackChannel.take.Goals as goal

last : (ws : List (List ℕ)) (n : ℕ) → length ws ≡ suc n → ws ≡ remove ws n ++ (get_or ws n [] ∷ [])
last [] n e = absurd (omega arith)
last (w ∷ []) zero e = refl
last (w ∷ v ∷ ws) zero e = absurd (omega arith)
last (w ∷ ws) (suc n) e = ap (λ vs. w ∷ vs) (last ws n (omega arith))

-- What was removed at the last place n of the frames us.
popped : (us ws vs : List (List ℕ)) (o : Option (List ℕ)) (n : ℕ) → length us ≡ suc n → us ≡ ws → o ≡ slice_get us n → vs ≡ remove us n → Popped ws o vs
popped us ws vs o n e f g h =
    let some = g ∙ slice_get-get_or us n [] (omega arith) in
    subst (λ (p : Option (List ℕ)). Popped ws p vs) (sym some) (sym f ∙ last us n e ∙ ap (λ (xs : List (List ℕ)). xs ++ (get_or us n [] ∷ [])) (sym h))

pub returns-clause-takes : goal.returns-clause-takes
returns-clause-takes c =
    let counted = c.len.ensures.count in
    let newest = c.in_ok-newest.ensures in
    popped _ _ _ _ _ (omega arith) c.self.view_is (search rules) c.remove.ensures.left
