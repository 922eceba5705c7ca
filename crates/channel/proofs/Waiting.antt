-- What waits in the first n of some places xs.
use Rattle.std.proofs.Common.{◌≡◌, ⊎_elim, subst, ℕ, zero, suc, true, false, set, ◌+◌, ◌-◌, ◌<◌, ◌≤◌, List, [], ◌∷◌, ◌++◌, length, take, drop, remove, slice_get, Some, None, refl, ap, ap₂, sym, ◌∙◌, add-one, length-append, length-drop, arith}
use Rattle.std.specs.List.{copy_within}
use Rattle.std.proofs.lemmas.Bool.{cond-true, cond-false, cond_both, and_parts, ltb-true}
use Rattle.std.proofs.lemmas.Bool.Decides.{nat_tests}
use Rattle.std.proofs.lemmas.List.{take_more_set, drop-take, length-take-le, take-append-le, take_all, take-append-drop}
use Rattle.std.proofs.lemmas.Option.{slice_get_within}
use mathlib.Core.List.Memᴰ
use mathlib.Core.List.{Memᴰ}
use Rattle.channel.specs.Links.{Carried}
use Rattle.channel.specs.Members.{in_put}
use Rattle.channel.specs.Queues.{kept, put_among, WaitIn}

module _ {X : Type 0} where
  -- Where something waits at place `at`, that place is one of the n.
  pub waits_within : (xs ws : List X) (n at : ℕ) (x : X) → n ≤ length xs → take n xs ≡ ws → slice_get ws at ≡ Some x → at < n
  waits_within xs ws n at x h e g = omega (arith, length-take-le n xs h, ap length e, slice_get_within ws at x g)

  -- Where nothing waits there, nothing is removed.
  pub none_removed : (ws : List X) (at : ℕ) → slice_get ws at ≡ None → ws ≡ remove ws at
  none_removed [] zero e = refl
  none_removed [] (suc at) e = refl
  none_removed (w ∷ ws) zero e = cc
  none_removed (w ∷ ws) (suc at) e = ap (λ vs. w ∷ vs) (none_removed ws at e)

  -- Place `at` is given up: what waited behind it was copied to where it begins.
  pub moved_up : (xs ys ws : List X) (n at : ℕ) → n ≤ length xs → at < n → take n xs ≡ ws → ys ≡ copy_within xs (at + 1) n at → take (n - 1) ys ≡ remove ws at
  moved_up xs ys ws n at h k e g =
      let m = n - (at + 1) in
      let before = take at xs in
      let behind = take m (drop (at + 1) xs) in
      let whole = length-append before behind in
      let b = length-take-le at xs (omega arith) in
      let c = length-take-le m (drop (at + 1) xs) (omega (arith, length-drop (at + 1) xs)) in
      let w = length-take-le n xs h in
      let same : at + 1 + m ≡ n = omega arith in
      let first : before ≡ take at (take n xs) =
      ap (take at) (sym (take-append-drop n xs)) ∙ take-append-le at (take n xs) (drop n xs) (omega arith) in
      let last : drop (at + 1) (take n xs) ≡ behind = rw same at (drop-take (at + 1) m xs) in
      ap (take (n - 1)) g
      ∙ take-append-le (n - 1) (before ++ behind) (drop (at + m) xs) (omega arith)
      ∙ take_all (n - 1) (before ++ behind) (omega arith)
      ∙ ap₂ ◌++◌ first (sym last ∙ ap (λ (k : ℕ). drop k (take n xs)) (add-one at))
      ∙ ap (λ (us : List X). remove us at) e

-- A frame that can be carried is set behind the n that wait, where so many are fewer than the places.
pub put_in : (places : ℕ) (ws : List (List ℕ)) (n : ℕ) (f : List ℕ) → n < places → n < length ws → Carried f → take (n + 1) (set ws n f) ≡ put_among places (take n ws) f
put_in places ws n f h k c =
    let w = length-take-le n ws (omega arith) in
    let ok : kept places (take n ws) f ≡ true = grind (arith, nat_tests) in
    take_more_set ws n f k ∙ sym (cond-true _ _ _ ok)

-- Where as many wait as there are places, a put changes nothing.
pub put_full : (places : ℕ) (ws : List (List ℕ)) (n : ℕ) (f : List ℕ) → n ≡ places → n ≤ length ws → take n ws ≡ put_among places (take n ws) f
put_full places ws n f h k =
    let w = length-take-le n ws k in
    let no : kept places (take n ws) f ≡ false = grind (arith, nat_tests) in
    sym (cond-false _ _ _ no)

-- A put keeps to the places, and so does a removal.
put_many : (n : ℕ) (ws : List (List ℕ)) (f : List ℕ) → length ws ≤ n → length (put_among n ws f) ≤ n
put_many n ws f h =
    cond_both (kept n ws f) _ _ (λ (vs : List (List ℕ)). length vs ≤ n)
    (λ k. let l = ltb-true (length ws) n (and_parts _ _ k).0 in omega (arith, length-append ws (f ∷ [])))
    (λ _. h)

pub wait_put : (n : ℕ) (ws vs : List (List ℕ)) (f : List ℕ) → WaitIn n ws → vs ≡ put_among n ws f → WaitIn n vs
wait_put n ws vs f w e = subst (WaitIn n) (sym e) (record {
  many = put_many n ws f w.many;
  few = λ g m. ⊎_elim (w.few g) (λ (c : (g ≡ f) × Carried f). subst (λ (h : List ℕ). length h ≤ 71) (sym c.0) c.1.few) (in_put n ws f g m);
})

removed_many : {X : Type 0} (ws : List X) (at : ℕ) → length (remove ws at) ≤ length ws
removed_many [] zero = omega arith
removed_many [] (suc at) = omega arith
removed_many (w ∷ ws) zero = omega arith
removed_many (w ∷ ws) (suc at) = let h = removed_many ws at in omega arith

in_removed : {X : Type 0} {y : X} (ws : List X) (at : ℕ) → Memᴰ y (remove ws at) → Memᴰ y ws
in_removed [] zero m = m
in_removed [] (suc at) m = m
in_removed (w ∷ ws) zero m = Memᴰ.tail m
in_removed (w ∷ ws) (suc at) m = ⊎_elim Memᴰ.head (λ k. Memᴰ.tail (in_removed ws at k)) (Memᴰ.cases_cons m)

pub wait_removed : (n : ℕ) (ws vs : List (List ℕ)) (at : ℕ) → WaitIn n ws → vs ≡ remove ws at → WaitIn n vs
wait_removed n ws vs at w e = subst (WaitIn n) (sym e) (record {
  many = let h = removed_many ws at in let k = w.many in omega arith;
  few = λ g m. w.few g (in_removed ws at m);
})

-- The same of a frame that is set behind those that wait.
pub wait_set : (places : ℕ) (ws : List (List ℕ)) (n : ℕ) (f : List ℕ) → n < places → n < length ws → Carried f → WaitIn places (take n ws) → WaitIn places (take (n + 1) (set ws n f))
wait_set places ws n f h k c w = wait_put places (take n ws) (take (n + 1) (set ws n f)) f w (put_in places ws n f h k c)
