-- Which frames are in a part of a list, or in a list to which one was put.
use Rattle.std.specs.Prelude.{◌≡◌, ℕ, zero, suc, ◌<◌, true, ◌⊎◌, List, [], ◌∷◌, length, take, drop, Some, None, Option, nat_le, nat_lt, slice_index_or, refl}
use mathlib.Core.List.Memᴰ
use mathlib.Core.List.{Memᴰ}
use Rattle.std.proofs.Common.{inl, inr, ⊎_elim, arith}
use Rattle.std.proofs.lemmas.Bool.{and_parts, cond_both, leb-true}
use Rattle.channel.specs.Links.{Carried}
use Rattle.channel.specs.Queues.{kept, put_among}

-- What came, if anything, is one of these frames.
abbrev pub From : List (List ℕ) → Option (List ℕ) → Type 0
From ws None = Unit {0}
From ws (Some f) = Memᴰ f ws

pub in_get_or : {X : Type 0} (xs : List X) (i : ℕ) (d : X) → i < length xs → Memᴰ (slice_index_or xs i d) xs
in_get_or [] i d h = absurd (omega arith)
in_get_or (x ∷ xs) zero d h = Memᴰ.head refl
in_get_or (x ∷ xs) (suc i) d h = Memᴰ.tail (in_get_or xs i d (omega arith))

pub in_take : {X : Type 0} {y : X} (n : ℕ) (xs : List X) → Memᴰ y (take n xs) → Memᴰ y xs
in_take zero xs m = absurd (Memᴰ.not-nil m)
in_take (suc n) [] m = m
in_take (suc n) (x ∷ xs) m = ⊎_elim Memᴰ.head (λ k. Memᴰ.tail (in_take n xs k)) (Memᴰ.cases_cons m)

pub in_drop : {X : Type 0} {y : X} (n : ℕ) (xs : List X) → Memᴰ y (drop n xs) → Memᴰ y xs
in_drop zero xs m = m
in_drop (suc n) [] m = m
in_drop (suc n) (x ∷ xs) m = Memᴰ.tail (in_drop n xs m)

carried : (n : ℕ) (ws : List (List ℕ)) (f : List ℕ) → kept n ws f ≡ true → Carried f
carried n ws f h =
    let fits = and_parts (nat_le 1 (length f)) (nat_le (length f) 71) (and_parts (nat_lt (length ws) n) _ h).1 in
    record { some = leb-true _ _ fits.0; few = leb-true _ _ fits.1 }

pub in_put : (n : ℕ) (ws : List (List ℕ)) (f g : List ℕ) → Memᴰ g (put_among n ws f) → Memᴰ g ws ⊎ ((g ≡ f) × Carried f)
in_put n ws f g =
    cond_both (kept n ws f) _ _ (λ vs. Memᴰ g vs → Memᴰ g ws ⊎ ((g ≡ f) × Carried f))
    (λ h m. ⊎_elim inl (λ (k : Memᴰ g (f ∷ [])). inr (Memᴰ.eq_of_singleton k, carried n ws f h)) (Memᴰ.append_cases ws m))
    (λ h. inl)
