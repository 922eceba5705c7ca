-- The courier is fair.
use Rattle.std.specs.Prelude.{ℕ, ◌+◌, ◌%◌, ◌<◌, List, [], ◌∷◌, length, take, nat_lt}
use Rattle.std.proofs.Common.{subst, ⊎_elim, mod-lt, arith}
use mathlib.Core.List.Memᴰ
use mathlib.Core.List.{Memᴰ}
use Rattle.std.proofs.lemmas.Bool.{cond_both}
use Rattle.channel.specs.Links.{Fair}
use Rattle.channel.specs.Couriers.{Cargo, Pick, by_pick, picked, courier}
use Rattle.channel.specs.Members.{From, in_get_or, in_take, in_drop, in_put}

-- What comes was waiting, and so was what waits then.
record Within (ws : List (List ℕ)) (p : Pick) : Type 0 where
  pub came : From ws p.came
  pub left : (g : List ℕ) → Memᴰ g p.left.waiting → Memᴰ g ws

by_pick_within : (ws : List (List ℕ)) (p : ℕ) (ps : List ℕ) → 0 < length ws → Within ws (by_pick ws p ps)
by_pick_within ws p ps h =
    let at = p % length ws in
    cond_both (nat_lt p 128) _ _ (Within ws)
    (λ _. record { came = in_get_or ws at [] (mod-lt p h); left = λ g m. m })
    (λ _. record { came = tt; left = λ g m. ⊎_elim (in_take at ws) (in_drop (at + 1) ws) (Memᴰ.append_cases (take at ws) m) })

picked_within : (ws : List (List ℕ)) (ps : List ℕ) → Within ws (picked ws ps)
picked_within ws [] = record { came = tt; left = λ g m. m }
picked_within [] (p ∷ ps) = record { came = tt; left = λ g m. m }
picked_within (w ∷ ws) (p ∷ ps) = by_pick_within (w ∷ ws) p ps (omega arith)

pub fair_courier : {C : Type 0} (cargo : C → Cargo) → Fair (courier cargo)
fair_courier cargo = record {
  put = λ c d f g h m. in_put 64 (cargo c).waiting f g (subst (λ (x : Cargo). Memᴰ g x.waiting) h m);
  took = λ c d f h. (subst (Within (cargo c).waiting) h (picked_within (cargo c).waiting (cargo c).picks)).came;
  left = λ c d o g h m. (subst (Within (cargo c).waiting) h (picked_within (cargo c).waiting (cargo c).picks)).left g m;
}
