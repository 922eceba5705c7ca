-- The stack is fair.
use Rattle.std.proofs.Common.{sym, subst}
use Rattle.std.specs.Prelude.{ℕ, List, Some, None, Option, refl}
use mathlib.Core.List.Memᴰ
use mathlib.Core.List.{Memᴰ}
use Rattle.channel.specs.Links.{Fair}
use Rattle.channel.specs.Members.{in_put}
use Rattle.channel_tests.specs.Stacks.{Popped, stack}

in_left : (ws vs : List (List ℕ)) (o : Option (List ℕ)) (g : List ℕ) → Popped ws o vs → Memᴰ g vs → Memᴰ g ws
in_left ws vs None g h m = absurd (Memᴰ.not-nil (subst (Memᴰ g) h.1 m))
in_left ws vs (Some f) g h m = subst (Memᴰ g) (sym h) (Memᴰ.append_left _ m)

pub fair_stack : {C : Type 0} (waiting : C → List (List ℕ)) → Fair (stack waiting)
fair_stack waiting = record {
  put = λ c d f g h m. in_put 4 (waiting c) f g (subst (Memᴰ g) h m);
  took = λ c d f h. subst (Memᴰ f) (sym h) (Memᴰ.append_right (waiting d) (Memᴰ.head refl));
  left = λ c d o g h m. in_left (waiting c) (waiting d) o g h m;
}
