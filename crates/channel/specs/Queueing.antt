-- The in-order channel is fair.
use Rattle.std.specs.Prelude.{ℕ, List, [], ◌∷◌, refl}
use Rattle.std.proofs.Common.{sym, subst}
use mathlib.Core.List.{Memᴰ}
use Rattle.channel.specs.Links.{Fair}
use Rattle.channel.specs.Queues.{first, queue}
use Rattle.channel.specs.Members.{From, in_drop, in_put}

from_first : (ws : List (List ℕ)) → From ws (first ws)
from_first [] = tt
from_first (w ∷ ws) = Memᴰ.head refl

pub fair_queue : {C : Type 0} (waiting : C → List (List ℕ)) → Fair (queue waiting)
fair_queue waiting = record {
  put = λ c d f g h m. in_put 64 (waiting c) f g (subst (Memᴰ g) h m);
  took = λ c d f h. subst (From (waiting c)) (sym h.came) (from_first (waiting c));
  left = λ c d o g h m. in_drop 1 (waiting c) (subst (Memᴰ g) h.rest m);
}
