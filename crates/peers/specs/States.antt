-- The pair that a value of the code is, and what a call does to it.
use Rattle.std.specs.Prelude.{◌≡◌, ℕ, ◌^◌, ◌<◌, true, false, ◌&&◌, List, length, Ok, Err, vec_items, Option, Result, ◌==◌}
use Rattle.channel.specs.Links.{Link, Arrives}
use Rattle.element.specs.Model.{Model}
use Rattle.element.specs.declared.refusal.Refusal.{Refusal}
use Rattle.element.specs.declared.refusal.Refusal.TheVariants.{Size}
use Rattle.replica.specs.Calls.{made}
use Rattle.replica.specs.Replicas.{Replica, replica_of}
use Rattle.replica.specs.declared.answer.Answer.{Answer}
use Rattle.tree.specs.Sizes.{sized}
use Rattle.tree.specs.Tree.{tree}
use Rattle.peers.specs.Pairs.{End, left, right, other, lines, Pair, Event, stepped, Begins, Does, Happens}
use Rattle.peers.specs.declared.owner.Owner.{Owner}
use Rattle.peers.specs.declared.pair.Peers.{Peers}
use Rattle.peers.specs.declared.start.Start.{Start}
use Rattle.peers.specs.declared.unmade.Unmade.{Unmade}
use Rattle.peers.specs.declared.unmade.Unmade.TheVariants.{Refused, Memory}

-- The replica that an owner has.
abbrev pub owned : {E : Type 0} → Owner E → Replica E
owned s = replica_of s.round (vec_items s.elements) (vec_items s.digests)

-- A replica as make leaves it over these elements.
abbrev pub fresh : {E : Type 0} → Model E → (List ℕ → ℕ) → Start E → Replica E
fresh m h s = record { progress = made (length (vec_items s.elements)) s.last; elements = vec_items s.elements; digests = tree m h (vec_items s.elements) }

-- The number of its keys.
abbrev pub size_of : {E : Type 0} → Start E → ℕ
size_of s = length (vec_items s.elements)

-- One replica is made of a start that has a size, if there is memory. Sizes are judged first.
abbrev pub Owns : {E : Type 0} → Model E → (List ℕ → ℕ) → Start E → Result (Owner E) Unmade → Type 0
Owns m h s (Ok o) = (sized (size_of s) ≡ true) × (owned o ≡ fresh m h s) × (s.last < 2 ^ 32)
Owns m h s (Err (Refused z)) = (sized (size_of s) ≡ false) × (z ≡ Size)
Owns m h s (Err Memory) = sized (size_of s) ≡ true

-- The digest that both replicas are under.
abbrev pub digest_of : {E D A B : Type 0} → Peers E D A B → D
digest_of p = p.digest

module _ {E D A B : Type 0} (a : Link A) (b : Link B) where
  abbrev pub replicas : Peers E D A B → End → Replica E
  replicas p left = owned p.left
  replicas p right = owned p.right

  abbrev pub channels : Peers E D A B → (e : End) → (lines a b).Channel e
  channels p left = p.to_left
  channels p right = p.to_right

  abbrev pub pair_of : Peers E D A B → Pair E (lines a b)
  pair_of p = record { replica = replicas p; toward = channels p }

  -- A call at end e, handed the tables there, leads from p to q by the event v. The digest is as it was.
  pub record Goes (m : Model E) (function : D → List ℕ → ℕ) (e : End) (v : Event E) (p q : Peers E D A B) : Type 0 where
    pub digest : q.digest ≡ p.digest
    pub does : Does m (function p.digest) (lines a b) v (pair_of p) (pair_of q) (replicas p e) (replicas q e)
    pub there : replicas q (other e) ≡ replicas p (other e)
    pub happens : Happens m (function p.digest) (lines a b) v (pair_of p) (pair_of q)

  -- A step, with the frame that came, or none.
  pub record StepsTo (m : Model E) (function : D → List ℕ → ℕ) (e : End) (y : Result Answer Refusal) (p q : Peers E D A B) : Type 0 where
    pub got : Option (List ℕ)
    pub goes : Goes m function e (stepped e got y) p q

  -- A pair is made of two starts of one size, if there is memory: fresh replicas, and the channels that were given. Sizes
  -- are judged first.
  abbrev pub MakesPair : Model E → (D → List ℕ → ℕ) → D → Start E → Start E → A → B → Result (Peers E D A B) Unmade → Type 0
  MakesPair m function d l r i o (Ok p) =
      (p.digest ≡ d) × (owned p.left ≡ fresh m (function d) l) × (owned p.right ≡ fresh m (function d) r) × (p.to_left ≡ i) × (p.to_right ≡ o)
      × (sized (size_of l) ≡ true) × (size_of r ≡ size_of l)
  MakesPair m function d l r i o (Err (Refused z)) = ((sized (size_of l) && size_of l == size_of r) ≡ false) × (z ≡ Size)
  MakesPair m function d l r i o (Err Memory) = (sized (size_of l) && size_of l == size_of r) ≡ true

  -- Where nothing may arrive from its channels, a run may begin with it.
  abbrev pub Begun : Model E → (D → List ℕ → ℕ) → Result (Peers E D A B) Unmade → Type 0
  Begun m function (Ok p) = ((e : End) (f : List ℕ) → Arrives ((lines a b).link e) (channels p e) f → ⊥) → Begins m (function p.digest) (lines a b) (pair_of p)
  Begun m function (Err u) = Unit {0}
