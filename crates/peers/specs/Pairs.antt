-- Two replicas and the channel toward each, and what can happen to them.
use Rattle.std.specs.Prelude.{◌≡◌, ℕ, ◌^◌, ◌<◌, Bool, true, false, List, length, Option, Result}
use Rattle.channel.specs.Links.{Link, Arrives}
use Rattle.element.specs.Model.{Model}
use Rattle.element.specs.declared.refusal.Refusal.{Refusal}
use Rattle.tree.specs.Sizes.{fit}
use Rattle.tree.specs.Tree.{build_after}
use Rattle.peers.specs.Calls.{Lays, Opens, Resends, Abandons}
use Rattle.replica.specs.Calls.{IfAccepted, made}
use Rattle.replica.specs.Replicas.{Replica}
use Rattle.replica.specs.Steps.{StepsWith}
use Rattle.replica.specs.declared.answer.Answer.{Answer}
pub use Rattle.peers.specs.declared.end.End.{End}
pub use Rattle.peers.specs.declared.end.End.TheVariants.{Left as left, Right as right}

abbrev pub other : End → End
other left = right
other right = left

abbrev pub same_end : End → End → Bool
same_end left left = true
same_end left right = false
same_end right left = false
same_end right right = true

-- The channel toward each end is of a type of its own.
pub record Lines : Type 1 where
  pub Channel : End → Type 0
  pub link : (e : End) → Link (Channel e)

-- Lines of a channel toward the left end and one toward the right.
abbrev pub lines : {A B : Type 0} → Link A → Link B → Lines
lines {A} {B} a b = record {
  Channel = elim [ left ↦ A | right ↦ B ];
  link = elim [ left ↦ a | right ↦ b ];
}

pub record Pair (R : Type 0) (L : Lines) : Type 0 where
  pub replica : End → Replica R
  pub toward : (e : End) → L.Channel e

-- A call at one end, with what it was told and what it answered, or what links do by themselves.
pub data Event (R : Type 0) : Type 0 where
  laid : End → ℕ → R → Result (Unit {0}) Refusal → Event R
  opened : End → Result (Unit {0}) Refusal → Event R
  resent : End → Result (Unit {0}) Refusal → Event R
  abandoned : End → Result (Unit {0}) Refusal → Event R
  -- with the frame that came, or none
  stepped : End → Option (List ℕ) → Result Answer Refusal → Event R
  lost : Event R

-- A replica as make leaves it, over elements and a digest table of any content. Round numbers have 32 bits.
pub record Made {R : Type 0} (m : Model R) (h : List ℕ → ℕ) (s : Replica R) : Type 0 where
  pub last : ℕ
  pub numbered : last < 2 ^ 32
  pub found : List ℕ
  pub fits : fit (length s.elements) (length found) ≡ true
  pub progress : s.progress ≡ made (length s.elements) last
  pub digests : s.digests ≡ build_after m h s.elements found

module _ {R : Type 0} (m : Model R) (h : List ℕ → ℕ) (L : Lines) where
  -- A pair begins with two replicas of one size, just made, and no frame that may arrive.
  pub record Begins (p : Pair R L) : Type 0 where
    pub makes : (e : End) → Made m h (p.replica e)
    pub one_size : length (p.replica left).elements ≡ length (p.replica right).elements
    pub empty : (e : End) (f : List ℕ) → Arrives (L.link e) (p.toward e) f → ⊥

  -- Both channels are as they were.
  abbrev pub Still : Pair R L → Pair R L → Type 0
  Still p q = (e : End) → q.toward e ≡ p.toward e

  -- What a call does, as its contract says, with the replica s that it is handed, which it leaves as t, and with the
  -- channels of the pair p, which it leaves as those of q. It puts frames to the channel toward the other end, and takes
  -- them from its own.
  abbrev pub Does : Event R → Pair R L → Pair R L → Replica R → Replica R → Type 0
  Does (laid e k x y) p q s t = Lays m h k x y s t × Still p q
  Does (opened e y) p q s t = Opens m h (L.link (other e)) y s t (p.toward (other e)) (q.toward (other e)) × (q.toward e ≡ p.toward e)
  Does (resent e y) p q s t = Resends m h (L.link (other e)) y s (p.toward (other e)) (q.toward (other e)) × (t ≡ s) × (q.toward e ≡ p.toward e)
  Does (abandoned e y) p q s t = Abandons m h y s t × Still p q
  Does (stepped e got y) p q s t = StepsWith m h (L.link (other e)) (L.link e) got s t (p.toward e) (q.toward e) (p.toward (other e)) (q.toward (other e)) y
  Does lost p q s t = ⊥

  -- A call v at end e that answered y was handed the record there and two tables. An accepted call was handed the tables
  -- there, and they are now what it left. A declined one may have been handed others, and nothing there has changed.
  pub record Called {A : Type 0} (e : End) (y : Result A Refusal) (v : Event R) (p q : Pair R L) : Type 0 where
    pub handed : Replica R
    pub leaves : Replica R
    pub its_record : handed.progress ≡ (p.replica e).progress
    pub does : Does v p q handed leaves
    pub here : IfAccepted y ((handed ≡ p.replica e) × (q.replica e ≡ leaves)) (q.replica e ≡ p.replica e)
    pub there : q.replica (other e) ≡ p.replica (other e)

  -- Between calls a link may lose frames: nothing may arrive that could not before.
  pub record Loses (p q : Pair R L) : Type 0 where
    pub replicas : (e : End) → q.replica e ≡ p.replica e
    pub links : (e : End) (f : List ℕ) → Arrives (L.link e) (q.toward e) f → Arrives (L.link e) (p.toward e) f

  -- The event takes the pair p to q.
  abbrev pub Happens : Event R → Pair R L → Pair R L → Type 0
  Happens (laid e k x y) p q = Called e y (laid e k x y) p q
  Happens (opened e y) p q = Called e y (opened e y) p q
  Happens (resent e y) p q = Called e y (resent e y) p q
  Happens (abandoned e y) p q = Called e y (abandoned e y) p q
  Happens (stepped e got y) p q = Called e y (stepped e got y) p q
  Happens lost p q = Loses p q
