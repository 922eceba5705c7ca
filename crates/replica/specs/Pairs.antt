-- Two replicas and the channel toward each, and what can happen to them (for the earlier statement of `Promise`).
use Rattle.std.specs.Prelude.{◌≡◌, ℕ, ◌^◌, ◌<◌, Bool, true, false, List, length, Option, Result}
use Rattle.channel.specs.Links.{Link, Arrives}
use Rattle.element.specs.Model.{Model}
use Rattle.element.specs.declared.refusal.Refusal.{Refusal}
use Rattle.tree.specs.Sizes.{fit}
use Rattle.tree.specs.Tree.{build_after}
use Rattle.replica.specs.Calls.{IfAccepted, Puts, made, lay_answer, lay_after, open_answer, open_after, running_answer, abandon_after, current}
use Rattle.replica.specs.Replicas.{Replica}
use Rattle.replica.specs.Steps.{StepsWith}
use Rattle.replica.specs.declared.answer.Answer.{Answer}

pub data End : Type 0 where
  left right : End

abbrev pub other : End → End
other left = right
other right = left

abbrev pub same_end : End → End → Bool
same_end left left = true
same_end left right = false
same_end right left = false
same_end right right = true

-- The channel toward each end is of a type of its own.
pub record Lines : Type 1 where
  pub Channel : End → Type 0
  pub link : (e : End) → Link (Channel e)

pub record Pair (R : Type 0) (L : Lines) : Type 0 where
  pub replica : End → Replica R
  pub toward : (e : End) → L.Channel e

-- A call at one end, with what it was told and what it answered, or a loss on the links.
pub data Event (R : Type 0) : Type 0 where
  laid : End → ℕ → R → Result (Unit {0}) Refusal → Event R
  opened : End → Result (Unit {0}) Refusal → Event R
  resent : End → Result (Unit {0}) Refusal → Event R
  abandoned : End → Result (Unit {0}) Refusal → Event R
  -- with the frame that came, or none
  stepped : End → Option (List ℕ) → Result Answer Refusal → Event R
  lost : Event R

module _ {R : Type 0} (m : Model R) (h : List ℕ → ℕ) (L : Lines) where
  -- A replica as make leaves it, over elements and a digest table of any content. Round numbers have 32 bits.
  pub record Made (s : Replica R) : Type 0 where
    pub last : ℕ
    pub numbered : last < 2 ^ 32
    pub found : List ℕ
    pub fits : fit (length s.elements) (length found) ≡ true
    pub progress : s.progress ≡ made (length s.elements) last
    pub digests : s.digests ≡ build_after m h s.elements found

  -- A pair begins with two replicas of one size, just made, and no frame that may arrive.
  pub record Begins (p : Pair R L) : Type 0 where
    pub makes : (e : End) → Made (p.replica e)
    pub one_size : length (p.replica left).elements ≡ length (p.replica right).elements
    pub empty : (e : End) (f : List ℕ) → Arrives (L.link e) (p.toward e) f → ⊥

  -- A call at end e that answered y was handed the record there and two tables. An accepted call was handed the tables
  -- there, and they are now what it left. A declined one may have been handed others, and nothing there has changed.
  pub record Called {A : Type 0} (e : End) (y : Result A Refusal) (p q : Pair R L)
      (Does : Replica R → Replica R → L.Channel e → L.Channel e → L.Channel (other e) → L.Channel (other e) → Type 0) : Type 0 where
    pub handed : Replica R
    pub leaves : Replica R
    pub its_record : handed.progress ≡ (p.replica e).progress
    pub does : Does handed leaves (p.toward e) (q.toward e) (p.toward (other e)) (q.toward (other e))
    pub here : IfAccepted y ((handed ≡ p.replica e) × (q.replica e ≡ leaves)) (q.replica e ≡ p.replica e)
    pub there : q.replica (other e) ≡ p.replica (other e)

  -- Each call, from the replica s and its channels a inward and c outward to t, b and d.
  pub record Lays {I O : Type 0} (k : ℕ) (x : R) (y : Result (Unit {0}) Refusal) (s t : Replica R) (a b : I) (c d : O) : Type 0 where
    pub answer : y ≡ lay_answer m h s k
    pub after : t ≡ lay_after m h s k x
    pub inward : b ≡ a
    pub outward : d ≡ c

  pub record Opens {I O : Type 0} (l : Link O) (y : Result (Unit {0}) Refusal) (s t : Replica R) (a b : I) (c d : O) : Type 0 where
    pub answer : y ≡ open_answer m h s
    pub after : t ≡ open_after m h s
    pub inward : b ≡ a
    pub outward : Puts m h t y l (current m h t t.progress.state) c d

  pub record Resends {I O : Type 0} (l : Link O) (y : Result (Unit {0}) Refusal) (s t : Replica R) (a b : I) (c d : O) : Type 0 where
    pub answer : y ≡ running_answer m h s
    pub after : t ≡ s
    pub inward : b ≡ a
    pub outward : Puts m h t y l (current m h t t.progress.state) c d

  pub record Abandons {I O : Type 0} (y : Result (Unit {0}) Refusal) (s t : Replica R) (a b : I) (c d : O) : Type 0 where
    pub answer : y ≡ running_answer m h s
    pub after : t ≡ abandon_after m h s
    pub inward : b ≡ a
    pub outward : d ≡ c

  -- Between calls a link may lose frames: nothing may arrive that could not before.
  pub record Loses (p q : Pair R L) : Type 0 where
    pub replicas : (e : End) → q.replica e ≡ p.replica e
    pub links : (e : End) (f : List ℕ) → Arrives (L.link e) (q.toward e) f → Arrives (L.link e) (p.toward e) f

  -- The event takes the pair p to q.
  abbrev pub Happens : Event R → Pair R L → Pair R L → Type 0
  Happens (laid e k x y) p q = Called e y p q (Lays k x y)
  Happens (opened e y) p q = Called e y p q (Opens (L.link (other e)) y)
  Happens (resent e y) p q = Called e y p q (Resends (L.link (other e)) y)
  Happens (abandoned e y) p q = Called e y p q (Abandons y)
  Happens (stepped e got y) p q = Called e y p q (λ s t a b c d. StepsWith m h (L.link (other e)) (L.link e) got s t a b c d y)
  Happens lost p q = Loses p q
