-- What each call answers and leaves, for tables of any content and length.
use Rattle.std.specs.Prelude.{◌≡◌, ℕ, Bool, true, false, cond, List, is_ok, Ok, Err, Result, ◌==◌, nat_lt, slice_index_or}
use Rattle.channel.specs.Links.{Link}
use Rattle.element.specs.Model.{Model}
use Rattle.element.specs.declared.refusal.Refusal.{Refusal}
use Rattle.element.specs.declared.refusal.Refusal.TheVariants.{Size, Key, Busy, Idle, Spent}
use Rattle.frame.specs.Frames.{Frame, written}
use Rattle.tree.specs.Sizes.{fit}
use Rattle.replica.specs.Replicas.{Replica, fitting, with_progress, absorbed, question}
use Rattle.replica.specs.Rounds.{State, idle, running, Progress, progress_of, in_state, begun}
use Rattle.replica.specs.declared.round.Round.{Round}

-- What a declined call leaves is what it found.
abbrev pub if_ok : {A B : Type 0} → Result A Refusal → B → B → B
if_ok (Ok a) x y = x
if_ok (Err e) x y = y

-- The same of facts: what holds after an accepted call, and after a declined one.
abbrev pub IfAccepted : {A : Type 0} → Result A Refusal → Type 0 → Type 0 → Type 0
IfAccepted (Ok a) P Q = P
IfAccepted (Err e) P Q = Q

-- Whether a round runs.
abbrev pub runs : State → Bool
runs idle = false
runs (running n c) = true

-- Make is told the last round number and is handed tables of any size. What it answers: a record, idle.
abbrev pub made : ℕ → ℕ → Progress
made n last = record { size = n; last = last; state = idle }

pub record Makes (n d last : ℕ) (r : Result Round Refusal) : Type 0 where
  pub accepts : fit n d ≡ true → is_ok r ≡ true
  pub declines : fit n d ≡ false → r ≡ Err Size
  pub answers : (k : Round) → r ≡ Ok k → progress_of k ≡ made n last

module _ {R : Type 0} (m : Model R) (h : List ℕ → ℕ) (s : Replica R) where
  -- Lay joins an element into a key.
  abbrev pub lay_answer : ℕ → Result (Unit {0}) Refusal
  lay_answer k = cond (fitting s) (cond (nat_lt k s.progress.size) (Ok tt) (Err Key)) (Err Size)

  abbrev pub lay_after : ℕ → R → Replica R
  lay_after k x = if_ok (lay_answer k) (absorbed m h s k x) s

  -- Show answers what a key holds, as what its record stands for.
  abbrev pub show_answer : ℕ → Result R Refusal
  show_answer k = cond (fitting s) (cond (nat_lt k s.progress.size) (Ok (m.means (slice_index_or s.elements k m.bottom))) (Err Key)) (Err Size)

  -- Open asks that none runs and that a number is left. It takes the next number and starts at range 1.
  abbrev pub open_answer : Result (Unit {0}) Refusal
  open_answer =
      cond (fitting s)
      (cond (runs s.progress.state) (Err Busy) (cond (s.progress.last == 4294967295) (Err Spent) (Ok tt)))
      (Err Size)

  abbrev pub open_after : Replica R
  open_after = if_ok open_answer (with_progress s (begun s.progress)) s

  -- Resend and abandon ask that a round runs. Abandon ends it; its number stays used.
  abbrev pub running_answer : Result (Unit {0}) Refusal
  running_answer = cond (fitting s) (cond (runs s.progress.state) (Ok tt) (Err Idle)) (Err Size)

  abbrev pub abandon_after : Replica R
  abandon_after = if_ok running_answer (with_progress s (in_state s.progress idle)) s

  -- The question of the range that is asked about now.
  abbrev pub current : State → Frame
  current idle = question m h s 0
  current (running n c) = question m h s n

  -- The channel toward the other replica after a call that puts this frame where it is accepted.
  abbrev pub Puts : {A C : Type 0} → Result A Refusal → Link C → Frame → C → C → Type 0
  Puts r l f c d = IfAccepted r (l.puts c (written f) d) (d ≡ c)
