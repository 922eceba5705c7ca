-- The record of a replica's round: its number of keys, the last round number that it used, and its state.
use Rattle.std.specs.Prelude.{ℕ, ◌+◌, cond, Some, None, Option}
use Rattle.replica.specs.declared.answer.Answer.{Answer}
use Rattle.replica.specs.declared.answer.Answer.TheVariants.{Moved, Complete}
use Rattle.replica.specs.declared.round.Round.{Round}

-- Idle, or running: at a range, with as many answers taken.
pub data State : Type 0 where
  idle : State
  running : ℕ → ℕ → State

pub record Progress : Type 0 where
  pub size : ℕ
  pub last : ℕ
  pub state : State

-- What the record's plain numbers say.
abbrev pub state_of : Round → State
state_of r = cond r.running (running r.range r.count) idle

abbrev pub progress_of : Round → Progress
progress_of r = record { size = r.size; last = r.last; state = state_of r }

-- The same record in another state.
abbrev pub in_state : Progress → State → Progress
in_state p s = record { size = p.size; last = p.last; state = s }

-- With the next round number, at range 1.
abbrev pub begun : Progress → Progress
begun p = record { size = p.size; last = p.last + 1; state = running 1 0 }

-- After an answer was taken, where so many were before: at the range that comes next, or at the end.
abbrev pub moved_to : ℕ → Option ℕ → State
moved_to count None = idle
moved_to count (Some n) = running n (count + 1)

-- What the step says that took it: it moved to that range, or the round is complete, with the count.
abbrev pub going : ℕ → Option ℕ → Answer
going count None = Complete (count + 1)
going count (Some n) = Moved n
