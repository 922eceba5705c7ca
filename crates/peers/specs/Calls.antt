-- What lay, open, resend and abandon do: all that the clauses of each one's contract say, as one relation. It goes by what
-- the call answers (y), from the replica s that it is handed to t, which it leaves; and from the outgoing channel c to d,
-- where it puts a frame. Step's contract is such a relation already.
use Rattle.std.specs.Prelude.{◌≡◌, ℕ, List, Result}
use Rattle.channel.specs.Links.{Link}
use Rattle.element.specs.Model.{Model}
use Rattle.element.specs.declared.refusal.Refusal.{Refusal}
use Rattle.replica.specs.Calls.{if_ok, lay_answer, open_answer, running_answer, current, Puts}
use Rattle.replica.specs.Replicas.{Replica, with_progress, absorbed}
use Rattle.replica.specs.Rounds.{idle, in_state, begun}

module _ {R : Type 0} (m : Model R) (h : List ℕ → ℕ) where
  -- Lay joins an element into a key.
  pub record Lays (k : ℕ) (x : R) (y : Result (Unit {0}) Refusal) (s t : Replica R) : Type 0 where
    pub answer : y ≡ lay_answer m h s k
    pub after : t ≡ if_ok y (absorbed m h s k x) s

  -- Open takes the next number, starts at range 1 and puts its question.
  pub record Opens {O : Type 0} (l : Link O) (y : Result (Unit {0}) Refusal) (s t : Replica R) (c d : O) : Type 0 where
    pub answer : y ≡ open_answer m h s
    pub after : t ≡ if_ok y (with_progress s (begun s.progress)) s
    pub puts : Puts m h t y l (current m h t t.progress.state) c d

  -- Resend puts the question of the running range as it stands now.
  pub record Resends {O : Type 0} (l : Link O) (y : Result (Unit {0}) Refusal) (s : Replica R) (c d : O) : Type 0 where
    pub answer : y ≡ running_answer m h s
    pub puts : Puts m h s y l (current m h s s.progress.state) c d

  -- Abandon ends the round. Its number stays used.
  pub record Abandons (y : Result (Unit {0}) Refusal) (s t : Replica R) : Type 0 where
    pub answer : y ≡ running_answer m h s
    pub after : t ≡ if_ok y (with_progress s (in_state s.progress idle)) s
