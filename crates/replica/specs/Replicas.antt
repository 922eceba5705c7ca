-- A replica: the record of its round, its element table and its digest table.
use Rattle.std.specs.Prelude.{ℕ, ◌-◌, ◌*◌, Bool, cond, ◌&&◌, List, length, ◌==◌, nat_lt, slice_index, slice_index_or}
use Rattle.element.specs.Model.{Model}
use Rattle.element.specs.Tables.{joined_at}
use Rattle.frame.specs.Frames.{Frame, compare, offer}
use Rattle.tree.specs.Renewal.{renewed}
use Rattle.replica.specs.Rounds.{Progress, progress_of}
use Rattle.replica.specs.declared.round.Round.{Round}

pub record Replica (R : Type 0) : Type 0 where
  pub progress : Progress
  pub elements : List R
  pub digests : List ℕ

-- What a call is handed: a record and two tables.
abbrev pub replica_of : {R : Type 0} → Round → List R → List ℕ → Replica R
replica_of r es ds = record { progress = progress_of r; elements = es; digests = ds }

-- The tables have the sizes that the record asks.
abbrev pub fitting : {R : Type 0} → Replica R → Bool
fitting s = length s.elements == s.progress.size && length s.digests == 2 * s.progress.size

-- The same tables with another record.
abbrev pub with_progress : {R : Type 0} → Replica R → Progress → Replica R
with_progress s p = record { progress = p; elements = s.elements; digests = s.digests }

module _ {R : Type 0} (m : Model R) (h : List ℕ → ℕ) where
  -- An element joined into a key, and the digests renewed.
  abbrev pub absorbed : Replica R → ℕ → R → Replica R
  absorbed s k x =
      let es : List R = joined_at m s.elements k x in
      record { progress = s.progress; elements = es; digests = renewed m h es k s.digests }

  -- The question of range n: its digest where it has halves, and of a single key its element.
  abbrev pub question : Replica R → ℕ → Frame
  question s n =
      cond (nat_lt n s.progress.size)
      (compare s.progress.last n (slice_index s.digests n))
      (offer s.progress.last n (m.written (slice_index_or s.elements (n - s.progress.size) m.bottom)))
