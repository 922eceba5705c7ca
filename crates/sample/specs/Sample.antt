-- A run of a pair of replicas with 4 keys, over channels that keep their frames in order.
use Rattle.std.specs.Prelude.{◌≡◌, ℕ, ◌+◌, ◌*◌, ◌<◌, List, [], ◌∷◌, Some, Ok, Err, Result, slice_index_or}
use Rattle.channel.specs.Queues.{queue}
use Rattle.digest.specs.Folds.{sum}
use Rattle.element.specs.Ruled.{ruled}
use Rattle.element.specs.declared.refusal.Refusal.{Refusal}
use Rattle.element.specs.declared.refusal.Refusal.TheVariants.{Stale}
use Rattle.frame.specs.Frames.{Frame, compare, same, differ, offer, held, written}
use Rattle.kinds.specs.Registers.{register, register_of, register_bytes}
use Rattle.kinds.specs.declared.register.Register.{Register}
use Rattle.peers.specs.Pairs.{Lines, lines, Event, laid, opened, resent, stepped, lost}
use Rattle.peers.specs.Promise.{tally, Collision, stirred}
use Rattle.peers.specs.Runs.{Run, keys, holds}
use Rattle.peers.specs.declared.end.End.{End}
use Rattle.peers.specs.declared.end.End.TheVariants.{Left as left, Right as right}
use Rattle.replica.specs.declared.answer.Answer.{Answer}
use Rattle.replica.specs.declared.answer.Answer.TheVariants.{Answered, Moved, Complete}

-- Two in-order channels. Each is the list of the frames that wait in it.
abbrev pub in_order : Lines
in_order = lines (queue (λ (ws : List (List ℕ)). ws)) (queue (λ (ws : List (List ℕ)). ws))

-- The element that is laid: stamp 7, office 2, value 3050.
abbrev pub entry : Register
entry = register_of 7 2 3050

-- A step at end e takes the frame f and answers y.
abbrev pub took : End → Frame → Result Answer Refusal → Event Register
took e f y = stepped e (Some (written f)) y

-- The count of the report.
abbrev pub reported : ℕ
reported = 5

-- The events: the left end lays the element at key 2, and its first round brings it to the right end. The first question
-- is sent twice, so the second answer to it is stale.
abbrev pub sample_events : List (Event Register)
sample_events =
    laid left 2 entry (Ok tt)
    ∷ opened left (Ok tt)
    ∷ took right (compare 1 1 257) (Ok Answered)
    ∷ resent left (Ok tt)
    ∷ took left (differ 1 1) (Ok (Moved 2))
    ∷ took right (compare 1 1 257) (Ok Answered)
    ∷ took right (compare 1 2 1) (Ok Answered)
    ∷ took left (differ 1 1) (Err Stale)
    ∷ took left (same 1 2) (Ok (Moved 3))
    ∷ took right (compare 1 3 255) (Ok Answered)
    ∷ took left (differ 1 3) (Ok (Moved 6))
    ∷ took right (offer 1 6 (register_bytes entry)) (Ok Answered)
    ∷ took left (held 1 6 (register_bytes entry)) (Ok (Moved 7))
    ∷ took right (offer 1 7 (register_bytes register.bottom)) (Ok Answered)
    ∷ took left (held 1 7 (register_bytes register.bottom)) (Ok (Complete reported))
    ∷ []

-- Event t of them.
abbrev pub sample_event : ℕ → Event Register
sample_event t = slice_index_or sample_events t lost

-- There is a run of these 15 events.
pub record Sample : Type 0 where
  pub run : Run (ruled register) sum in_order 15
  pub events : (t : ℕ) → t < 15 → run.event t ≡ sample_event t
  pub four_keys : keys run ≡ 4
  -- at first neither end holds an element at key 2, and at last both hold the one that was laid
  pub at_first : (e : End) → holds run 0 e 2 ≡ register.bottom
  pub at_last : (e : End) → holds run 15 e 2 ≡ entry
  -- the count of the report is the most that the promise allows
  pub count_is_bound : reported ≡ 1 + 2 * 2 * tally (stirred run 1 14) 4
  -- the round, from its opening to its report, has no collision
  pub no_collision : Collision run left 1 1 14 → ⊥
