-- What a step does with the frame that it took.
use Rattle.std.specs.Prelude.{◌≡◌, ℕ, ◌-◌, ◌*◌, Bool, true, false, cond, ◌&&◌, List, Some, None, Ok, Err, Option, Result, ◌==◌, slice_index}
use Rattle.channel.specs.Links.{Link}
use Rattle.element.specs.Model.{Model}
use Rattle.element.specs.Tables.{held_at}
use Rattle.element.specs.declared.refusal.Refusal.{Refusal}
use Rattle.element.specs.declared.refusal.Refusal.TheVariants.{Size, Frame as Unlawful, Stale}
use Rattle.frame.specs.Decoding.{decoded}
use Rattle.frame.specs.Frames.{Frame, compare, same, differ, offer, held, written}
use Rattle.tree.specs.Walk.{follow}
use Rattle.replica.specs.Replicas.{Replica, fitting, with_progress, absorbed, question}
use Rattle.replica.specs.Rounds.{State, idle, running, Progress, in_state, moved_to, going}
use Rattle.replica.specs.declared.answer.Answer.{Answer}
use Rattle.replica.specs.declared.answer.Answer.TheVariants.{Nothing, Answered}

-- A round of number `last` is at this range: an answer of round r and range n is to be taken.
abbrev pub awaits_at : ℕ → State → ℕ → ℕ → Bool
awaits_at last idle r n = false
awaits_at last (running k c) r n = last == r && k == n

abbrev pub awaits : Progress → ℕ → ℕ → Bool
awaits p r n = awaits_at p.last p.state r n

-- How many answers were taken.
abbrev pub count_of : State → ℕ
count_of idle = 0
count_of (running n c) = c

-- One fact where a test is true, another where it is false.
abbrev pub Where : Bool → Type 0 → Type 0 → Type 0
Where true P Q = P
Where false P Q = Q

module _ {R : Type 0} (m : Model R) (h : List ℕ → ℕ) {O : Type 0} (l : Link O) where
  -- Nothing but the incoming channel was touched.
  pub record Untouched (s t : Replica R) (c d : O) : Type 0 where
    pub replica : t ≡ s
    pub link : d ≡ c

  -- The question of the range that comes next is put, if one comes.
  abbrev pub Asks : Option ℕ → Replica R → O → O → Type 0
  Asks None t c d = d ≡ c
  Asks (Some n) t c d = l.puts c (written (question m h t n)) d

  -- An answer was taken, and the round goes on to the range that comes next, or ends.
  pub record Proceeds (next : Option ℕ) (s t : Replica R) (c d : O) (y : Result Answer Refusal) : Type 0 where
    pub says : y ≡ Ok (going (count_of s.progress.state) next)
    pub replica : t ≡ with_progress s (in_state s.progress (moved_to (count_of s.progress.state) next))
    pub link : Asks next t c d

  pub record Declined (e : Refusal) (s t : Replica R) (c d : O) (y : Result Answer Refusal) : Type 0 where
    pub says : y ≡ Err e
    pub untouched : Untouched s t c d

  -- A question is answered with its own round and range.
  pub record Compared (r n x : ℕ) (s t : Replica R) (c d : O) (y : Result Answer Refusal) : Type 0 where
    pub says : y ≡ Ok Answered
    pub replica : t ≡ s
    pub link : l.puts c (written (cond (x == slice_index s.digests n) (same r n) (differ r n))) d

  pub record Offered (r n : ℕ) (x : R) (s t : Replica R) (c d : O) (y : Result Answer Refusal) : Type 0 where
    pub says : y ≡ Ok Answered
    pub replica : t ≡ absorbed m h s (n - s.progress.size) x
    pub link : l.puts c (written (held r n (m.written (held_at m s.elements (n - s.progress.size) x)))) d

  -- The element that bytes are, where they are lawful.
  abbrev pub With : List ℕ → (R → Type 0) → Type 0
  With bs P = (x : R) × (m.parsed bs ≡ Some x) × P x

  -- An answer is taken where it is awaited, and is stale otherwise.
  abbrev pub Taken : ℕ → ℕ → Replica R → Replica R → O → O → Result Answer Refusal → Type 0 → Type 0
  Taken r n s t c d y P = Where (awaits s.progress r n) P (Declined Stale s t c d y)

  abbrev pub Reacts : Frame → Replica R → Replica R → O → O → Result Answer Refusal → Type 0
  Reacts (compare r n x) s t c d y = Compared r n x s t c d y
  Reacts (same r n) s t c d y = Taken r n s t c d y (Proceeds (follow n) s t c d y)
  Reacts (differ r n) s t c d y = Taken r n s t c d y (Proceeds (Some (2 * n)) s t c d y)
  Reacts (offer r n bs) s t c d y = With bs (λ x. Offered r n x s t c d y)
  Reacts (held r n bs) s t c d y = Taken r n s t c d y (With bs (λ x. Proceeds (follow n) (absorbed m h s (n - s.progress.size) x) t c d y))

  -- A frame that is not lawful is declined.
  abbrev pub Judged : Option Frame → Replica R → Replica R → O → O → Result Answer Refusal → Type 0
  Judged None s t c d y = Declined Unlawful s t c d y
  Judged (Some f) s t c d y = Reacts f s t c d y

  -- Where no frame came, a step says so.
  pub record Waited (s t : Replica R) (c d : O) (y : Result Answer Refusal) : Type 0 where
    pub says : y ≡ Ok Nothing
    pub untouched : Untouched s t c d

  abbrev pub Handled : Option (List ℕ) → Replica R → Replica R → O → O → Result Answer Refusal → Type 0
  Handled None s t c d y = Waited s t c d y
  Handled (Some bs) s t c d y = Judged (decoded m s.progress.size bs) s t c d y

  module _ {I : Type 0} (j : Link I) where
    -- A step takes what comes from the incoming channel, and handles it.
    pub record Takes (got : Option (List ℕ)) (s t : Replica R) (a b : I) (c d : O) (y : Result Answer Refusal) : Type 0 where
      pub taken : j.takes a got b
      pub handled : Handled got s t c d y

    -- Tables of other sizes are declined, and then no frame is taken.
    pub record Refused (s t : Replica R) (a b : I) (c d : O) (y : Result Answer Refusal) : Type 0 where
      pub declined : Declined Size s t c d y
      pub incoming : b ≡ a

    abbrev pub StepsWith : Option (List ℕ) → Replica R → Replica R → I → I → O → O → Result Answer Refusal → Type 0
    StepsWith got s t a b c d y = Where (fitting s) (Takes got s t a b c d y) (Refused s t a b c d y)

    pub record Steps (s t : Replica R) (a b : I) (c d : O) (y : Result Answer Refusal) : Type 0 where
      pub got : Option (List ℕ)
      pub does : StepsWith got s t a b c d y
