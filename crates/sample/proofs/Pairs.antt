-- The pairs of the run, and that each event leads from one to the next.
use Rattle.std.proofs.Common.{◌≡◌, ℕ, suc, ◌<◌, List, [], ◌∷◌, map, get_or, Ok, refl}
use Rattle.digest.specs.Folds.{sum}
use Rattle.element.specs.Ruled.{ruled}
use Rattle.frame.specs.Frames.{Frame, compare, same, differ, offer, held, written}
use Rattle.kinds.specs.Registers.{register, register_bytes}
use Rattle.kinds.specs.declared.register.Register.{Register}
use Rattle.peers.specs.Pairs.{other, Pair, Event, Does, Called, Happens}
use Rattle.peers.specs.declared.end.End.{End}
use Rattle.peers.specs.declared.end.End.TheVariants.{Left as left, Right as right}
use Rattle.replica.specs.Replicas.{Replica}
use Rattle.replica.specs.Rounds.{State, idle, running}
use Rattle.tree.specs.Renewal.{climbed, renewed}
use Rattle.tree.specs.Walk.{follow}
use Rattle.sample.specs.Sample.{in_order, entry, sample_event}
use Rattle.sample.proofs.Cases.{each}
use Rattle.sample.proofs.Tables.{bottom, before, after, digests_before, digests_after}

-- a replica with the first tables, which has used no round number; and one with the second
abbrev pub blank : Replica Register
blank = record { progress = record { size = 4; last = 0; state = idle }; elements = before; digests = digests_before }

abbrev filled : ℕ → State → Replica Register
filled last s = record { progress = record { size = 4; last = last; state = s }; elements = after; digests = digests_after }

-- the left end in its round, at range n, with as many answers taken
abbrev asking : ℕ → ℕ → Replica Register
asking n c = filled 1 (running n c)

-- a pair by its replicas, the left first, and by the frames that wait toward the left and toward the right
abbrev pair_of : Replica Register → Replica Register → List Frame → List Frame → Pair Register in_order
pair_of a b fs gs = record {
  replica = elim [ left ↦ a | right ↦ b ];
  toward = elim [ left ↦ map written fs | right ↦ map written gs ];
}

abbrev ended : Pair Register in_order
ended = pair_of (filled 1 idle) (filled 0 idle) [] []

abbrev pairs : List (Pair Register in_order)
pairs =
    pair_of blank blank [] []
    ∷ pair_of (filled 0 idle) blank [] []
    ∷ pair_of (asking 1 0) blank [] (compare 1 1 257 ∷ [])
    ∷ pair_of (asking 1 0) blank (differ 1 1 ∷ []) []
    ∷ pair_of (asking 1 0) blank (differ 1 1 ∷ []) (compare 1 1 257 ∷ [])
    ∷ pair_of (asking 2 1) blank [] (compare 1 1 257 ∷ compare 1 2 1 ∷ [])
    ∷ pair_of (asking 2 1) blank (differ 1 1 ∷ []) (compare 1 2 1 ∷ [])
    ∷ pair_of (asking 2 1) blank (differ 1 1 ∷ same 1 2 ∷ []) []
    ∷ pair_of (asking 2 1) blank (same 1 2 ∷ []) []
    ∷ pair_of (asking 3 2) blank [] (compare 1 3 255 ∷ [])
    ∷ pair_of (asking 3 2) blank (differ 1 3 ∷ []) []
    ∷ pair_of (asking 6 3) blank [] (offer 1 6 (register_bytes entry) ∷ [])
    ∷ pair_of (asking 6 3) (filled 0 idle) (held 1 6 (register_bytes entry) ∷ []) []
    ∷ pair_of (asking 7 4) (filled 0 idle) [] (offer 1 7 (register_bytes bottom) ∷ [])
    ∷ pair_of (asking 7 4) (filled 0 idle) (held 1 7 (register_bytes bottom) ∷ []) []
    ∷ []

abbrev pub pair_at : ℕ → Pair Register in_order
pair_at t = get_or pairs t ended

abbrev Next : ℕ → Type 0
Next t = Happens (ruled register) sum in_order (sample_event t) (pair_at t) (pair_at (suc t))

-- an accepted call, handed the tables that stand there
accepted : {A : Type 0} (e : End) (a : A) (v : Event Register) (p q : Pair Register in_order)
    → Does (ruled register) sum in_order v p q (p.replica e) (q.replica e) → q.replica (other e) ≡ p.replica (other e) → Called (ruled register) sum in_order e (Ok a) v p q
accepted e a v p q d o = record { handed = p.replica e; leaves = q.replica e; its_record = refl; does = d; here = (refl, refl); there = o }

laying : Next 0
unfolding renewed climbed
laying = accepted left tt _ _ _ (record { answer = refl; after = refl }, elim [ left ↦ refl | right ↦ refl ]) refl

opening : Next 1
opening = accepted left tt _ _ _ (record { answer = refl; after = refl; puts = refl }, refl) refl

first_compared : Next 2
first_compared = accepted right _ _ _ _ (record { taken = record { came = refl; rest = refl }; handled = record { says = refl; replica = refl; link = refl } }) refl

resending : Next 3
resending = accepted left tt _ _ _ (record { answer = refl; puts = refl }, refl, refl) refl

first_differs : Next 4
first_differs = accepted left _ _ _ _ (record { taken = record { came = refl; rest = refl }; handled = record { says = refl; replica = refl; link = refl } }) refl

again_compared : Next 5
again_compared = accepted right _ _ _ _ (record { taken = record { came = refl; rest = refl }; handled = record { says = refl; replica = refl; link = refl } }) refl

second_compared : Next 6
second_compared = accepted right _ _ _ _ (record { taken = record { came = refl; rest = refl }; handled = record { says = refl; replica = refl; link = refl } }) refl

stale : Next 7
stale = record {
  handed = asking 2 1;
  leaves = asking 2 1;
  its_record = refl;
  does = record { taken = record { came = refl; rest = refl }; handled = record { says = refl; untouched = record { replica = refl; link = refl } } };
  here = refl;
  there = refl;
}

second_same : Next 8
unfolding follow
second_same = accepted left _ _ _ _ (record { taken = record { came = refl; rest = refl }; handled = record { says = refl; replica = refl; link = refl } }) refl

third_compared : Next 9
third_compared = accepted right _ _ _ _ (record { taken = record { came = refl; rest = refl }; handled = record { says = refl; replica = refl; link = refl } }) refl

third_differs : Next 10
third_differs = accepted left _ _ _ _ (record { taken = record { came = refl; rest = refl }; handled = record { says = refl; replica = refl; link = refl } }) refl

offered : Next 11
unfolding renewed climbed
offered = accepted right _ _ _ _ (record { taken = record { came = refl; rest = refl }; handled = (entry, refl, record { says = refl; replica = refl; link = refl }) }) refl

holding : Next 12
unfolding follow renewed climbed
holding = accepted left _ _ _ _ (record { taken = record { came = refl; rest = refl }; handled = (entry, refl, record { says = refl; replica = refl; link = refl }) }) refl

bottom_offered : Next 13
unfolding renewed climbed
bottom_offered = accepted right _ _ _ _ (record { taken = record { came = refl; rest = refl }; handled = (bottom, refl, record { says = refl; replica = refl; link = refl }) }) refl

completing : Next 14
unfolding follow renewed climbed
completing = accepted left _ _ _ _ (record { taken = record { came = refl; rest = refl }; handled = (bottom, refl, record { says = refl; replica = refl; link = refl }) }) refl

pub happening : (t : ℕ) → t < 15 → Next t
happening = each Next 15
    (laying, (opening, (first_compared, (resending, (first_differs, (again_compared, (second_compared, (stale, (second_same, (third_compared, (third_differs, (offered, (holding, (bottom_offered, (completing, tt)))))))))))))))
