-- What a step has on loan.
use Rattle.std.specs.Prelude.{◌≡◌}
use Rattle.replica.specs.Replicas.{Replica, replica_of}
use Rattle.replica.specs.declared.loan.Loan.{Loan}

-- The replica that it has.
abbrev pub lent : {E D : Type 0} → Loan E D → Replica E
lent l = replica_of l.round.now l.elements.now l.digests.now

-- From l to k, it is of the same record and tables, and under the same digest.
abbrev pub Keeps : {E D : Type 0} → Loan E D → Loan E D → Type 0
Keeps l k =
    (k.round.ghost_name ≡ l.round.ghost_name) × (k.elements.ghost_name ≡ l.elements.ghost_name) × (k.digests.ghost_name ≡ l.digests.ghost_name)
    × (k.digest.now ≡ l.digest.now)
