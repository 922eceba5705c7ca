use Rattle.std.proofs.Common.{◌≡◌, ◌+◌, ◌*◌, ◌<◌, length}
use Rattle.tree.specs.Renewal.{climbed}
use Rattle.tree.proofs.renewing.climb.Given as goal

abbrev pub invariant-loop-n : goal.invariant-loop-n
invariant-loop-n g l =
    (2 * l.n + 1 < length l.digests)
    × (l.n < 4096)
    × (climbed (g.D.Digest.function l.digest) 12 l.n l.digests ≡ climbed (g.D.Digest.function l.digest) 12 l.from l.initial.digests)

abbrev pub decreases-loop-n : goal.decreases-loop-n
decreases-loop-n g l = l.n
