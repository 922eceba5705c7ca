use Rattle.std.proofs.Common.{◌≡◌, ◌<◌, take}
use Rattle.digest.specs.Folds.{sum}
use Rattle.digest.proofs.SumDigest.digest.Given as goal

abbrev pub invariant-loop-byte : goal.invariant-loop-byte
invariant-loop-byte l = (l.total < 65536) × (l.total ≡ sum (take l.byte-index l.bytes))
