use Rattle.std.proofs.Common.{◌≡◌, take}
use Rattle.digest.specs.Folds.{fnv}
use Rattle.digest.proofs.FnvDigest.digest.Given as goal

abbrev pub invariant-loop-byte : goal.invariant-loop-byte
invariant-loop-byte l = l.hash ≡ fnv (take l.byte-index l.bytes)
