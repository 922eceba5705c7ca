use Rattle.std.proofs.Common.{◌≡◌, ℕ, ◌+◌, ◌<◌, length, get_or}
use Rattle.tree.specs.Tree.{leaf_bytes}
use Rattle.tree.proofs.building.fill_leaves.Given as goal

abbrev pub invariant-loop-key : goal.invariant-loop-key
invariant-loop-key g l = (k : ℕ) → k < l.key → get_or l.digests (length l.elements + k) 0 ≡ g.D.Digest.function l.digest (leaf_bytes g.E.Element.model (get_or l.elements k g.E.Element.model.bottom))
