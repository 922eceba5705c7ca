use Rattle.std.proofs.Common.{◌≡◌, ℕ, ◌<◌, ◌≤◌, get_or}
use Rattle.tree.specs.Renewal.{node_in}
use Rattle.tree.proofs.building.fill_nodes.Given as goal

abbrev pub invariant-loop-k : goal.invariant-loop-k
invariant-loop-k g l =
    ((j : ℕ) → l.k ≤ j → 1 ≤ j → j < l.size → get_or l.digests j 0 ≡ node_in (g.D.Digest.function l.digest) l.digests j)
    × ((j : ℕ) → l.size ≤ j → get_or l.digests j 0 ≡ get_or l.initial.digests j 0)
