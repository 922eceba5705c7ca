use Rattle.std.proofs.Common.{◌≡◌, ◌-◌, ◌∙◌, arith}
use Rattle.std.proofs.lemmas.List.{get_or-set_other}
use Rattle.tree.proofs.Filling.{nodes_more}
use Rattle.tree.proofs.building.fill_nodes.Goals as goal

pub loop-k-preserved : goal.loop-k-preserved
loop-k-preserved g c =
    let h = g.D.Digest.function c.args.digest.now in
    let k = c.loop-k.k in
    let v = c.node.result in
    let ds = c.loop-k.digests in (
      nodes_more h c.args.size k v ds (omega arith) (omega arith) (omega arith) c.node.ensures c.loop-k.invariant.0,
      λ j l. get_or-set_other ds (k - 1) j v 0 (λ (q : j ≡ k - 1). omega arith) ∙ c.loop-k.invariant.1 j l,
    )

pub returns : goal.returns
returns g c = record { nodes = λ k a b. c.loop-k.invariant.0 k (omega arith) a b; kept = c.loop-k.invariant.1 }
