use Rattle.std.proofs.Common.{sym, ◌∙◌, arith, length-set}
use Rattle.tree.proofs.Climbing.{climb_step, climb_done}
use Rattle.tree.proofs.renewing.climb.Goals as goal

pub loop-n-preserved : goal.loop-n-preserved
loop-n-preserved g c =
    let h = g.D.Digest.function c.args.digest.now in
    let n = c.loop-n.n in
    let ds = c.loop-n.digests in
    let v = c.node.result in
    (omega (arith, length-set ds n v), omega arith, climb_step h n v ds c.node.ensures (omega arith) c.loop-n.invariant.1 ∙ c.loop-n.invariant.2)

pub returns : goal.returns
returns g c = sym (climb_done (g.D.Digest.function c.args.digest.now) 12 c.loop-n.n c.loop-n.digests (omega arith)) ∙ c.loop-n.invariant.2
