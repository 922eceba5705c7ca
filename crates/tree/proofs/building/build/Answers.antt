use Rattle.std.proofs.Common.{length, sym, arith}
use Rattle.tree.proofs.Merkles.{trees, assembled}
use Rattle.tree.proofs.Sizing.{fitting}
use Rattle.tree.proofs.Telling.{telling}
use Rattle.tree.proofs.building.build.Goals as goal

pub returns-then-not-tables_fit-clause-merkle : goal.returns-then-not-tables_fit-clause-merkle
returns-then-not-tables_fit-clause-merkle g c = trees g.E.Element.model _

pub returns-then-not-tables_fit-clause-tells : goal.returns-then-not-tables_fit-clause-tells
returns-then-not-tables_fit-clause-tells g c = telling g.E.Element.model g.met.E.Element.laws _ (g.met.D.Digest.small c.args.digest.now)

pub bounds-digests-0 : goal.bounds-digests-0
bounds-digests-0 g c = let p = fitting (length c.args.elements.now) (length c.args.digests.now) (sym c.if-not-tables_fit.ensures) in omega arith

pub returns-clause-after : goal.returns-clause-after
returns-clause-after g c =
    assembled g.E.Element.model (g.D.Digest.function c.args.digest.now) c.args.elements.now c.args.digests.now c.fill_leaves.new.digests c.fill_nodes.new.digests
    (sym c.if-not-tables_fit.ensures)
    (omega arith)
    c.fill_leaves.ensures
    c.fill_nodes.ensures.nodes
    c.fill_nodes.ensures.kept

pub returns-clause-merkle : goal.returns-clause-merkle
returns-clause-merkle g c = trees g.E.Element.model _

pub returns-clause-tells : goal.returns-clause-tells
returns-clause-tells g c = telling g.E.Element.model g.met.E.Element.laws _ (g.met.D.Digest.small c.args.digest.now)
