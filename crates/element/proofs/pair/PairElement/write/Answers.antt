use Rattle.std.proofs.Common.{sym, ◌∙◌, arith}
use Rattle.element.proofs.Writes.{placed_parts}
use Rattle.element.proofs.pair.PairElement.write.Goals as goal

pub returns-clause-after : goal.returns-clause-after
returns-clause-after g c =
    let x = c.args.self.now in
    let a = g.X.Element.model.written x.first in
    let b = g.Y.Element.model.written x.second in
    let la = g.met.X.Element.laws.written_long x.first in
    let lb = g.met.Y.Element.laws.written_long x.second in
    placed_parts c.args.out.now a b c.width-n.result c.write.new.out c.write-2.new.out (la ∙ sym c.width-n.ensures) (omega arith) c.write.ensures.after c.write-2.ensures.after
