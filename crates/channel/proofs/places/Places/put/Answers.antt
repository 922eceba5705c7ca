use Rattle.std.proofs.Common.{sym, subst, arith}
use Rattle.channel.specs.Links.{Carried}
use Rattle.channel.proofs.Waiting.{wait_set}
use Rattle.channel.proofs.places.Places.put.Goals as goal

pub invariant_of-self : goal.invariant_of-self
invariant_of-self g c =
    let places = c.self.inside.packets in
    let carried = subst Carried (sym c.in-Some.ensures.0) c.in-Some.ensures.1 in
    (omega arith, wait_set g.row.N places c.self.inside.waiting c.in-Some.packet (omega arith) (omega arith) carried c.self.invariant.1)

pub returns-in-Some-clause-waits : goal.returns-in-Some-clause-waits
returns-in-Some-clause-waits g c = (invariant_of-self g c).1
