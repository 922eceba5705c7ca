use Rattle.element.proofs.Orders.{order}
use Rattle.element.proofs.compare.at_most.Goals as goal

pub returns-clause-order : goal.returns-clause-order
returns-clause-order g c = order g.met.E.Element.laws
