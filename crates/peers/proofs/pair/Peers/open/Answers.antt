use Rattle.std.proofs.Common.{refl}
use Rattle.peers.specs.Pairs.{left, right}
use Rattle.peers.proofs.Calling.{opened_goes}
use Rattle.peers.proofs.pair.Peers.open.Goals as goal

pub returns-in-Left : goal.returns-in-Left
returns-in-Left g c = opened_goes g.A.Channel.link g.B.Channel.link g.E.Element.model g.D.Digest.function _ _ left c.open.result refl (c.open.ensures, refl) refl c.in-Left.is

pub returns-in-Right : goal.returns-in-Right
returns-in-Right g c = opened_goes g.A.Channel.link g.B.Channel.link g.E.Element.model g.D.Digest.function _ _ right c.open-in-Right.result refl (c.open-in-Right.ensures, refl) refl c.in-Right.is
