use Rattle.std.proofs.Common.{refl}
use Rattle.peers.specs.Pairs.{left, right}
use Rattle.peers.proofs.Calling.{resent_goes}
use Rattle.peers.proofs.pair.Peers.resend.Goals as goal

pub returns-in-Left : goal.returns-in-Left
returns-in-Left g c = resent_goes g.A.Channel.link g.B.Channel.link g.E.Element.model g.D.Digest.function _ _ left c.resend.result refl (c.resend.ensures, refl, refl) refl c.in-Left.is

pub returns-in-Right : goal.returns-in-Right
returns-in-Right g c = resent_goes g.A.Channel.link g.B.Channel.link g.E.Element.model g.D.Digest.function _ _ right c.resend-in-Right.result refl (c.resend-in-Right.ensures, refl, refl) refl c.in-Right.is
