use Rattle.std.proofs.Common.{refl}
use Rattle.peers.specs.Pairs.{left, right, lines}
use Rattle.peers.specs.Promise.{Promise}
use Rattle.peers.proofs.Calling.{stepped_goes}
use Rattle.peers.proofs.Promises.{promise}
use Rattle.peers.proofs.pair.Peers.step.Given as given
use Rattle.peers.proofs.pair.Peers.step.Goals as goal

-- by the laws that the four types keep
promised : (g : given.Over) (d : g.row.D.Denot) → Promise g.E.Element.model (g.D.Digest.function d) (lines g.A.Channel.link g.B.Channel.link)
promised g d =
    promise g.E.Element.model g.met.E.Element.laws (g.D.Digest.function d) (g.met.D.Digest.small d)
    (lines g.A.Channel.link g.B.Channel.link) (elim [ left ↦ g.met.A.Channel.fair | right ↦ g.met.B.Channel.fair ])

pub returns-in-Left : goal.returns-in-Left
returns-in-Left g c = record {
  goes = stepped_goes g.A.Channel.link g.B.Channel.link g.E.Element.model g.D.Digest.function _ _ left c.step.result refl c.step.ensures refl c.in-Left.is;
  promise = promised g c.args.self.now.digest;
}

pub returns-in-Right : goal.returns-in-Right
returns-in-Right g c = record {
  goes = stepped_goes g.A.Channel.link g.B.Channel.link g.E.Element.model g.D.Digest.function _ _ right c.step-in-Right.result refl c.step-in-Right.ensures refl c.in-Right.is;
  promise = promised g c.args.self.now.digest;
}
