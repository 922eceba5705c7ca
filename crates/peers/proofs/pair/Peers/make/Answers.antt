use Rattle.std.proofs.Common.{◌≡◌, arith}
use Rattle.peers.specs.States.{size_of}
use Rattle.peers.specs.declared.pair.Peers.{Peers}
use Rattle.peers.proofs.Beginning.{begins}
use Rattle.peers.proofs.pair.Peers.make.Goals as goal

pub returns-clause-begins : goal.returns-clause-begins
returns-clause-begins g c =
    let l = c.in_ok-new.ensures in
    let r = c.in_ok-new-2.ensures in
    let one : size_of c.args.right ≡ size_of c.args.left = omega (arith, c.args.left.elements.ok.0, c.args.right.elements.ok.0, c.if-len.false, c.len.ensures, c.len-2.ensures) in
    let made : Peers g.row.E.Denot g.row.D.Denot g.row.A.Denot g.row.B.Denot = record { digest = c.args.digest; left = c.in_ok-new.field-0; right = c.in_ok-new-2.field-0; to_left = c.args.to_left; to_right = c.args.to_right } in
    begins g.A.Channel.link g.B.Channel.link g.E.Element.model g.D.Digest.function made c.args.left c.args.right l.1 r.1 l.0 l.2 r.2 one
