use Rattle.std.proofs.Common.{ℕ, sym, ap, ◌∙◌}
use Rattle.element.specs.Numbers.{bytes_from}
use Rattle.frame.specs.Decoding.{decoded}
use Rattle.frame.specs.Views.{viewed}
use Rattle.tree.proofs.Sizing.{sized_high}
use Rattle.replica.proofs.loan.Loan.handle.Goals as goal

pub react-requires : goal.react-requires
react-requires g c =
    let r = c.args.self.now.round.now in
    let bs = c.args.frame.now in
    let codec = c.decode.ensures.codec r.size (sized_high r.size r.powered) in
    let reads = ap (λ (n : ℕ). decoded g.E.Element.model n bs) (sym c.from.ensures) ∙ c.in_ok-message.ensures.answer in
    (codec.forth bs (viewed c.in_ok-message.message) (bytes_from bs (λ i. (c.type_inv.frame i).fits)) reads).0
