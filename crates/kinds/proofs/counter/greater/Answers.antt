use Rattle.std.proofs.Common.{◌≡◌, sym, ap, ap₂, ◌∙◌, arith, rules}
use Rattle.element.proofs.Rules.{keeps_meant}
use Rattle.kinds.specs.Counters.{counter, counter_of, maxima}
use Rattle.kinds.specs.CountersLemmas.{sound, seated_from}
use Rattle.kinds.proofs.Seats.{at_eight}
use Rattle.kinds.proofs.counter.greater.Goals as goal

pub returns : goal.returns
returns c =
    let a = c.args.a.now in
    let b = c.args.b.now in
    let m : c.from_fn.result ≡ maxima a b = at_eight a b c.from_fn.result c.told-a c.told-b (omega (arith, c.from_fn.ensures.items.long)) (search rules) in
    ap counter_of m ∙ sym (ap₂ counter.join (keeps_meant sound (counter_of a) (seated_from 8 a c.told-a c.fits-a)) (keeps_meant sound (counter_of b) (seated_from 8 b c.told-b c.fits-b)))
