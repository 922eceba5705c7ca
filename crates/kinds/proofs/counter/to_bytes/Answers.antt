use Rattle.std.proofs.Common.{ℕ, List, sym, ap, ◌∙◌, arith, rules}
use Rattle.std.specs.List.{flat_map}
use Rattle.std.proofs.lemmas.List.Folds.{flat_map-map}
use Rattle.element.specs.Bytes.{be}
use Rattle.element.proofs.Rules.{keeps_meant}
use Rattle.kinds.specs.Counters.{counter, counter_of}
use Rattle.kinds.specs.CountersLemmas.{sound, seated_from}
use Rattle.kinds.proofs.Seats.{mapped}
use Rattle.kinds.proofs.counter.to_bytes.Goals as goal

pub returns : goal.returns
returns c =
    let xs = c.args.seats.now in
    let m = mapped (be 4) xs c.map.result (omega (arith, c.map.ensures.items.long)) (λ i d e h. let k = c.map.ensures.items.at i d e (omega arith) in search rules) in
    ap (flat_map (λ (w : List ℕ). w)) m ∙ flat_map-map (λ (w : List ℕ). w) (be 4) xs ∙ ap counter.bytes (sym (keeps_meant sound (counter_of xs) (seated_from 8 xs c.told-seats c.fits-seats)))
