use Rattle.std.proofs.Common.{◌≡◌, ◌*◌, length, take, drop, refl, ap, ◌∙◌, arith, rules}
use Rattle.element.specs.Bytes.{number}
use Rattle.element.specs.Numbers.{bytes_from}
use Rattle.element.proofs.Rules.{read_lawful}
use Rattle.kinds.specs.Counters.{counter, counter_of, words_in, seated}
use Rattle.kinds.specs.CountersLemmas.{seated_words}
use Rattle.kinds.proofs.Seats.{made, seats_of}
use Rattle.kinds.proofs.counter.CounterElement.read.Goals as goal

pub returns : goal.returns
returns c =
    let bs = c.args.bytes.now in
    let whole = c.in_ok-bytes.ensures.cases in
    let l : length bs ≡ 32 = whole.long in
    let cs = c.in_ok-bytes.bytes.now in
    let items = c.from_fn.ensures.items in
    let each = made _ (λ p. p.0.now ≡ cs) (λ i. number (take 4 (drop (4 * i) cs))) (λ p q i y h w. let m = w.met in (search rules, search rules)) 8 0 _ c.from_fn.result refl items.each in
    let v : c.from_fn.result ≡ words_in 8 bs = seats_of cs c.from_fn.result (omega (arith, items.long)) each ∙ ap (words_in 8) whole.same in
    read_lawful counter bs (counter_of c.from_fn.result) l (ap counter_of v) (ap (seated 8) v ∙ seated_words 8 bs (bytes_from bs (λ i. (c.type_inv.bytes i).fits)) l)
