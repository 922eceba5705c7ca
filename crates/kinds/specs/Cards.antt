-- The mast card of one site: the pair of its height with the pair of its positions and its field samples. 62 bytes.
use Rattle.element.specs.Pairs.{pair_of}
use Rattle.kinds.specs.declared.counter.Counter.{Counter}
use Rattle.element.specs.declared.pair.Pair.{Pair}
use Rattle.kinds.specs.declared.register.Register.{Register}
use Rattle.kinds.specs.declared.set_record.SetRecord.{SetRecord}

abbrev pub card_of : Register → SetRecord → Counter → Pair Register (Pair SetRecord Counter)
card_of height positions samples = pair_of height (pair_of positions samples)
