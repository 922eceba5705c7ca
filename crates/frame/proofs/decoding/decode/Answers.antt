use Rattle.frame.proofs.Codecs.{reads}
use Rattle.frame.proofs.decoding.decode.Goals as goal

pub returns-in_default-clause-codec : goal.returns-in_default-clause-codec
returns-in_default-clause-codec g c = reads g.met.E.Element.laws

pub returns-in_default-try_from-clause-codec : goal.returns-in_default-try_from-clause-codec
returns-in_default-try_from-clause-codec g c = reads g.met.E.Element.laws

pub returns-in_default-new-clause-codec : goal.returns-in_default-new-clause-codec
returns-in_default-new-clause-codec g c = reads g.met.E.Element.laws

pub returns-in_default-round-clause-codec : goal.returns-in_default-round-clause-codec
returns-in_default-round-clause-codec g c = reads g.met.E.Element.laws

pub returns-in_default-range_fits-clause-codec : goal.returns-in_default-range_fits-clause-codec
returns-in_default-range_fits-clause-codec g c = reads g.met.E.Element.laws

pub returns-in_default-element_fits-clause-codec : goal.returns-in_default-element_fits-clause-codec
returns-in_default-element_fits-clause-codec g c = reads g.met.E.Element.laws

pub returns-clause-codec : goal.returns-clause-codec
returns-clause-codec g c = reads g.met.E.Element.laws
