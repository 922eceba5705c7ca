-- Why a pair was not made, in words.
use Rattle.std.specs.Prelude.{ℕ, List, codes}
use Rattle.element.specs.Refusals.{refusal_text}
use Rattle.peers.specs.declared.unmade.Unmade.{Unmade}
use Rattle.peers.specs.declared.unmade.Unmade.TheVariants.{Refused, Memory}

abbrev pub unmade_text : Unmade → List ℕ
unmade_text (Refused r) = refusal_text r
unmade_text Memory = codes "there is no memory for the digest tables"
