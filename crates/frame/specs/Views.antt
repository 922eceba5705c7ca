-- What a message of the code says, as a frame of the definitions, and the bytes that a header of the code stands for.
use Rattle.std.specs.Prelude.{ℕ, List}
use Rattle.frame.specs.Frames.{Frame, compare, same, differ, offer, held, header}
use Rattle.frame.specs.Kinds.{kind_number}
use Rattle.frame.specs.declared.header.Header.{Header}
use Rattle.frame.specs.declared.message.Message.{Message}
use Rattle.frame.specs.declared.message.Message.TheVariants.{Compare, Same, Differ, Offer, Held}

-- An element is seen as the bytes that its part holds.
abbrev pub viewed : Message → Frame
viewed (Compare r n d) = compare r n d
viewed (Same r n) = same r n
viewed (Differ r n) = differ r n
viewed (Offer r n part) = offer r n part.now
viewed (Held r n part) = held r n part.now

abbrev pub header_of : Header → List ℕ
header_of h = header (kind_number h.kind) h.round h.range
