-- Frames: the questions and answers of a round, which ones are lawful, and their bytes.
use Rattle.std.specs.Prelude.{◌≡◌, ℕ, ◌*◌, ◌^◌, ◌<◌, ◌≤◌, cond, List, [], ◌∷◌, ◌++◌, length, Some, None, Option, nat_le}
use Rattle.element.specs.Bytes.{be}
use Rattle.element.specs.Model.{Model}

-- Each has the number of its round and a range. A compare asks whether the other replica has this digest there, and is
-- answered by same or differ. An offer brings an element, and is answered by held, with what the key then holds.
pub data Frame : Type 0 where
  compare : ℕ → ℕ → ℕ → Frame
  same : ℕ → ℕ → Frame
  differ : ℕ → ℕ → Frame
  offer : ℕ → ℕ → List ℕ → Frame
  held : ℕ → ℕ → List ℕ → Frame

-- Byte 0 is the kind, bytes 1 to 4 the round, bytes 5 and 6 the range.
abbrev pub header : ℕ → ℕ → ℕ → List ℕ
header kind r n = kind ∷ (be 4 r ++ be 2 n)

-- The digest or the element's bytes follow.
abbrev pub written : Frame → List ℕ
written (compare r n d) = header 1 r n ++ be 8 d
written (same r n) = header 2 r n
written (differ r n) = header 3 r n
written (offer r n bs) = header 4 r n ++ bs
written (held r n bs) = header 5 r n ++ bs

-- For example: in round 1, a compare of the whole table, whose digest is 255.
abbrev pub Example : Type 0
Example = written (compare 1 1 255) ≡ 1 ∷ 0 ∷ 0 ∷ 0 ∷ 1 ∷ 0 ∷ 1 ∷ 0 ∷ 0 ∷ 0 ∷ 0 ∷ 0 ∷ 0 ∷ 0 ∷ 255 ∷ []

-- How many bytes a write of bs over the front of out writes, or none where out is too short for them.
abbrev pub room : List ℕ → List ℕ → Option ℕ
room bs out = cond (nat_le (length bs) (length out)) (Some (length bs)) None

-- A round is numbered from 1, in 32 bits.
pub record Numbered (r : ℕ) : Type 0 where
  pub low : 1 ≤ r
  pub high : r < 2 ^ 32

-- Of N keys, n is a range with halves.
pub record Inner (N n : ℕ) : Type 0 where
  pub low : 1 ≤ n
  pub high : n < N

-- Of N keys, n is the range of a single key.
pub record Single (N n : ℕ) : Type 0 where
  pub low : N ≤ n
  pub high : n < 2 * N

-- The byte string is that of some element.
abbrev pub Spells : {R : Type 0} → Model R → List ℕ → Type 0
Spells {R} m bs = (x : R) × (m.written x ≡ bs)

-- A lawful frame, between tables of N elements.
abbrev pub Lawful : {R : Type 0} → Model R → ℕ → Frame → Type 0
Lawful m N (compare r n d) = Numbered r × Inner N n × (d < 2 ^ 64)
Lawful m N (same r n) = Numbered r × Inner N n
Lawful m N (differ r n) = Numbered r × Inner N n
Lawful m N (offer r n bs) = Numbered r × Single N n × Spells m bs
Lawful m N (held r n bs) = Numbered r × Single N n × Spells m bs
