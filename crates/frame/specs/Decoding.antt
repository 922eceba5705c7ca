-- Reading frames: a byte string is judged by its kind, its length, its round, its range and its element, in this order.
use Rattle.std.specs.Prelude.{◌≡◌, ℕ, ◌+◌, ◌*◌, ◌≤◌, Bool, true, cond, ◌&&◌, List, length, take, drop, is_some, Some, None, Option, ◌==◌, nat_le, nat_lt, slice_index}
use Rattle.element.specs.Bytes.{ByteString, number}
use Rattle.element.specs.Model.{Model}
use Rattle.frame.specs.Frames.{Frame, compare, same, differ, offer, held, written, Lawful}

abbrev pub kind_of : List ℕ → ℕ
kind_of bs = slice_index bs 0

abbrev pub round_of : List ℕ → ℕ
round_of bs = number (take 4 (drop 1 bs))

abbrev pub range_of : List ℕ → ℕ
range_of bs = number (take 2 (drop 5 bs))

-- whether a number is that of a kind
abbrev pub is_kind : ℕ → Bool
is_kind k = nat_le 1 k && nat_le k 5

-- how long a frame of a kind is, by the width of an element
abbrev pub kind_length : ℕ → ℕ → ℕ
kind_length width k = cond (k == 1) 15 (cond (nat_le k 3) 7 (7 + width))

-- whether a frame of a kind may have the range n, between tables of N elements
abbrev pub range_suits : ℕ → ℕ → ℕ → Bool
range_suits N k n = cond (nat_le k 3) (nat_le 1 n && nat_lt n N) (nat_le N n && nat_lt n (2 * N))

-- whether bs may follow the header of a kind: of the kinds with an element, whether they are lawful bytes
abbrev pub element_suits : {R : Type 0} → Model R → ℕ → List ℕ → Bool
element_suits m k bs = cond (nat_le k 3) true (is_some (m.parsed bs))

-- The frame of a kind, a round and a range, with the bytes that follow the header.
abbrev pub frame_of : ℕ → ℕ → ℕ → List ℕ → Frame
frame_of k r n rest =
    cond (k == 1) (compare r n (number rest))
    (cond (k == 2) (same r n)
    (cond (k == 3) (differ r n)
    (cond (k == 4) (offer r n rest) (held r n rest))))

abbrev pub framed : List ℕ → Frame
framed bs = frame_of (kind_of bs) (round_of bs) (range_of bs) (drop 7 bs)

module _ {R : Type 0} (m : Model R) (N : ℕ) (bs : List ℕ) where
  abbrev pub good_kind : Bool
  good_kind = is_kind (kind_of bs)

  abbrev pub good_length : Bool
  good_length = length bs == kind_length m.width (kind_of bs)

  abbrev pub good_round : Bool
  good_round = nat_le 1 (round_of bs)

  abbrev pub good_range : Bool
  good_range = range_suits N (kind_of bs) (range_of bs)

  abbrev pub good_element : Bool
  good_element = element_suits m (kind_of bs) (drop 7 bs)

  -- What reading answers.
  abbrev pub decoded : Option Frame
  decoded = cond (good_kind && (good_length && (good_round && (good_range && good_element)))) (Some (framed bs)) None

-- That is reading: a lawful frame reads back as written, and what reads as a frame is that frame, written, and lawful.
pub record Codec {R : Type 0} (m : Model R) (N : ℕ) : Type 0 where
  pub back : (f : Frame) → Lawful m N f → decoded m N (written f) ≡ Some f
  pub forth : (bs : List ℕ) (f : Frame) → ByteString bs → decoded m N bs ≡ Some f → Lawful m N f × (written f ≡ bs)

-- For every number of keys that tables have.
abbrev pub Reads : {R : Type 0} → Model R → Type 0
Reads m = (N : ℕ) → N ≤ 4096 → Codec m N
