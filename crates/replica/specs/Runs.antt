-- A run of a pair: its moments, numbered from 0, and what was entered, asked and answered in it (for the earlier
-- statement of `Promise`).
use Rattle.std.specs.Prelude.{◌≡◌, ℕ, zero, suc, ◌+◌, ◌<◌, Bool, true, false, cond, not, ◌&&◌, ◌||◌, List, [], ◌∷◌, length, Some, Ok, Err, ◌==◌, slice_index_or}
use Rattle.element.specs.Model.{Model}
use Rattle.frame.specs.Decoding.{decoded}
use Rattle.frame.specs.Frames.{Frame}
use Rattle.replica.specs.Pairs.{End, left, right, same_end, Lines, Pair, Event, laid, opened, resent, abandoned, stepped, lost, Begins, Happens}
use Rattle.replica.specs.Rounds.{State, idle, running}
use Rattle.replica.specs.declared.answer.Answer.{Answer}
use Rattle.replica.specs.declared.answer.Answer.TheVariants.{Nothing, Answered, Moved, Complete}

-- Pair 0 has just been made, and event t leads from pair t to pair t + 1, for n events.
pub record Run {R : Type 0} (m : Model R) (h : List ℕ → ℕ) (L : Lines) (n : ℕ) : Type 0 where
  pub pair : ℕ → Pair R L
  pub event : ℕ → Event R
  pub begins : Begins m h L (pair 0)
  pub happens : (t : ℕ) → t < n → Happens m h L (event t) (pair t) (pair (t + 1))

-- Two byte strings are the same.
abbrev pub same_bytes : List ℕ → List ℕ → Bool
same_bytes [] [] = true
same_bytes [] (y ∷ ys) = false
same_bytes (x ∷ xs) [] = false
same_bytes (x ∷ xs) (y ∷ ys) = x == y && same_bytes xs ys

-- An accepted call lays at key k.
abbrev pub lays_at : {R : Type 0} → ℕ → Event R → Bool
lays_at k (laid e j x (Ok u)) = j == k
lays_at k (laid e j x (Err r)) = false
lays_at k (opened e y) = false
lays_at k (resent e y) = false
lays_at k (abandoned e y) = false
lays_at k (stepped e f y) = false
lays_at k lost = false

-- A step at end e takes an answer: it says that it moved, or that the round is complete.
abbrev pub takes_answer : {R : Type 0} → End → Event R → Bool
takes_answer e (laid d k x y) = false
takes_answer e (opened d y) = false
takes_answer e (resent d y) = false
takes_answer e (abandoned d y) = false
takes_answer e (stepped d f (Ok Nothing)) = false
takes_answer e (stepped d f (Ok Answered)) = false
takes_answer e (stepped d f (Ok (Moved n))) = same_end d e
takes_answer e (stepped d f (Ok (Complete c))) = same_end d e
takes_answer e (stepped d f (Err r)) = false
takes_answer e lost = false

-- An accepted call at end e puts a question: an open, a resend, or a step that moved.
abbrev pub puts_question : {R : Type 0} → End → Event R → Bool
puts_question e (laid d k x y) = false
puts_question e (opened d (Ok u)) = same_end d e
puts_question e (opened d (Err r)) = false
puts_question e (resent d (Ok u)) = same_end d e
puts_question e (resent d (Err r)) = false
puts_question e (abandoned d y) = false
puts_question e (stepped d f (Ok Nothing)) = false
puts_question e (stepped d f (Ok Answered)) = false
puts_question e (stepped d f (Ok (Moved n))) = same_end d e
puts_question e (stepped d f (Ok (Complete c))) = false
puts_question e (stepped d f (Err r)) = false
puts_question e lost = false

-- The range of a running round is n.
abbrev pub AtRange : State → ℕ → Type 0
AtRange idle n = ⊥
AtRange (running k c) n = k ≡ n

module _ {R : Type 0} {m : Model R} {h : List ℕ → ℕ} {L : Lines} {n : ℕ} (run : Run m h L n) where
  -- The number of keys.
  abbrev pub keys : ℕ
  keys = length ((run.pair 0).replica left).elements

  -- The elements of an end at a moment, and what it holds at a key.
  abbrev pub elements_at : ℕ → End → List R
  elements_at t e = ((run.pair t).replica e).elements

  abbrev pub holds : ℕ → End → ℕ → R
  holds t e k = slice_index_or (elements_at t e) k m.bottom

  -- The last round number that an end used.
  abbrev pub number_at : ℕ → End → ℕ
  number_at t e = ((run.pair t).replica e).progress.last

  -- With what an event lays at key k of end e.
  abbrev pub entered_by : Event R → End → ℕ → R → R
  entered_by (laid d j x (Ok u)) e k z = cond (same_end d e && j == k) (m.joined z x) z
  entered_by (laid d j x (Err r)) e k z = z
  entered_by (opened d y) e k z = z
  entered_by (resent d y) e k z = z
  entered_by (abandoned d y) e k z = z
  entered_by (stepped d f y) e k z = z
  entered_by lost e k z = z

  -- The join of what was made and laid at key k of end e before moment t.
  abbrev pub entered : ℕ → End → ℕ → R
  entered zero e k = holds 0 e k
  entered (suc t) e k = entered_by (run.event t) e k (entered t e k)

  -- The same of both ends.
  abbrev pub all_entered : ℕ → ℕ → R
  all_entered t k = m.joined (entered t left k) (entered t right k)

  -- How many answers end e took in its round r before moment t.
  abbrev pub answers_taken : End → ℕ → ℕ → ℕ
  answers_taken e r zero = 0
  answers_taken e r (suc t) = cond (takes_answer e (run.event t) && number_at t e == r) 1 0 + answers_taken e r t

  -- Whether key k was laid at either end in the s events from moment t on.
  abbrev pub laid_in : ℕ → ℕ → ℕ → Bool
  laid_in k t zero = false
  laid_in k t (suc s) = lays_at k (run.event (t + s)) || laid_in k t s

  -- Whether the ends hold different elements at key k.
  abbrev pub differs_at : ℕ → ℕ → Bool
  differs_at t k = not (same_bytes (m.written (holds t left k)) (m.written (holds t right k)))

  -- Event t puts the question of range i in the round r of end e.
  pub record Asks (e : End) (r i t : ℕ) : Type 0 where
    pub puts : puts_question e (run.event t) ≡ true
    pub number : number_at (t + 1) e ≡ r
    pub range : AtRange ((run.pair (t + 1)).replica e).progress.state i

  -- Event t is a step at end e that took this frame and answered so.
  pub record TakesFrame (e : End) (f : Frame) (y : Answer) (t : ℕ) : Type 0 where
    pub bytes : List ℕ
    pub reads : decoded m keys bytes ≡ Some f
    pub steps : run.event t ≡ stepped e (Some bytes) (Ok y)

  -- Event t is the opening of round r at end e.
  pub record Opening (e : End) (r t : ℕ) : Type 0 where
    pub opens : run.event t ≡ opened e (Ok tt)
    pub number : number_at (t + 1) e ≡ r
