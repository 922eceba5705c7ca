-- The numbers by which refusals are told, and the reasons in words.
use Rattle.std.specs.Prelude.{ℕ, List, codes}
use Rattle.element.specs.declared.refusal.Refusal.{Refusal}
use Rattle.element.specs.declared.refusal.Refusal.TheVariants.{Size, Key, Busy, Idle, Spent, Frame, Stale}

abbrev pub refusal_number : Refusal → ℕ
refusal_number Size = 1
refusal_number Key = 2
refusal_number Busy = 3
refusal_number Idle = 4
refusal_number Spent = 5
refusal_number Frame = 6
refusal_number Stale = 7

abbrev pub refusal_text : Refusal → List ℕ
refusal_text Size = codes "a table has not the number of places that it should have"
refusal_text Key = codes "there is no such key"
refusal_text Busy = codes "a round is running already"
refusal_text Idle = codes "no round is running"
refusal_text Spent = codes "all round numbers have been used"
refusal_text Frame = codes "the frame that came is not lawful"
refusal_text Stale = codes "the frame that came is no answer to the question that is asked"
