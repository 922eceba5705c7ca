-- The kinds of frames, by the numbers that byte 0 has.
use Rattle.std.specs.Prelude.{◌≡◌, ℕ, false, Result, MatchResult}
use Rattle.element.specs.declared.refusal.Refusal.{Refusal}
use Rattle.element.specs.declared.refusal.Refusal.TheVariants.{Frame}
use Rattle.frame.specs.Decoding.{is_kind}
use Rattle.frame.specs.declared.kind.Kind.{Kind}
use Rattle.frame.specs.declared.kind.Kind.TheVariants.{Compare, Same, Differ, Offer, Held}

abbrev pub kind_number : Kind → ℕ
kind_number Compare = 1
kind_number Same = 2
kind_number Differ = 3
kind_number Offer = 4
kind_number Held = 5

-- What reading a kind answers: the kind of this number, or that the frame is not lawful, where no kind has it.
abbrev pub IsKind : ℕ → Result Kind Refusal → Type 0
IsKind n r = MatchResult r (λ kind. kind_number kind ≡ n) (λ e. (e ≡ Frame) × (is_kind n ≡ false))
