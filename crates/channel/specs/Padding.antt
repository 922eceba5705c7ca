-- The frame gives back the memory of a packet that holds it.
use Rattle.std.specs.Prelude.{◌≡◌, ℕ, ◌-◌, List, ◌++◌, length, take, replicate}
use Rattle.std.proofs.Common.{sym, ap, ◌∙◌, arith, take-append-drop, length-take-le}
use Rattle.channel.specs.Packets.{Padded, padded}

pub frame_length : (bs : List ℕ) (n : ℕ) → Padded bs n → length (take n bs) ≡ n
frame_length bs n p = length-take-le n bs (omega arith)

pub same_memory : (bs : List ℕ) (n : ℕ) → Padded bs n → padded (take n bs) ≡ bs
same_memory bs n p =
    ap (λ (k : ℕ). take n bs ++ replicate (71 - k) 0) (frame_length bs n p)
    ∙ ap (λ (zs : List ℕ). take n bs ++ zs) (sym p.zeros)
    ∙ take-append-drop n bs
