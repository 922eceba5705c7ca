use Rattle.std.proofs.Common.{◌≡◌, ℕ, ◌∙◌, ◌≤◌, List, ◌++◌, length, drop, replicate, ap, length-append, length-drop, arith}
use Rattle.std.proofs.lemmas.List.{drop_at, drop-replicate}
use Rattle.channel.specs.Packets.{Padded}
use Rattle.channel.proofs.packet.Packet.new.Goals as goal

-- Zeros over which a frame f was written.
written : (f gs : List ℕ) → gs ≡ f → length f ≤ 71 → Padded (gs ++ drop (length f) (replicate 71 0)) (length f)
written f gs e h =
    let blank : List ℕ = replicate 71 0 in
    let l = ap length e in
    record {
      full = omega (arith, length-append gs (drop (length f) blank), length-drop (length f) blank);
      room = h;
      zeros = drop_at gs _ _ l ∙ drop-replicate (length f) 71 0;
    }

pub invariant_of-result : goal.invariant_of-result
invariant_of-result c = written _ _ c.copy_from_slice.ensures.after (omega arith)
