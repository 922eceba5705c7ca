use Rattle.std.proofs.Common.{◌≡◌, ℕ, ◌+◌, ◌-◌, ◌≤◌, List, ◌++◌, length, take, drop, min, replicate, ap, ◌∙◌, arith, length-drop, length-take-le}
use mathlib.Core.List.{append-nil}
use borrow.Rule.Slice.PartMut.{put_mid}
use Rattle.std.proofs.lemmas.List.{drop_all, drop_at, take_min}
use Rattle.channel.proofs.picks.Picks.new.Goals as goal

-- What a list ends with, where its end from a on was written over.
end_of : (xs ys : List ℕ) (a k : ℕ) → a ≤ length xs → length xs ≤ a + k → drop a (put_mid a k xs ys) ≡ ys
end_of xs ys a k h l =
    drop_at (take a xs) (ys ++ drop k (drop a xs)) a (length-take-le a xs h)
    ∙ ap (λ (zs : List ℕ). ys ++ zs) (drop_all k (drop a xs) (omega (arith, length-drop a xs))) ∙ append-nil ys

pub returns : goal.returns
returns c =
    let n = c.min-n.result in
    let given = c.args.given.now in
    let least : n ≡ min 64 (length given) = omega arith in
    end_of (replicate 64 0) _ (64 - n) (64 - (64 - n)) (omega arith) (omega arith)
    ∙ c.copy_from_slice.ensures.after ∙ ap (λ (k : ℕ). take k given) least ∙ take_min 64 given
