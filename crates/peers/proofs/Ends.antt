-- The two ends of a pair.
use Rattle.std.proofs.Common.{◌≡◌, true, false, refl}
use Rattle.peers.specs.Pairs.{End, left, right, other, same_end}

-- what holds of one end and of the other holds of each
pub by_end : (P : End → Type 0) (e : End) → P e → P (other e) → (d : End) → P d
by_end P left x y left = x
by_end P left x y right = y
by_end P right x y left = y
by_end P right x y right = x

pub other_other : (e : End) → other (other e) ≡ e
other_other left = refl
other_other right = refl

pub same_end_refl : (e : End) → same_end e e ≡ true
same_end_refl left = refl
same_end_refl right = refl

pub same_end_other : (e : End) → same_end e (other e) ≡ false
same_end_other left = refl
same_end_other right = refl
