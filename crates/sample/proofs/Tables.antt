-- The tables of the run: with every key bottom, and with the element at key 2.
use Rattle.std.proofs.Common.{◌≡◌, ℕ, ◌<◌, ◌≤◌, List, [], ◌∷◌, refl, arith}
use Rattle.digest.specs.Folds.{sum}
use Rattle.element.specs.Ruled.{ruled}
use Rattle.kinds.specs.Registers.{register}
use Rattle.kinds.specs.declared.register.Register.{Register}
use Rattle.tree.specs.Tree.{digested_by, digested, digest_of, tree, Clash}
use Rattle.sample.specs.Sample.{entry}
use Rattle.sample.proofs.Cases.{each}

abbrev pub bottom : Register
bottom = register.bottom

abbrev pub before : List Register
before = bottom ∷ bottom ∷ bottom ∷ bottom ∷ []

abbrev pub after : List Register
after = bottom ∷ bottom ∷ entry ∷ bottom ∷ []

abbrev pub digests_before : List ℕ
digests_before = 0 ∷ 3 ∷ 1 ∷ 1 ∷ 0 ∷ 0 ∷ 0 ∷ 0 ∷ []

abbrev pub digests_after : List ℕ
digests_after = 0 ∷ 257 ∷ 1 ∷ 255 ∷ 0 ∷ 0 ∷ 254 ∷ 0 ∷ []

pub tree_before : digests_before ≡ tree (ruled register) sum before
unfolding tree digest_of digested digested_by
tree_before = refl

-- no clash between the two: ranges 2, 4, 5 and 7 have the same bytes in both, and ranges 1, 3 and 6 have other digests
Clear : ℕ → Type 0
Clear r =
    1 ≤ r
    → (digested (ruled register) sum after r ≡ digested (ruled register) sum before r → ⊥)
    → digest_of (ruled register) sum after r ≡ digest_of (ruled register) sum before r
    → ⊥

clear : (r : ℕ) → r < 8 → Clear r
unfolding Clear digest_of digested digested_by
clear = each Clear 8
    ((λ low. absurd (omega arith)), ((λ low d c. omega arith), ((λ low d c. d refl), ((λ low d c. omega arith), ((λ low d c. d refl), ((λ low d c. d refl), ((λ low d c. omega arith), ((λ low d c. d refl), tt))))))))

pub no_clash : (n : ℕ) → Clash (ruled register) sum after before n → ⊥
unfolding Clear
no_clash n c = clear c.range c.high c.low c.differ c.collide

-- nor between a table and itself
pub no_clash_same : (n : ℕ) → Clash (ruled register) sum after after n → ⊥
no_clash_same n c = c.differ refl
