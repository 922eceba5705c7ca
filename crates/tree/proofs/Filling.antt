-- A digest table that is filled place by place.
use Rattle.std.proofs.Common.{◌≡◌, ℕ, ◌+◌, ◌-◌, ◌*◌, ◌<◌, ◌≤◌, List, length, get_or, set, sym, ap, ◌∙◌, ap₂, ⊎_elim, arith}
use Rattle.std.proofs.lemmas.List.{get_or-set_same, get_or-set_other}
use Rattle.std.proofs.lemmas.Bool.{cases_eq}
use Rattle.tree.specs.Renewal.{node_in}
use Rattle.tree.specs.Tree.{node_bytes}

-- one more of the ranges with halves, downward
pub nodes_more : (h : List ℕ → ℕ) (size k v : ℕ) (ds : List ℕ) → 1 < k → k ≤ size → length ds ≡ 2 * size → v ≡ node_in h ds (k - 1)
    → ((j : ℕ) → k ≤ j → 1 ≤ j → j < size → get_or ds j 0 ≡ node_in h ds j)
    → (j : ℕ) → k - 1 ≤ j → 1 ≤ j → j < size → get_or (set ds (k - 1) v) j 0 ≡ node_in h (set ds (k - 1) v) j
nodes_more h size k v ds low high l e old j a b d =
    let p : ℕ = k - 1 in
    let f : ℕ → ℕ → ℕ = λ x y. h (node_bytes x y) in
    let x = get_or-set_other ds p (2 * j) v 0 (λ (q : 2 * j ≡ p). omega arith) in
    let y = get_or-set_other ds p (2 * j + 1) v 0 (λ (q : 2 * j + 1 ≡ p). omega arith) in
    ⊎_elim
    (λ (s : j ≡ p). ap (λ (i : ℕ). get_or (set ds p v) i 0) s ∙ get_or-set_same ds p v 0 (omega arith) ∙ e ∙ ap (node_in h ds) (sym s) ∙ ap₂ f (sym x) (sym y))
    (λ (s : j ≡ p → ⊥). get_or-set_other ds p j v 0 s ∙ old j (omega arith) b d ∙ ap₂ f (sym x) (sym y))
    (cases_eq j p)
