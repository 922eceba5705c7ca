-- The digest table of a table of four elements.
use Rattle.std.proofs.Common.{◌≡◌, ℕ, ◌<◌, List, true, length, slice_index_or, refl, sym, subst, arith}
use Rattle.std.proofs.lemmas.List.FromFn.{get_or-map-range_with_len}
use Rattle.element.specs.Model.{Model}
use Rattle.tree.specs.Sizes.{sized, fit}
use Rattle.tree.specs.Tree.{tree, place_of, digest_of}

-- eight digests fit it
pub fit_four : (n : ℕ) → n ≡ 4 → fit n 8 ≡ true
unfolding sized
fit_four n e = subst (λ k. fit k 8 ≡ true) (sym e) refl

-- the digest of range 1 is at place 1
pub tree-root : {R : Type 0} (m : Model R) (h : List ℕ → ℕ) (es : List R) → 0 < length es → slice_index_or (tree m h es) 1 0 ≡ digest_of m h es 1
unfolding tree
tree-root m h es p = get_or-map-range_with_len (place_of m h es) 0 _ 1 1 0 (omega arith) refl
