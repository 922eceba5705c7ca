-- A run may begin with a pair that has just been made.
use Rattle.std.proofs.Common.{◌≡◌, ℕ, ◌^◌, ◌<◌, true, List, length, vec_items, sym, refl, ap, ◌∙◌, subst}
use Rattle.std.proofs.lemmas.Bool.{and_from, cond-true, eq-eqb}
use Rattle.channel.specs.Links.{Link, Arrives}
use Rattle.element.specs.Model.{Model}
use Rattle.replica.specs.Replicas.{Replica}
use Rattle.tree.proofs.Merkles.{tree_long}
use Rattle.tree.specs.Sizes.{sized, fit}
use Rattle.tree.specs.Tree.{tree}
use Rattle.peers.specs.Pairs.{End, left, right, lines, Made, Begins}
use Rattle.peers.specs.States.{owned, fresh, size_of, channels, pair_of}
use Rattle.peers.specs.declared.pair.Peers.{Peers}
use Rattle.peers.specs.declared.start.Start.{Start}

fresh_made : {E : Type 0} (m : Model E) (h : List ℕ → ℕ) (s : Start E) → sized (size_of s) ≡ true → s.last < 2 ^ 32 → Made m h (fresh m h s)
fresh_made m h s size wide =
    let fits : fit (size_of s) (length (tree m h (vec_items s.elements))) ≡ true = and_from _ _ size (eq-eqb _ _ (tree_long m h (vec_items s.elements))) in
    record { last = s.last; numbered = wide; found = tree m h (vec_items s.elements); fits = fits; progress = refl; digests = sym (cond-true _ _ _ fits) }

module _ {E D A B : Type 0} (a : Link A) (b : Link B) (m : Model E) (f : D → List ℕ → ℕ) where
  pub begins : (p : Peers E D A B) (l r : Start E) → owned p.left ≡ fresh m (f p.digest) l → owned p.right ≡ fresh m (f p.digest) r → sized (size_of l) ≡ true → l.last < 2 ^ 32 → r.last < 2 ^ 32
      → size_of r ≡ size_of l → ((e : End) (g : List ℕ) → Arrives ((lines a b).link e) (channels a b p e) g → ⊥) → Begins m (f p.digest) (lines a b) (pair_of a b p)
  begins p l r i j size wide wide-too one quiet = record { makes = made; one_size = ap (λ (s : Replica E). length s.elements) i ∙ sym one ∙ sym (ap (λ (s : Replica E). length s.elements) j); empty = quiet }
    where
      made : (e : End) → Made m (f p.digest) ((pair_of a b p).replica e)
      made left = subst (Made m (f p.digest)) (sym i) (fresh_made m (f p.digest) l size wide)
      made right = subst (Made m (f p.digest)) (sym j) (fresh_made m (f p.digest) r (ap sized one ∙ size) wide-too)
