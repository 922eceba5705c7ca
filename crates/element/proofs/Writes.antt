-- What a write at the front of lent memory leaves.
use Rattle.std.proofs.Common.{◌≡◌, ℕ, ◌+◌, ◌-◌, ◌<◌, ◌≤◌, Bool, leb, List, [], ◌++◌, length, take, drop, sym, ap, ◌∙◌, arith, length-append, length-drop}
use borrow.Rule.Slice.PartMut.{put_mid}
use Rattle.std.proofs.lemmas.List.{append-nil, append_assoc, take_at, take_rest, drop_all, drop_at, drop-drop}
use Rattle.std.proofs.lemmas.Bool.{cond-true, cond-false, le-leb, lt-leb}
use Rattle.element.specs.Bytes.{placed}

-- What `place` ensures of bs, for cs of length n, where the two are the same.
pub placed_as : (out : List ℕ) {bs cs last : List ℕ} {n : ℕ} {r : Bool} → bs ≡ cs → length cs ≡ n → r ≡ leb (length bs) (length out) → last ≡ placed bs out → (r ≡ leb n (length out)) × (last ≡ placed cs out)
placed_as out e l fits after = (
  fits ∙ ap (λ (xs : List ℕ). leb (length xs) (length out)) e ∙ ap (λ (k : ℕ). leb k (length out)) l,
  after ∙ ap (λ (xs : List ℕ). placed xs out) e,
)

pub placed_room : (bs out : List ℕ) → length bs ≤ length out → placed bs out ≡ bs ++ drop (length bs) out
placed_room bs out h = cond-true _ _ out (le-leb _ _ h)

pub placed_short : (bs out : List ℕ) → length out < length bs → placed bs out ≡ out
placed_short bs out h = cond-false _ (bs ++ drop (length bs) out) out (lt-leb _ _ h)

-- a at the front of out, and then b at the front of what comes after a
pub placed_parts : (out a b : List ℕ) (n : ℕ) (mid part : List ℕ) → length a ≡ n → n + length b ≤ length out → mid ≡ placed a out → part ≡ placed b (take (length mid - n) (drop n mid)) → put_mid n (length mid - n) mid part ≡ placed (a ++ b) out
placed_parts out a b n mid part l h p q =
    let rest : List ℕ = drop (length a) out in
    let m : mid ≡ a ++ rest = p ∙ placed_room a out (omega arith) in
    let d : drop n mid ≡ rest = ap (drop n) m ∙ drop_at a rest n l in
    let r : length rest ≡ length out - length a = length-drop (length a) out in
    let w : part ≡ b ++ drop (length b) rest = q ∙ ap (placed b) (take_rest mid n ∙ d) ∙ placed_room b rest (omega arith) in
    let t : take n mid ≡ a = ap (take n) m ∙ take_at a rest n l in
    let z : drop (length mid - n) (drop n mid) ≡ [] = drop-drop (length mid - n) n mid ∙ drop_all _ mid (omega arith) in
    let s : length (a ++ b) ≡ length a + length b = length-append a b in
    (λ i. t i ++ (w i ++ z i))
    ∙ ap (λ (xs : List ℕ). a ++ xs) (append-nil (b ++ drop (length b) rest))
    ∙ ap (λ (xs : List ℕ). a ++ (b ++ xs)) (drop-drop (length b) (length a) out ∙ ap (λ (k : ℕ). drop k out) (sym s))
    ∙ sym (append_assoc a b (drop (length (a ++ b)) out))
    ∙ sym (placed_room (a ++ b) out (omega arith))
