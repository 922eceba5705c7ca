-- Seats and words by their places.
use Rattle.std.proofs.Common.{◌≡◌, ℕ, zero, suc, ◌+◌, ◌*◌, ◌<◌, List, take, drop, [], ◌∷◌, map, length, max, get_or, sym, ◌∙◌, refl, subst, ap, ap₂, arith}
use Rattle.std.specs.List.{range_with_len}
use Rattle.std.specs.Array.{IsFromFnResultFrom}
use denote.Param.Members.{Mut, Called}
use Rattle.std.proofs.lemmas.List.{drop-drop}
use Rattle.element.specs.Bytes.{number}
use Rattle.element.specs.Numbers.{by_places}
use Rattle.kinds.specs.Counters.{maxima, words_in}

-- a list whose elements are those of another, each by f
pub mapped : {X Y : Type 0} (f : X → Y) (xs : List X) (ys : List Y) → length ys ≡ length xs → ((i : ℕ) (d : X) (e : Y) → i < length xs → get_or ys i e ≡ f (get_or xs i d)) → ys ≡ map f xs
mapped f [] [] l h = refl
mapped f [] (y ∷ ys) l h = absurd (omega arith)
mapped f (x ∷ xs) [] l h = absurd (omega arith)
mapped f (x ∷ xs) (y ∷ ys) l h = ap₂ (λ b bs. b ∷ bs) (h 0 x y (omega arith)) (mapped f xs ys (omega arith) (λ i d e k. h (suc i) d e (omega arith)))

-- the join of eight seats, by their places
pub at_eight : (a b r : List ℕ) → length a ≡ 8 → length b ≡ 8 → length r ≡ 8 → map (λ k. get_or r k 0) (range_with_len 0 8) ≡ map (λ k. max (get_or a k 0) (get_or b k 0)) (range_with_len 0 8) → r ≡ maxima a b
at_eight a b r la lb lr e = sym (by_places 8 r lr) ∙ e ∙ ap₂ maxima (by_places 8 a la) (by_places 8 b lb)

-- An array that calls of g made, place by place: each call leaves a state that keeps K, from which the next is made.
module _ {F : Type 0} (g : Mut F (ℕ × Unit {0}) ℕ) (K : F → Type 0) (value : ℕ → ℕ) (step : (p q : F) (i y : ℕ) → K p → Called g p (i, tt) y q → (y ≡ value i) × K q) where
  pub made : (n i : ℕ) (f : F) (ys : List ℕ) → K f → IsFromFnResultFrom g f ys i n → (k : ℕ) → k < n → get_or ys (i + k) 0 ≡ value (i + k)
  made zero i f ys h e k l = absurd (omega arith)
  made (suc n) i f ys h e zero l =
      let s = step f e.0 i e.1 h e.3 in
      let t : i ≡ i + 0 = omega arith in
      subst (λ (j : ℕ). get_or ys j 0 ≡ value j) t (e.2.1 0 ∙ s.0)
  made (suc n) i f ys h e (suc k) l =
      let s = step f e.0 i e.1 h e.3 in
      let t : i + 1 + k ≡ i + suc k = omega arith in
      subst (λ (j : ℕ). get_or ys j 0 ≡ value j) t (made n (i + 1) e.0 ys s.1 e.4 k (omega arith))

-- the seats that bytes spell, by their places: m are before these
seats_from : (n m : ℕ) (bs r : List ℕ) → length r ≡ n → ((k : ℕ) → k < n → get_or r k 0 ≡ number (take 4 (drop (4 * (m + k)) bs))) → r ≡ words_in n (drop (4 * m) bs)
seats_from zero m bs [] l h = refl
seats_from zero m bs (x ∷ r) l h = absurd (omega arith)
seats_from (suc n) m bs [] l h = absurd (omega arith)
seats_from (suc n) m bs (x ∷ r) l h =
    let p : m + 0 ≡ m = omega arith in
    let q : 4 * m + 4 ≡ 4 * (m + 1) = omega arith in
    let rest = seats_from n (m + 1) bs r (omega arith) (λ k e. let s : m + suc k ≡ m + 1 + k = omega arith in h (suc k) (omega arith) ∙ ap (λ (i : ℕ). number (take 4 (drop (4 * i) bs))) s) in
    ap₂ (λ y ys. y ∷ ys) (h 0 (omega arith) ∙ ap (λ (i : ℕ). number (take 4 (drop (4 * i) bs))) p) (rest ∙ ap (words_in n) (sym (drop-drop 4 (4 * m) bs ∙ ap (λ (i : ℕ). drop i bs) q)))

pub seats_of : (bs r : List ℕ) → length r ≡ 8 → ((k : ℕ) → k < 8 → get_or r (0 + k) 0 ≡ number (take 4 (drop (4 * (0 + k)) bs))) → r ≡ words_in 8 bs
seats_of bs r l h = seats_from 8 0 bs r l (λ k e. let s : k ≡ 0 + k = omega arith in ap (λ (i : ℕ). get_or r i 0) s ∙ h k e)
