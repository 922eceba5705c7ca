-- The counter: the greater of two in each seat, and seats as words of four bytes.
use Rattle.std.specs.Prelude.{◌≡◌, ℕ, zero, suc, ◌*◌, ◌^◌, ◌<◌, max, true, false, List, [], ◌∷◌, ◌++◌, length, take, drop, replicate, nat_lt, slice_index, refl}
use Rattle.std.proofs.Common.{ap, ap₂, ◌∙◌, arith, length-append, length-take, length-drop, take-append-drop}
use Rattle.std.proofs.Math.Nat.{max_comm}
use Rattle.std.proofs.lemmas.Bool.{and_from, and_parts, lt-ltb, ltb-true, both_ways}
use Rattle.element.specs.Bytes.{ByteString, be}
use Rattle.kinds.specs.Counters.{counter, counter_of, seated, maxima, words, words_in}
use Rattle.element.specs.Numbers.{length_be, number_be, be_spelt, spelt_below, bytes_be, bytes_append, bytes_take, bytes_drop}
use Rattle.element.proofs.Rules.{Sound}

max_assoc : (a b c : ℕ) → max (max a b) c ≡ max a (max b c)
max_assoc a b c = omega arith

max_self : (a : ℕ) → max a a ≡ a
max_self a = omega arith

-- the join of seats
assoc : (xs ys zs : List ℕ) → maxima (maxima xs ys) zs ≡ maxima xs (maxima ys zs)
assoc [] ys zs = refl
assoc (x ∷ xs) [] zs = refl
assoc (x ∷ xs) (y ∷ ys) [] = refl
assoc (x ∷ xs) (y ∷ ys) (z ∷ zs) = ap₂ (λ (n : ℕ) (ns : List ℕ). n ∷ ns) (max_assoc x y z) (assoc xs ys zs)

comm : (xs ys : List ℕ) → maxima xs ys ≡ maxima ys xs
comm [] [] = refl
comm [] (y ∷ ys) = refl
comm (x ∷ xs) [] = refl
comm (x ∷ xs) (y ∷ ys) = ap₂ (λ (n : ℕ) (ns : List ℕ). n ∷ ns) (max_comm x y) (comm xs ys)

idem : (xs : List ℕ) → maxima xs xs ≡ xs
idem [] = refl
idem (x ∷ xs) = ap₂ (λ (n : ℕ) (ns : List ℕ). n ∷ ns) (max_self x) (idem xs)

least : (n : ℕ) (xs : List ℕ) → seated n xs ≡ true → maxima (replicate n 0) xs ≡ xs
least zero [] h = refl
least zero (x ∷ xs) h = absurd (both_ways false refl h)
least (suc n) [] h = absurd (both_ways false refl h)
least (suc n) (x ∷ xs) h = let z : max 0 x ≡ x = omega arith in ap₂ (λ (k : ℕ) (ks : List ℕ). k ∷ ks) z (least n xs (and_parts _ _ h).1)

seated_maxima : (n : ℕ) (xs ys : List ℕ) → seated n xs ≡ true → seated n ys ≡ true → seated n (maxima xs ys) ≡ true
seated_maxima zero [] ys h k = refl
seated_maxima zero (x ∷ xs) ys h k = absurd (both_ways false refl h)
seated_maxima (suc n) [] ys h k = absurd (both_ways false refl h)
seated_maxima (suc n) (x ∷ xs) [] h k = absurd (both_ways false refl k)
seated_maxima (suc n) (x ∷ xs) (y ∷ ys) h k =
    let p = and_parts _ _ h in
    let q = and_parts _ _ k in
    let a = ltb-true x (2 ^ 32) p.0 in
    let b = ltb-true y (2 ^ 32) q.0 in
    let m : max x y < 2 ^ 32 = omega arith in
    and_from _ _ (lt-ltb _ _ m) (seated_maxima n xs ys p.1 q.1)

-- seats that are as many as they should be and fit their width
pub seated_from : (n : ℕ) (xs : List ℕ) → length xs ≡ n → ((i : ℕ) → slice_index xs i < 2 ^ 32) → seated n xs ≡ true
seated_from zero [] l h = refl
seated_from zero (x ∷ xs) l h = absurd (omega arith)
seated_from (suc n) [] l h = absurd (omega arith)
seated_from (suc n) (x ∷ xs) l h = and_from _ _ (lt-ltb _ _ (h 0)) (seated_from n xs (omega arith) (λ i. h (suc i)))

-- words of four bytes
length_words : (n : ℕ) (xs : List ℕ) → seated n xs ≡ true → length (words xs) ≡ 4 * n
length_words zero [] h = refl
length_words zero (x ∷ xs) h = absurd (both_ways false refl h)
length_words (suc n) [] h = absurd (both_ways false refl h)
length_words (suc n) (x ∷ xs) h =
    let t : seated n xs ≡ true = (and_parts (nat_lt x (2 ^ 32)) (seated n xs) h).1 in
    let r = length_words n xs t in
    let b = length_be 4 x in
    length-append (be 4 x) (words xs) ∙ omega arith

bytes_words : (xs : List ℕ) → ByteString (words xs)
bytes_words [] = tt
bytes_words (x ∷ xs) = bytes_append (be 4 x) (words xs) (bytes_be 4 x) (bytes_words xs)

words_back : (n : ℕ) (xs : List ℕ) → seated n xs ≡ true → words_in n (words xs) ≡ xs
words_back zero [] h = refl
words_back zero (x ∷ xs) h = absurd (both_ways false refl h)
words_back (suc n) [] h = absurd (both_ways false refl h)
words_back (suc n) (x ∷ xs) h =
    let p = and_parts _ _ h in
    let small : x < 256 ^ 4 = ltb-true x (2 ^ 32) p.0 in
    ap₂ (λ (k : ℕ) (ks : List ℕ). k ∷ ks) (number_be 4 x small) (words_back n xs p.1)

-- bytes spell seats of 32 bits
pub seated_words : (n : ℕ) (bs : List ℕ) → ByteString bs → length bs ≡ 4 * n → seated n (words_in n bs) ≡ true
seated_words zero bs o l = refl
seated_words (suc n) bs o l =
    let a : length (take 4 bs) ≡ 4 = length-take 4 bs ∙ omega arith in
    let d : length (drop 4 bs) ≡ 4 * n = length-drop 4 bs ∙ omega arith in
    and_from _ _ (lt-ltb _ _ (spelt_below 4 (take 4 bs) a (bytes_take 4 bs o))) (seated_words n (drop 4 bs) (bytes_drop 4 bs o) d)

words_forth : (n : ℕ) (bs : List ℕ) → ByteString bs → length bs ≡ 4 * n → words (words_in n bs) ≡ bs
words_forth zero [] o l = refl
words_forth zero (b ∷ bs) o l = absurd (omega arith)
words_forth (suc n) bs o l =
    let a : length (take 4 bs) ≡ 4 = length-take 4 bs ∙ omega arith in
    let d : length (drop 4 bs) ≡ 4 * n = length-drop 4 bs ∙ omega arith in
    ap₂ (λ (xs ys : List ℕ). xs ++ ys) (be_spelt 4 (take 4 bs) a (bytes_take 4 bs o)) (words_forth n (drop 4 bs) (bytes_drop 4 bs o) d)
    ∙ take-append-drop 4 bs

pub sound : Sound counter
sound = record {
  width_low = omega arith;
  width_high = omega arith;
  keeps_bottom = refl;
  keeps_join = λ x y h k. seated_maxima 8 x.seats y.seats h k;
  assoc = λ x y z. ap counter_of (assoc x.seats y.seats z.seats);
  comm = λ x y. ap counter_of (comm x.seats y.seats);
  idem = λ x h. ap counter_of (idem x.seats);
  least = λ x h. ap counter_of (least 8 x.seats h);
  long = λ x h. length_words 8 x.seats h;
  octets = λ x h. bytes_words x.seats;
  back = λ x h. ap counter_of (words_back 8 x.seats h);
  forth = λ bs o l. words_forth 8 bs o l;
}
