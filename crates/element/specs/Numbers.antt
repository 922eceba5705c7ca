-- Byte strings and big-endian integers: the bytes of a number spell it, and a byte string is the bytes of the number that it spells.
use Rattle.std.specs.Prelude.{◌≡◌, ℕ, zero, suc, ◌+◌, ◌*◌, ◌/◌, ◌%◌, ◌^◌, ◌<◌, List, [], ◌∷◌, ◌++◌, map, length, take, drop, slice_index, refl}
use Rattle.std.proofs.Common.{sym, ap, ap₂, subst, ◌∙◌, pow-suc, mul_assoc, mul_comm, add-mul, mod-eq_of_lt, mod-lt, arith}
use Rattle.std.proofs.Math.Nat.{add-mul-div_right, add-mul-mod_self_right}
use Rattle.std.proofs.Math.Arith.{mod-mul}
use Rattle.std.specs.List.{range_with_len}
use Rattle.std.proofs.lemmas.List.FromFn.{fill_by_all}
use Rattle.std.proofs.ByRecursion.{All-append, All-take, All-drop, All-from_get_or}
use Rattle.std.proofs.lemmas.Nat.{div-mul-add, mul-add-lt}
use Rattle.element.specs.Bytes.{ByteString, be, after, number}

pub bytes_from : (bs : List ℕ) → ((i : ℕ) → slice_index bs i < 256) → ByteString bs
bytes_from bs h = All-from_get_or (λ b. b < 256) bs 0 (λ i l. h i)

pub bytes_append : (xs ys : List ℕ) → ByteString xs → ByteString ys → ByteString (xs ++ ys)
bytes_append xs ys h k = All-append (λ b. b < 256) xs ys h k

pub bytes_take : (n : ℕ) (bs : List ℕ) → ByteString bs → ByteString (take n bs)
bytes_take n bs h = All-take (λ b. b < 256) n bs h

pub bytes_drop : (n : ℕ) (bs : List ℕ) → ByteString bs → ByteString (drop n bs)
bytes_drop n bs h = All-drop (λ b. b < 256) n bs h

pow_pos : (k : ℕ) → 0 < 256 ^ k
pow_pos zero = omega arith
pow_pos (suc k) = let h = pow_pos k in rw pow-suc (omega arith)

pub length_be : (k n : ℕ) → length (be k n) ≡ k
length_be zero n = refl
length_be (suc k) n = ap suc (length_be k n)

pub bytes_be : (k n : ℕ) → ByteString (be k n)
bytes_be zero n = tt
bytes_be (suc k) n = (mod-lt (n / 256 ^ k) (omega arith), bytes_be k n)

after_be : (k n a : ℕ) → after a (be k n) ≡ a * 256 ^ k + n % 256 ^ k
after_be zero n a = omega arith
after_be (suc k) n a =
    let d : ℕ = n / 256 ^ k % 256 in
    let p = pow_pos k in
    let e = mod-mul n {m = 256} {c = 256 ^ k} (omega arith) p in
    let s : 256 ^ suc k ≡ 256 * 256 ^ k = pow-suc 256 k ∙ mul_comm (256 ^ k) 256 in
    let f = add-mul (a * 256) d (256 ^ k) in
    let m = mul_assoc a 256 (256 ^ k) in
    after_be k n (a * 256 + d) ∙ rw s (omega arith)

-- the bytes of a number spell it
pub number_be : (k n : ℕ) → n < 256 ^ k → number (be k n) ≡ n
number_be k n h = after_be k n 0 ∙ omega (arith, mod-eq_of_lt h)

-- what stands above the j lowest bytes does not show in them
be_high : (j e n : ℕ) → be j (n + 256 ^ j * e) ≡ be j n
be_high zero e n = refl
be_high (suc j) e n =
    let s : 256 ^ suc j * e ≡ 256 ^ j * (256 * e) = ap (λ (x : ℕ). x * e) (pow-suc 256 j) ∙ mul_assoc (256 ^ j) 256 e in
    let t : n + 256 ^ j * (256 * e) ≡ n + (256 * e) * 256 ^ j = ap (λ (x : ℕ). n + x) (mul_comm (256 ^ j) (256 * e)) in
    let q : (n + 256 ^ suc j * e) / 256 ^ j ≡ n / 256 ^ j + e * 256 = ap (λ (x : ℕ). x / 256 ^ j) (ap (λ (x : ℕ). n + x) s ∙ t) ∙ add-mul-div_right n (256 * e) (pow_pos j) ∙ ap (λ (x : ℕ). n / 256 ^ j + x) (mul_comm 256 e) in
    ap₂ (λ (x : ℕ) (xs : List ℕ). x ∷ xs) (ap (λ (x : ℕ). x % 256) q ∙ add-mul-mod_self_right (n / 256 ^ j) e 256) (ap (λ (x : ℕ). be j (n + x)) s ∙ be_high j (256 * e) n)

after_split : (bs : List ℕ) (a : ℕ) → after a bs ≡ after 0 bs + 256 ^ length bs * a
after_split [] a = omega arith
after_split (b ∷ bs) a =
    let x = after_split bs (a * 256 + b) in
    let y = after_split bs (0 * 256 + b) in
    let p = pow-suc 256 (length bs) in
    let m = mul_assoc (256 ^ length bs) 256 a in
    let c = mul_comm (256 ^ length bs) (a * 256 + b) in
    let f = add-mul (a * 256) b (256 ^ length bs) in
    let g = mul_comm (256 ^ length bs) (256 * a) in
    let h = mul_comm (256 ^ length bs) (0 * 256 + b) in
    let k : a * 256 ≡ 256 * a = mul_comm a 256 in
    let r = ap (λ (z : ℕ). z * 256 ^ length bs) k in
    let u = ap (λ (z : ℕ). z * a) p in
    let v : (0 * 256 + b) * 256 ^ length bs ≡ b * 256 ^ length bs = ap (λ (z : ℕ). z * 256 ^ length bs) (omega arith) in
    omega arith

-- k bytes spell a number that k bytes hold
pub number_below : (bs : List ℕ) → ByteString bs → number bs < 256 ^ length bs
number_below [] h = omega arith
number_below (b ∷ bs) h =
    let r = number_below bs h.1 in
    let w = mul-add-lt b (256 ^ length bs) (after 0 bs) 256 h.0 r in
    let x = after_split bs (0 + b) in
    let p = pow-suc 256 (length bs) in
    let c : 256 ^ length bs * (0 + b) ≡ b * 256 ^ length bs = ap (λ (z : ℕ). 256 ^ length bs * z) (omega arith) ∙ mul_comm (256 ^ length bs) b in
    omega arith

-- a byte string is the bytes of the number that it spells
pub be_number : (bs : List ℕ) → ByteString bs → be (length bs) (number bs) ≡ bs
be_number [] h = refl
be_number (b ∷ bs) h =
    let r = number_below bs h.1 in
    let x = after_split bs (0 + b) in
    let c : 256 ^ length bs * (0 + b) ≡ b * 256 ^ length bs = ap (λ (z : ℕ). 256 ^ length bs * z) (omega arith) ∙ mul_comm (256 ^ length bs) b in
    let y : after (0 + b) bs ≡ b * 256 ^ length bs + after 0 bs = omega arith in
    let q = ap (λ (z : ℕ). z / 256 ^ length bs % 256) y ∙ ap (λ (z : ℕ). z % 256) (div-mul-add b (256 ^ length bs) (after 0 bs) r) ∙ mod-eq_of_lt h.0 in
    ap₂ (λ (z : ℕ) (zs : List ℕ). z ∷ zs) q (ap (be (length bs)) x ∙ be_high (length bs) (0 + b) (after 0 bs) ∙ be_number bs h.1)

-- the same where the length is known by another name
pub be_spelt : (k : ℕ) (bs : List ℕ) → length bs ≡ k → ByteString bs → be k (number bs) ≡ bs
be_spelt k bs e h = ap (λ (n : ℕ). be n (number bs)) (sym e) ∙ be_number bs h

pub spelt_below : (k : ℕ) (bs : List ℕ) → length bs ≡ k → ByteString bs → number bs < 256 ^ k
spelt_below k bs e h = subst (λ (n : ℕ). number bs < 256 ^ n) e (number_below bs h)

-- a list of known length is known by its places
pub by_places : (n : ℕ) (bs : List ℕ) → length bs ≡ n → map (λ k. slice_index bs k) (range_with_len 0 n) ≡ bs
by_places n bs l = sym (fill_by_all (λ k. slice_index bs k) bs n 0 l (λ k h. refl))

-- a number by its four bytes, and by its eight
pub spelt_by_four : (bs : List ℕ) → length bs ≡ 4 → slice_index bs 0 * 16777216 + slice_index bs 1 * 65536 + slice_index bs 2 * 256 + slice_index bs 3 ≡ number bs
spelt_by_four bs l = omega arith ∙ ap number (by_places 4 bs l)

pub spelt_by_eight : (bs : List ℕ) → length bs ≡ 8 → slice_index bs 0 * 72057594037927936 + slice_index bs 1 * 281474976710656 + slice_index bs 2 * 1099511627776 + slice_index bs 3 * 4294967296 + slice_index bs 4 * 16777216 + slice_index bs 5 * 65536 + slice_index bs 6 * 256 + slice_index bs 7 ≡ number bs
spelt_by_eight bs l = omega arith ∙ ap number (by_places 8 bs l)
