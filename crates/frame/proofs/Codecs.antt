-- A lawful frame reads back as written, and what reads as a frame is that frame, written, and lawful.
use Rattle.std.proofs.Common.{◌≡◌, ℕ, zero, suc, ◌+◌, ◌*◌, ◌^◌, ◌<◌, ◌≤◌, true, ◌&&◌, ltb, leb, List, [], ◌∷◌, ◌++◌, length, take, drop, is_some, Some, None, Option, sym, refl, ap, ◌∙◌, subst, arith, length-drop, take-append-drop, slice_index}
use Rattle.std.proofs.lemmas.Bool.{le-leb, lt-ltb, eq-eqb, leb-true, ltb-true, eqb-true, and_from, and_parts, cond-true}
use Rattle.std.proofs.lemmas.List.{append_assoc, drop-drop, nil_from_length, length-take-le}
use Rattle.std.proofs.lemmas.Bool.Decides.{nat_tests}
use Rattle.std.proofs.lemmas.Option.{cond_some}
use Rattle.element.specs.Bytes.{ByteString, be, number}
use Rattle.element.specs.Model.{Model, Laws}
use Rattle.element.specs.Numbers.{number_be, be_spelt, spelt_below, bytes_take, bytes_drop}
use Rattle.frame.specs.Frames.{Frame, compare, same, differ, offer, held, header, written, Numbered, Inner, Single, Spells, Lawful}
use Rattle.frame.specs.Decoding.{is_kind, round_of, range_of, kind_length, range_suits, element_suits, good_kind, good_length, good_round, good_range, good_element, frame_of, framed, decoded, Reads}

-- A range passes where it is lawful,
inner_passes : (N n : ℕ) → Inner N n → (leb 1 n && ltb n N) ≡ true
inner_passes N n h = and_from _ _ (le-leb 1 n h.low) (lt-ltb n N h.high)

single_passes : (N n : ℕ) → Single N n → (leb N n && ltb n (2 * N)) ≡ true
single_passes N n h = and_from _ _ (le-leb N n h.low) (lt-ltb n (2 * N) h.high)

-- and is lawful where it passes.
inner_lawful : (N n : ℕ) → (leb 1 n && ltb n N) ≡ true → Inner N n
inner_lawful N n h = let p = and_parts (leb 1 n) (ltb n N) h in record { low = leb-true 1 n p.0; high = ltb-true n N p.1 }

single_lawful : (N n : ℕ) → (leb N n && ltb n (2 * N)) ≡ true → Single N n
single_lawful N n h = let p = and_parts (leb N n) (ltb n (2 * N)) h in record { low = leb-true N n p.0; high = ltb-true n (2 * N) p.1 }

some_of : {A : Type 0} (o : Option A) → is_some o ≡ true → (x : A) × (o ≡ Some x)
some_of (Some x) h = (x, refl)
some_of None h = cc

-- what holds of each kind
of_kind : (P : ℕ → Type 0) → P 1 → P 2 → P 3 → P 4 → P 5 → (k : ℕ) → 1 ≤ k → k ≤ 5 → P k
of_kind P a b c d e zero l h = absurd (omega arith)
of_kind P a b c d e (suc zero) l h = a
of_kind P a b c d e (suc (suc zero)) l h = b
of_kind P a b c d e (suc (suc (suc zero))) l h = c
of_kind P a b c d e (suc (suc (suc (suc zero)))) l h = d
of_kind P a b c d e (suc (suc (suc (suc (suc zero))))) l h = e
of_kind P a b c d e (suc (suc (suc (suc (suc (suc k)))))) l h = absurd (omega arith)

-- a frame of any kind has a header
kind_long : (w k : ℕ) → 7 ≤ kind_length w k
kind_long w k = grind (arith, nat_tests)

round_below : (bs : List ℕ) → ByteString bs → 7 ≤ length bs → round_of bs < 2 ^ 32
round_below bs o l = spelt_below 4 (take 4 (drop 1 bs)) (length-take-le 4 (drop 1 bs) (omega (arith, length-drop 1 bs))) (bytes_take 4 (drop 1 bs) (bytes_drop 1 bs o))

-- The header of a frame's fields, and what follows it, are the frame.
whole : (bs : List ℕ) → ByteString bs → 7 ≤ length bs → header (slice_index bs 0) (round_of bs) (range_of bs) ++ drop 7 bs ≡ bs
whole [] o l = absurd (omega arith)
whole (k ∷ rest) o l =
    let four : length (take 4 rest) ≡ 4 = length-take-le 4 rest (omega arith) in
    let two : length (take 2 (drop 4 rest)) ≡ 2 = length-take-le 2 (drop 4 rest) (omega (arith, length-drop 4 rest)) in
    let p = be_spelt 4 (take 4 rest) four (bytes_take 4 rest o.1) in
    let q = be_spelt 2 (take 2 (drop 4 rest)) two (bytes_take 2 (drop 4 rest) (bytes_drop 4 rest o.1)) in
    let s = append_assoc (take 4 rest) (take 2 (drop 4 rest)) (drop 6 rest) in
    let t = ap (λ (xs : List ℕ). take 2 (drop 4 rest) ++ xs) (sym (drop-drop 2 4 rest)) ∙ take-append-drop 2 (drop 4 rest) in
    (λ i. k ∷ ((p i ++ q i) ++ drop 6 rest))
    ∙ ap (λ (xs : List ℕ). k ∷ xs) (s ∙ ap (λ (xs : List ℕ). take 4 rest ++ xs) t ∙ take-append-drop 4 rest)

module _ {R : Type 0} {m : Model R} (laws : Laws m) (N : ℕ) (few : N ≤ 4096) where
  -- A header with lawful fields, and what may follow it, read as the frame of these.
  module _ (k r n : ℕ) (kind : is_kind k ≡ true) (numbered : Numbered r) (range : range_suits N k n ≡ true) (small : n < 2 * N) where
    reads_as : (rest : List ℕ) → 7 + length rest ≡ kind_length m.width k → element_suits m k rest ≡ true → decoded m N (header k r n ++ rest) ≡ Some (frame_of k r n rest)
    reads_as rest long element =
        let a : number (be 4 r) ≡ r = number_be 4 r numbered.high in
        let b : number (be 2 n) ≡ n = number_be 2 n (omega arith) in
        let round : leb 1 (number (be 4 r)) ≡ true = le-leb 1 _ (omega (arith, numbered.low)) in
        let long : good_length m N (header k r n ++ rest) ≡ true = eq-eqb _ _ (omega arith) in
        cond-true _ _ None (and_from _ _ kind (and_from _ _ long (and_from _ _ round (and_from _ _ (ap (range_suits N k) b ∙ range) element))))
        ∙ (λ i. Some (frame_of k (a i) (b i) rest))

  spelt : (bs : List ℕ) → Spells m bs → is_some (m.parsed bs) ≡ true
  spelt bs h = ap (λ (xs : List ℕ). is_some (m.parsed xs)) (sym h.1) ∙ ap is_some (laws.read_back h.0)

  wide : (bs : List ℕ) → Spells m bs → 7 + length bs ≡ 7 + m.width
  wide bs h = omega (arith, ap length h.1, laws.written_long h.0)

  back : (f : Frame) → Lawful m N f → decoded m N (written f) ≡ Some f
  back (compare r n d) h =
      reads_as 1 r n refl h.0 (inner_passes N n h.1) (omega (arith, h.1.high)) (be 8 d) refl refl
      ∙ ap (λ (x : ℕ). Some (compare r n x)) (number_be 8 d h.2)
  back (same r n) h = reads_as 2 r n refl h.0 (inner_passes N n h.1) (omega (arith, h.1.high)) [] refl refl
  back (differ r n) h = reads_as 3 r n refl h.0 (inner_passes N n h.1) (omega (arith, h.1.high)) [] refl refl
  back (offer r n bs) h = reads_as 4 r n refl h.0 (single_passes N n h.1) h.1.high bs (wide bs h.2) (spelt bs h.2)
  back (held r n bs) h = reads_as 5 r n refl h.0 (single_passes N n h.1) h.1.high bs (wide bs h.2) (spelt bs h.2)

  -- What a frame of these parts is, where they pass: lawful, and written as they are.
  module _ (r n : ℕ) (rest : List ℕ) (numbered : Numbered r) (o : ByteString rest) where
    abbrev Right : ℕ → Type 0
    Right k = 7 + length rest ≡ kind_length m.width k → range_suits N k n ≡ true → element_suits m k rest ≡ true → Lawful m N (frame_of k r n rest) × (written (frame_of k r n rest) ≡ header k r n ++ rest)

    spells : is_some (m.parsed rest) ≡ true → Spells m rest
    spells h = let s = some_of (m.parsed rest) h in (s.0, laws.write_back rest o s.0 s.1)

    digest : 7 + length rest ≡ 15 → length rest ≡ 8
    digest l = omega arith

    bare : 7 + length rest ≡ 7 → [] ≡ rest
    bare l = sym (nil_from_length rest (omega arith))

    right : (k : ℕ) → 1 ≤ k → k ≤ 5 → Right k
    right = of_kind Right
        (λ l q e. ((numbered, inner_lawful N n q, spelt_below 8 rest (digest l) o), ap (λ (xs : List ℕ). header 1 r n ++ xs) (be_spelt 8 rest (digest l) o)))
        (λ l q e. ((numbered, inner_lawful N n q), ap (λ (xs : List ℕ). header 2 r n ++ xs) (bare l)))
        (λ l q e. ((numbered, inner_lawful N n q), ap (λ (xs : List ℕ). header 3 r n ++ xs) (bare l)))
        (λ l q e. ((numbered, single_lawful N n q, spells e), refl))
        (λ l q e. ((numbered, single_lawful N n q, spells e), refl))

  forth : (bs : List ℕ) (f : Frame) → ByteString bs → decoded m N bs ≡ Some f → Lawful m N f × (written f ≡ bs)
  forth bs f o h =
      let s = cond_some (good_kind m N bs && (good_length m N bs && (good_round m N bs && (good_range m N bs && good_element m N bs)))) (framed bs) f h in
      let a = and_parts (good_kind m N bs) _ s.0 in
      let b = and_parts (good_length m N bs) _ a.1 in
      let c = and_parts (good_round m N bs) _ b.1 in
      let d = and_parts (good_range m N bs) _ c.1 in
      let k = and_parts (leb 1 (slice_index bs 0)) (leb (slice_index bs 0) 5) a.0 in
      let l : length bs ≡ kind_length m.width (slice_index bs 0) = eqb-true _ _ b.0 in
      let e : 7 ≤ length bs = omega (arith, kind_long m.width (slice_index bs 0)) in
      let t : 7 + length (drop 7 bs) ≡ kind_length m.width (slice_index bs 0) = omega (arith, length-drop 7 bs) in
      let w = right (round_of bs) (range_of bs) (drop 7 bs) (record { low = leb-true 1 _ c.0; high = round_below bs o e }) (bytes_drop 7 bs o) (slice_index bs 0) (leb-true 1 _ k.0) (leb-true _ 5 k.1) t d.0 d.1 in
      subst (λ (g : Frame). Lawful m N g × (written g ≡ bs)) s.1 (w.0, w.1 ∙ whole bs o e)

pub reads : {R : Type 0} {m : Model R} → Laws m → Reads m
reads laws N few = record { back = back laws N few; forth = forth laws N few }
