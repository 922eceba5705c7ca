-- In a pair of replicas every digest table stays the tree, and every frame that may arrive is a lawful one.
use Rattle.std.proofs.Common.{◌≡◌, ℕ, ◌-◌, ◌*◌, ◌^◌, ◌<◌, ◌≤◌, Bool, true, false, cond, ltb, ◌⊎◌, List, [], ◌∷◌, length, get_or, set, Some, None, Option, sym, refl, ap, ◌∙◌, subst, inl, inr, ⊎_elim, arith}
use Rattle.std.proofs.lemmas.List.{length-set}
use Rattle.std.proofs.lemmas.Bool.{cond-true, ltb-true, ltb-false}
use Rattle.std.proofs.lemmas.Option.{same_Some}
use Rattle.element.specs.Tables.{held_at}
use Rattle.frame.proofs.Codecs.{reads}
use Rattle.frame.specs.Decoding.{decoded}
use Rattle.frame.specs.Frames.{Frame, compare, same, differ, offer, held, written, Lawful}
use Rattle.replica.specs.Replicas.{Replica, with_progress, absorbed, question}
use Rattle.replica.specs.Rounds.{State, idle, running, Progress, in_state, begun, moved_to}
use Rattle.tree.proofs.Forward.{preorder}
use Rattle.tree.proofs.Merkles.{tree_place, digest_is}
use Rattle.tree.proofs.Renewals.{stays}
use Rattle.tree.proofs.Sizing.{sized_high}
use Rattle.tree.specs.Renewal.{renewed}
use Rattle.tree.specs.Sizes.{sized}
use Rattle.tree.specs.Tree.{digested}
use Rattle.tree.specs.Walk.{follow, settled, split}
use Rattle.peers.specs.Pairs.{End, left, right, other, Event, Begins, Happens}
use Rattle.peers.proofs.Ends.{other_other}
use Rattle.peers.proofs.Settings.{Setting, Peers, Comes, Due, Walks, Placed, Shaped, Sent, Sound}
use Rattle.peers.proofs.Acts.{Act, Proceeded, rests, lays, opens, resends, abandons, compares, gives, agrees, differs, receives, acts}
use Rattle.peers.proofs.Views.{News, asks, replies, holds_out, told}

module _ (S : Setting) where
  -- ranges at which a walk is
  pub walks_low : {i : ℕ} → Walks S i → 1 ≤ i
  walks_low {i} w = ((preorder S.depth).ranges w.passed i w.walk).0

  pub walks_high : {i : ℕ} → Walks S i → i < 2 * S.N
  walks_high {i} w = let h = ((preorder S.depth).ranges w.passed i w.walk).1 in let p = S.power in omega arith

  first_walks : Walks S 1
  first_walks = record { passed = []; walk = refl }

  settled_walks : (i j : ℕ) → follow i ≡ Some j → Walks S i → Walks S j
  settled_walks i j h w = record { passed = settled i ∷ w.passed; walk = (w.walk, sym h) }

  split_walks : (i : ℕ) → i < S.N → Walks S i → Walks S (2 * i)
  split_walks i h w = record { passed = split i ∷ w.passed; walk = (w.walk, subst (λ (n : ℕ). i < n) S.power h, refl) }

  -- An element joined into a key leaves the digest table the tree.
  absorbed_shaped : (s : Replica S.R) (k : ℕ) (x : S.R) → Shaped S s → k < S.N → Shaped S (absorbed S.m S.h s k x)
  absorbed_shaped s k x h below =
      let long = h.long in
      let key : k < length s.elements = omega arith in
      let size : sized (length s.elements) ≡ true = ap sized long ∙ S.is_size in
      let y = held_at S.m s.elements k x in
      record {
        long = length-set s.elements k y ∙ long;
        size = h.size;
        digests = ap (renewed S.m S.h (set s.elements k y) k) h.digests ∙ stays S.m S.h s.elements k y size key;
        numbered = h.numbered;
        placed = h.placed;
      }

  -- So does another record of the same size and number.
  moved_shaped : (s : Replica S.R) (t : State) → Shaped S s → Placed S s.progress.last t → Shaped S (with_progress s (in_state s.progress t))
  moved_shaped s t h w = record { long = h.long; size = h.size; digests = h.digests; numbered = h.numbered; placed = w }

  begun_shaped : (s : Replica S.R) → Shaped S s → s.progress.last < 4294967295 → Shaped S (with_progress s (begun s.progress))
  begun_shaped s h l = record { long = h.long; size = h.size; digests = h.digests; numbered = omega arith; placed = (omega arith, first_walks) }

  pub placed_at : {last i c : ℕ} (t : State) → t ≡ running i c → Placed S last t → (1 ≤ last) × Walks S i
  placed_at {last} t h w = subst (Placed S last) h w

  -- where a round goes on after its range was settled or split
  next_placed : (last c : ℕ) (next : Option ℕ) → 1 ≤ last → ((j : ℕ) → next ≡ Some j → Walks S j) → Placed S last (moved_to c next)
  next_placed last c None h w = tt
  next_placed last c (Some j) h w = (h, w j refl)

  module _ (v : Event S.R) (p q : Peers S) (b : Sound S p) (e : End) where
    went_shaped : (f : Frame) (r i c : ℕ) (next : Option ℕ) (s : Replica S.R) → Shaped S s → s.progress ≡ (p.replica e).progress → (Walks S i → (j : ℕ) → next ≡ Some j → Walks S j)
        → Proceeded S v p q e f r i c next s → Shaped S (q.replica e)
    went_shaped f r i c next s h is ok w =
        let at = placed_at s.progress.state (ap (λ (x : Progress). x.state) is ∙ w.state) h.placed in
        subst (Shaped S) (sym w.after) (moved_shaped s (moved_to c next) h (next_placed s.progress.last c next at.0 (ok at.1)))

    pub shaped_next : Act S v p q e → Shaped S (q.replica e)
    shaped_next (rests h n l) = subst (Shaped S) (sym h) (b.shaped e)
    shaped_next (lays k x is below h l) = subst (Shaped S) (sym h) (absorbed_shaped (p.replica e) k x (b.shaped e) below)
    shaped_next (opens is w o h a) = subst (Shaped S) (sym h) (begun_shaped (p.replica e) (b.shaped e) o)
    shaped_next (resends i c is w h a) = subst (Shaped S) (sym h) (b.shaped e)
    shaped_next (abandons is h l) = subst (Shaped S) (sym h) (moved_shaped (p.replica e) idle (b.shaped e) tt)
    shaped_next (compares r i x is l h a) = subst (Shaped S) (sym h) (b.shaped e)
    shaped_next (gives r i bs x is l y h a) = subst (Shaped S) (sym h) (absorbed_shaped (p.replica e) (i - S.N) x (b.shaped e) (let two = l.lawful.1 in omega arith))
    shaped_next (agrees r i c w) = went_shaped (same r i) r i c (follow i) (p.replica e) (b.shaped e) refl (λ k j is. settled_walks i j is k) w
    shaped_next (differs r i c w) =
        went_shaped (differ r i) r i c (Some (2 * i)) (p.replica e) (b.shaped e) refl (λ k j is. subst (Walks S) (same_Some _ _ is) (split_walks i w.due.lawful.1.high k)) w
    shaped_next (receives r i c bs x y w) =
        went_shaped (held r i bs) r i c (follow i) (absorbed S.m S.h (p.replica e) (i - S.N) x)
        (absorbed_shaped (p.replica e) (i - S.N) x (b.shaped e) (let two = w.due.lawful.1 in omega arith)) refl (λ k j is. settled_walks i j is k) w

  -- What is digested is below 2 to the power 64.
  place_small : (s : Replica S.R) (i : ℕ) → Shaped S s → 1 ≤ i → i < 2 * S.N → get_or s.digests i 0 < 2 ^ 64
  place_small s i h l u =
      let long = h.long in
      let high : i < 2 * length s.elements = omega arith in
      let is = ap (λ (ds : List ℕ). get_or ds i 0) h.digests ∙ tree_place S.m S.h s.elements i l high ∙ digest_is S.m S.h s.elements i in
      subst (λ (x : ℕ). x < 2 ^ 64) (sym is) (S.small (digested S.m S.h s.elements i))

  -- A running round's question is a lawful frame.
  question_lawful : (s : Replica S.R) (i c : ℕ) → Shaped S s → s.progress.state ≡ running i c → Lawful S.m S.N (question S.m S.h s i)
  question_lawful s i c h is = go (ltb i s.progress.size) refl
    where
      at : (1 ≤ s.progress.last) × Walks S i
      at = placed_at s.progress.state is h.placed

      go : (t : Bool) → ltb i s.progress.size ≡ t → Lawful S.m S.N (cond t (compare s.progress.last i (get_or s.digests i 0)) (offer s.progress.last i (S.m.written (get_or s.elements (i - s.progress.size) S.m.bottom))))
      go true t =
          let size = h.size in
          let high = ltb-true i s.progress.size t in
          (record { low = at.0; high = h.numbered }, record { low = walks_low at.1; high = omega arith }, place_small s i h (walks_low at.1) (walks_high at.1))
      go false t =
          let size = h.size in
          let low = ltb-false i s.progress.size t in
          (record { low = at.0; high = h.numbered }, record { low = omega arith; high = walks_high at.1 }, (_, refl))

  reply_lawful : (t : Bool) (r i x : ℕ) → Lawful S.m S.N (compare r i x) → Lawful S.m S.N (cond t (same r i) (differ r i))
  reply_lawful true r i x l = (l.0, l.1)
  reply_lawful false r i x l = (l.0, l.1)

  news_lawful : (v : Event S.R) (p q : Peers S) (e : End) (f : Frame) → Shaped S (q.replica e) → News S v p q e f → Lawful S.m S.N f
  news_lawful v p q e f h (asks i c w is o) = subst (Lawful S.m S.N) (sym o) (question_lawful (q.replica e) i c h is)
  news_lawful v p q e f h (replies r i x is l k o) = subst (Lawful S.m S.N) (sym o) (reply_lawful _ r i x l.lawful)
  news_lawful v p q e f h (holds_out r i bs x l y k o) = subst (Lawful S.m S.N) (sym o) (l.lawful.0, l.lawful.1, (_, refl))

  -- Bytes are those of one lawful frame at most.
  one_frame : (f g : Frame) → Lawful S.m S.N f → Lawful S.m S.N g → written f ≡ written g → f ≡ g
  one_frame f g l k h =
      let codec = reads S.laws S.N (sized_high S.N S.is_size) in
      same_Some _ _ (sym (codec.back f l) ∙ ap (decoded S.m S.N) h ∙ codec.back g k)

  module _ (v : Event S.R) (p q : Peers S) (b : Sound S p) (w : Happens S.m S.h S.L v p q) where
    -- So it is after each event.
    pub sound_next : Sound S q
    sound_next = record { shaped = shaped; sent = λ d. subst (λ (x : End). (g : List ℕ) → Comes S q x g → Sent S g) (other_other d) (from (other d)) }
      where
        shaped : (e : End) → Shaped S (q.replica e)
        shaped e = shaped_next v p q b e (acts S v p q b w e)

        from : (e : End) (g : List ℕ) → Comes S q (other e) g → Sent S g
        from e g c = ⊎_elim (b.sent (other e) g) (λ n. record { frame = n.0; bytes = sym n.1; lawful = news_lawful v p q e n.0 (shaped e) n.2 }) (told S v p q e b (acts S v p q b w e) g c)

    -- A frame that may arrive at the other end could before, or is one that this end put.
    pub due_next : (e : End) (f : Frame) → Due S q (other e) f → Due S p (other e) f ⊎ News S v p q e f
    due_next e f d = ⊎_elim (λ c. inl (record { lawful = d.lawful; comes = c })) new (told S v p q e b (acts S v p q b w e) (written f) d.comes)
      where
        new : (g : Frame) × (written f ≡ written g) × News S v p q e g → Due S p (other e) f ⊎ News S v p q e f
        new n =
            let l = news_lawful v p q e n.0 (shaped_next v p q b e (acts S v p q b w e)) n.2 in
            inr (subst (News S v p q e) (sym (one_frame f n.0 d.lawful l n.1)) n.2)

  -- And so it is when both have just been made.
  pub sound_start : (p : Peers S) → Begins S.m S.h S.L p → length (p.replica left).elements ≡ S.N → Sound S p
  sound_start p b size = record { shaped = shaped; sent = λ e g c. absurd (b.empty e g c) }
    where
      long : (e : End) → length (p.replica e).elements ≡ S.N
      long left = size
      long right = sym b.one_size ∙ size

      shaped : (e : End) → Shaped S (p.replica e)
      shaped e =
          let made = b.makes e in
          record {
            long = long e;
            size = ap (λ (x : Progress). x.size) made.progress ∙ long e;
            digests = made.digests ∙ cond-true _ _ _ made.fits;
            numbered = subst (λ (x : ℕ). x < 2 ^ 32) (sym (ap (λ (x : Progress). x.last) made.progress)) made.numbered;
            placed = subst (λ (x : Progress). Placed S x.last x.state) (sym made.progress) tt;
          }
