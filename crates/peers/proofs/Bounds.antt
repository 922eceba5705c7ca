-- What each replica of a pair holds: at least what was entered there, and at most what was entered at either.
use Rattle.std.proofs.Common.{◌≡◌, ℕ, zero, suc, ◌-◌, ◌<◌, ◌≤◌, Bool, true, false, cond, ltb, ◌⊎◌, List, get_or, Some, sym, ap, ◌∙◌, subst, ⊎_elim, arith}
use Rattle.std.proofs.lemmas.Bool.{cases_lt}
use Rattle.element.specs.Order.{AtMost}
use Rattle.frame.specs.Frames.{Frame, compare, same, differ, offer, held}
use Rattle.replica.specs.Replicas.{Replica, question}
use Rattle.peers.specs.Pairs.{End, left, right, other, Event, Happens}
use Rattle.peers.specs.Runs.{Run, keys, holds, entered, all_entered, entered_by}
use Rattle.peers.proofs.Ends.{other_other}
use Rattle.peers.proofs.Settings.{Setting, Peers, Due, Sound}
use Rattle.peers.proofs.Orders.{le_refl, le_trans, le_eq, le_same, le_left, le_right, le_join, read_same}
use Rattle.peers.proofs.Acts.{Act, acts}
use Rattle.peers.proofs.Views.{Carries, at_key, Cell, stays, grows, takes, cell, News, asks, replies, holds_out}
use Rattle.peers.proofs.Sounds.{sound_start, sound_next, due_next}

module _ (S : Setting) where
  abbrev Le : S.R → S.R → Type 0
  Le x y = AtMost S.m x y

  -- What the two ends hold at a key together.
  abbrev pub together : Peers S → ℕ → S.R
  together p k = S.m.joined (at_key S p left k) (at_key S p right k)

  pub le_together : (p : Peers S) (e : End) (k : ℕ) → Le (at_key S p e k) (together p k)
  le_together p left k = le_left S _ _
  le_together p right k = le_right S _ _

  -- No frame brings more than that.
  abbrev pub Modest : Peers S → Type 0
  Modest p = (e : End) (f : Frame) → Due S p e f → (k : ℕ) (bs : List ℕ) → Carries S.N f k bs → (x : S.R) → S.m.parsed bs ≡ Some x → Le x (together p k)

  -- a key never loses
  pub cell_grows : (v : Event S.R) (p q : Peers S) (e : End) (k : ℕ) → Cell S v p q e k → Le (at_key S p e k) (at_key S q e k)
  cell_grows v p q e k (stays h n) = le_eq S (sym h)
  cell_grows v p q e k (grows x h n l) = subst (Le (at_key S p e k)) (sym h) (le_left S _ _)
  cell_grows v p q e k (takes f bs x d c y h n) = subst (Le (at_key S p e k)) (sym h) (le_left S _ _)

  together_grows : (v : Event S.R) (p q : Peers S) (k : ℕ) → ((e : End) → Cell S v p q e k) → Le (together p k) (together q k)
  together_grows v p q k c =
      le_join S (le_trans S (cell_grows v p q left k (c left)) (le_together q left k)) (le_trans S (cell_grows v p q right k (c right)) (le_together q right k))

  -- a frame that end e puts brings what e holds
  question_carries : (s : Replica S.R) (i k : ℕ) (bs : List ℕ) → s.progress.size ≡ S.N → Carries S.N (question S.m S.h s i) k bs → bs ≡ S.m.written (get_or s.elements k S.m.bottom)
  question_carries s i k bs size = go (ltb i s.progress.size)
    where
      go : (c : Bool) → Carries S.N (cond c (compare s.progress.last i (get_or s.digests i 0)) (offer s.progress.last i (S.m.written (get_or s.elements (i - s.progress.size) S.m.bottom)))) k bs
          → bs ≡ S.m.written (get_or s.elements k S.m.bottom)
      go true c = absurd c
      go false c = sym c.1 ∙ ap (λ (j : ℕ). S.m.written (get_or s.elements j S.m.bottom)) (ap (λ (j : ℕ). i - j) size ∙ c.0)

  reply_carries : (t : Bool) (r i k : ℕ) (bs : List ℕ) → Carries S.N (cond t (same r i) (differ r i)) k bs → ⊥
  reply_carries true r i k bs c = c
  reply_carries false r i k bs c = c

  news_carries : (v : Event S.R) (p q : Peers S) (e : End) (f : Frame) → Sound S q → News S v p q e f → (k : ℕ) (bs : List ℕ) → Carries S.N f k bs → bs ≡ S.m.written (at_key S q e k)
  news_carries v p q e f b (asks i c w is o) k bs y = question_carries (q.replica e) i k bs (b.shaped e).size (subst (λ (g : Frame). Carries S.N g k bs) o y)
  news_carries v p q e f b (replies r i x is l h o) k bs y = absurd (reply_carries _ r i k bs (subst (λ (g : Frame). Carries S.N g k bs) o y))
  news_carries v p q e f b (holds_out r i cs x l z h o) k bs y =
      let c : Carries S.N (held r i (S.m.written (at_key S q e (i - S.N)))) k bs = subst (λ (g : Frame). Carries S.N g k bs) o y in
      sym c.1 ∙ ap (λ (j : ℕ). S.m.written (at_key S q e j)) c.0

  module _ (v : Event S.R) (p q : Peers S) (b : Sound S p) (w : Happens S.m S.h S.L v p q) where
    pub cells : (e : End) (k : ℕ) → Cell S v p q e k
    cells e k = cell S v p q e b (acts S v p q b w e) k

    modest_next : Modest p → Modest q
    modest_next old d = subst Good (other_other d) (good (other d))
      where
        Good : End → Type 0
        Good d = (f : Frame) → Due S q d f → (k : ℕ) (bs : List ℕ) → Carries S.N f k bs → (x : S.R) → S.m.parsed bs ≡ Some x → Le x (together q k)

        good : (e : End) → Good (other e)
        good e f d k bs c x h = ⊎_elim was new (due_next S v p q b w e f d)
          where
            was : Due S p (other e) f → Le x (together q k)
            was o = le_trans S (old (other e) f o k bs c x h) (together_grows v p q k (λ d. cells d k))

            new : News S v p q e f → Le x (together q k)
            new o =
                let is = news_carries v p q e f (sound_next S v p q b w) o k bs c in
                le_trans S (le_same S (read_same S x (at_key S q e k) (ap S.m.parsed (sym is) ∙ h))) (le_together q e k)

  module _ {n : ℕ} (run : Run S.m S.h S.L n) (size : keys run ≡ S.N) where
    pub sound_at : (t : ℕ) → t ≤ n → Sound S (run.pair t)
    sound_at zero h = sound_start S (run.pair 0) run.begins size
    sound_at (suc t) h = sound_next S (run.event t) (run.pair t) (run.pair (suc t)) (sound_at t (omega arith)) (run.happens t h)

    -- what happens at an end, and to a key, in event t
    pub acts_at : (t : ℕ) → t < n → (e : End) → Act S (run.event t) (run.pair t) (run.pair (suc t)) e
    acts_at t h = acts S (run.event t) (run.pair t) (run.pair (suc t)) (sound_at t (omega arith)) (run.happens t h)

    pub cells_at : (t : ℕ) → t < n → (e : End) (k : ℕ) → Cell S (run.event t) (run.pair t) (run.pair (suc t)) e k
    cells_at t h = cells (run.event t) (run.pair t) (run.pair (suc t)) (sound_at t (omega arith)) (run.happens t h)

    pub due_at : (t : ℕ) → t < n → (e : End) (f : Frame) → Due S (run.pair (suc t)) (other e) f → Due S (run.pair t) (other e) f ⊎ News S (run.event t) (run.pair t) (run.pair (suc t)) e f
    due_at t h = due_next S (run.event t) (run.pair t) (run.pair (suc t)) (sound_at t (omega arith)) (run.happens t h)

    pub modest_at : (t : ℕ) → t ≤ n → Modest (run.pair t)
    modest_at zero h = λ e f d k bs c x y. absurd (run.begins.empty e _ d.comes)
    modest_at (suc t) h = modest_next (run.event t) (run.pair t) (run.pair (suc t)) (sound_at t (omega arith)) (run.happens t h) (modest_at t (omega arith))

    -- what is held, and what was entered, only grows
    pub holds_grow : (s t : ℕ) → s ≤ t → t ≤ n → (e : End) (k : ℕ) → Le (holds run s e k) (holds run t e k)
    holds_grow s zero h l e k = let is : 0 ≡ s = omega arith in subst (λ (u : ℕ). Le (holds run u e k) (holds run 0 e k)) is (le_refl S _)
    holds_grow s (suc t) h l e k = ⊎_elim
        (λ o. le_trans S (holds_grow s t (omega arith) (omega arith) e k) (cell_grows (run.event t) (run.pair t) (run.pair (suc t)) e k (cells_at t l e k)))
        (λ o. let is : suc t ≡ s = omega arith in subst (λ (u : ℕ). Le (holds run u e k) (holds run (suc t) e k)) is (le_refl S _))
        (cases_lt s (suc t))

    entered_more : (t : ℕ) → t < n → (e : End) (k : ℕ) → Le (entered run t e k) (entered run (suc t) e k)
    entered_more t h e k = go (cells_at t h e k)
      where
        go : Cell S (run.event t) (run.pair t) (run.pair (suc t)) e k → Le (entered run t e k) (entered_by S.m (run.event t) e k (entered run t e k))
        go (stays o z) = le_eq S (sym (z _))
        go (grows x o z l) = subst (Le (entered run t e k)) (sym (z _)) (le_left S _ _)
        go (takes f bs x d c y o z) = le_eq S (sym (z _))

    pub entered_grow : (s t : ℕ) → s ≤ t → t ≤ n → (e : End) (k : ℕ) → Le (entered run s e k) (entered run t e k)
    entered_grow s zero h l e k = let is : 0 ≡ s = omega arith in subst (λ (u : ℕ). Le (entered run u e k) (entered run 0 e k)) is (le_refl S _)
    entered_grow s (suc t) h l e k = ⊎_elim
        (λ o. le_trans S (entered_grow s t (omega arith) (omega arith) e k) (entered_more t l e k))
        (λ o. let is : suc t ≡ s = omega arith in subst (λ (u : ℕ). Le (entered run u e k) (entered run (suc t) e k)) is (le_refl S _))
        (cases_lt s (suc t))

    pub le_all : (t : ℕ) (e : End) (k : ℕ) → Le (entered run t e k) (all_entered run t k)
    le_all t left k = le_left S _ _
    le_all t right k = le_right S _ _

    all_more : (t : ℕ) → t < n → (k : ℕ) → Le (all_entered run t k) (all_entered run (suc t) k)
    all_more t h k = le_join S (le_trans S (entered_more t h left k) (le_all (suc t) left k)) (le_trans S (entered_more t h right k) (le_all (suc t) right k))

    pub kept : (t : ℕ) → t ≤ n → (e : End) (k : ℕ) → Le (entered run t e k) (holds run t e k)
    kept zero h e k = le_refl S _
    kept (suc t) h e k = go (cells_at t h e k) (kept t (omega arith) e k)
      where
        go : Cell S (run.event t) (run.pair t) (run.pair (suc t)) e k → Le (entered run t e k) (holds run t e k) → Le (entered_by S.m (run.event t) e k (entered run t e k)) (holds run (suc t) e k)
        go (stays o z) i = rw (z (entered run t e k), o) i
        go (grows x o z l) i = rw (z (entered run t e k), o) (le_join S (le_trans S i (le_left S _ _)) (le_right S _ _))
        go (takes f bs x d c y o z) i = rw (z (entered run t e k), o) (le_trans S i (le_left S _ _))

    pub entered_only : (t : ℕ) → t ≤ n → (e : End) (k : ℕ) → Le (holds run t e k) (all_entered run t k)
    entered_only zero h e k = le_all 0 e k
    entered_only (suc t) h e k = go (λ d. le_trans S (entered_only t (omega arith) d k) (all_more t h k)) (cells_at t h e k)
      where
        go : ((d : End) → Le (holds run t d k) (all_entered run (suc t) k)) → Cell S (run.event t) (run.pair t) (run.pair (suc t)) e k → Le (holds run (suc t) e k) (all_entered run (suc t) k)
        go before (stays o z) = subst (λ (u : S.R). Le u (all_entered run (suc t) k)) (sym o) (before e)
        go before (grows x o z l) =
            subst (λ (u : S.R). Le u (all_entered run (suc t) k)) (sym o)
            (le_join S (before e) (le_trans S (le_right S (entered run t e k) x) (le_trans S (le_eq S (sym (z (entered run t e k)))) (le_all (suc t) e k))))
        go before (takes f bs x d c y o z) =
            subst (λ (u : S.R). Le u (all_entered run (suc t) k)) (sym o)
            (le_join S (before e) (le_trans S (modest_at t (omega arith) e f d k bs c x y) (le_join S (before left) (before right))))
