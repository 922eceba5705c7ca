-- What an event does to the record of a round, and how round numbers rise.
use Rattle.std.proofs.Common.{◌≡◌, ℕ, zero, suc, ◌-◌, ◌*◌, ◌<◌, ◌≤◌, Bool, true, false, cond, ltb, get_or, Some, Ok, Option, sym, refl, ap, ◌∙◌, subst, ⊎_elim, arith}
use Rattle.std.proofs.lemmas.Bool.{cases_lt, both_ways}
use Rattle.frame.specs.Frames.{Frame, compare, same, differ, offer, held}
use Rattle.replica.specs.Replicas.{Replica, question}
use Rattle.replica.specs.Rounds.{State, idle, running, Progress, in_state, begun}
use Rattle.tree.specs.Walk.{follow}
use Rattle.peers.specs.Pairs.{End, other, Event, opened}
use Rattle.peers.specs.Runs.{Run, keys, number_at, takes_answer, Opening}
use Rattle.peers.proofs.Ends.{other_other}
use Rattle.peers.proofs.Settings.{Setting, Peers, Due}
use Rattle.peers.proofs.Acts.{opens_at, Act, Proceeded, rests, lays, opens, resends, abandons, compares, gives, agrees, differs, receives}
use Rattle.peers.proofs.Views.{News, asks, replies, holds_out}
use Rattle.peers.proofs.Bounds.{acts_at, due_at}

pub idle_running : (s : State) (i c : ℕ) → s ≡ idle → s ≡ running i c → ⊥
idle_running s i c h k = let z : ◌≡◌ {A = ℕ} 0 1 = cc in omega arith

module _ (S : Setting) where
  -- The record of an end stays, starts a round, stops it, or moves by an answer.
  pub data Turn (v : Event S.R) (p q : Peers S) (e : End) : Type 0 where
    keeps : (q.replica e).progress ≡ (p.replica e).progress → takes_answer e v ≡ false → opens_at e v ≡ false → Turn v p q e
    starts : v ≡ opened e (Ok tt) → (q.replica e).progress ≡ begun (p.replica e).progress → Turn v p q e
    stops : (q.replica e).progress ≡ in_state (p.replica e).progress idle → takes_answer e v ≡ false → opens_at e v ≡ false → Turn v p q e
    moves : (f : Frame) (r i c : ℕ) (next : Option ℕ) (s : Replica S.R) → Proceeded S v p q e f r i c next s → s.progress ≡ (p.replica e).progress → Turn v p q e

  module _ (v : Event S.R) (p q : Peers S) (e : End) where
    kept : q.replica e ≡ p.replica e → (w : Event S.R) → v ≡ w → takes_answer e w ≡ false → opens_at e w ≡ false → Turn v p q e
    kept h w is t o = keeps (ap (λ (s : Replica S.R). s.progress) h) (ap (takes_answer e) is ∙ t) (ap (opens_at e) is ∙ o)

    pub turn : Act S v p q e → Turn v p q e
    turn (rests h n l) = keeps (ap (λ (s : Replica S.R). s.progress) h) n.takes n.opens
    turn (lays k x is below h l) = keeps (ap (λ (s : Replica S.R). s.progress) h) (ap (takes_answer e) is) (ap (opens_at e) is)
    turn (opens is w o h a) = starts is (ap (λ (s : Replica S.R). s.progress) h)
    turn (resends i c is w h a) = kept h _ is refl refl
    turn (abandons is h l) = stops (ap (λ (s : Replica S.R). s.progress) h) (ap (takes_answer e) is) (ap (opens_at e) is)
    turn (compares r i x is l h a) = kept h _ is refl refl
    turn (gives r i bs x is l y h a) = keeps (ap (λ (s : Replica S.R). s.progress) h) (ap (takes_answer e) is) (ap (opens_at e) is)
    turn (agrees r i c w) = moves (same r i) r i c (follow i) _ w refl
    turn (differs r i c w) = moves (differ r i) r i c (Some (2 * i)) _ w refl
    turn (receives r i c bs x y w) = moves (held r i bs) r i c (follow i) _ w refl

    pub moved_number : (f : Frame) (r i c : ℕ) (next : Option ℕ) (s : Replica S.R) → Proceeded S v p q e f r i c next s → s.progress ≡ (p.replica e).progress
        → (q.replica e).progress.last ≡ (p.replica e).progress.last
    moved_number f r i c next s w h = ap (λ (t : Replica S.R). t.progress.last) w.after ∙ ap (λ (x : Progress). x.last) h

    rises : Turn v p q e → (p.replica e).progress.last ≤ (q.replica e).progress.last
    rises (keeps h t o) = let is = ap (λ (x : Progress). x.last) h in omega arith
    rises (starts is h) = let is = ap (λ (x : Progress). x.last) h in omega arith
    rises (stops h t o) = let is = ap (λ (x : Progress). x.last) h in omega arith
    rises (moves f r i c next s w h) = let is = moved_number f r i c next s w h in omega arith

    -- an open takes the next number
    pub opened_number : Turn v p q e → opens_at e v ≡ true → (q.replica e).progress ≡ begun (p.replica e).progress
    opened_number (keeps h t o) k = absurd (both_ways _ o k)
    opened_number (starts is h) k = h
    opened_number (stops h t o) k = absurd (both_ways _ o k)
    opened_number (moves f r i c next s w h) k = absurd (both_ways _ (ap (opens_at e) w.event) k)

  module _ {n : ℕ} (run : Run S.m S.h S.L n) (size : keys run ≡ S.N) where
    pub turn_at : (t : ℕ) → t < n → (e : End) → Turn (run.event t) (run.pair t) (run.pair (suc t)) e
    turn_at t h e = turn (run.event t) (run.pair t) (run.pair (suc t)) e (acts_at S run size t h e)

    -- round numbers rise
    pub rising : (s t : ℕ) → s ≤ t → t ≤ n → (e : End) → number_at run s e ≤ number_at run t e
    rising s zero h l e = let is : 0 ≡ s = omega arith in subst (λ (u : ℕ). number_at run u e ≤ number_at run 0 e) is (omega arith)
    rising s (suc t) h l e = ⊎_elim
        (λ o. let a = rising s t (omega arith) (omega arith) e in let b = rises (run.event t) (run.pair t) (run.pair (suc t)) e (turn_at t l e) in omega arith)
        (λ o. let is : suc t ≡ s = omega arith in subst (λ (u : ℕ). number_at run u e ≤ number_at run (suc t) e) is (omega arith))
        (cases_lt s (suc t))

    -- Frames that end e sent are of rounds that were opened: questions of its own, answers of the other's.
    abbrev pub Used : ℕ → End → Frame → Type 0
    Used t e (compare r i x) = r ≤ number_at run t e
    Used t e (offer r i bs) = r ≤ number_at run t e
    Used t e (same r i) = r ≤ number_at run t (other e)
    Used t e (differ r i) = r ≤ number_at run t (other e)
    Used t e (held r i bs) = r ≤ number_at run t (other e)

    used_more : (t : ℕ) → t < n → (e : End) (f : Frame) → Used t e f → Used (suc t) e f
    used_more t l e (compare r i x) u = let a = rising t (suc t) (omega arith) l e in omega arith
    used_more t l e (offer r i bs) u = let a = rising t (suc t) (omega arith) l e in omega arith
    used_more t l e (same r i) u = let a = rising t (suc t) (omega arith) l (other e) in omega arith
    used_more t l e (differ r i) u = let a = rising t (suc t) (omega arith) l (other e) in omega arith
    used_more t l e (held r i bs) u = let a = rising t (suc t) (omega arith) l (other e) in omega arith

    question_used : (t : ℕ) (e : End) (i : ℕ) → Used t e (question S.m S.h ((run.pair t).replica e) i)
    question_used t e i = go (ltb i s.progress.size)
      where
        s : Replica S.R
        s = (run.pair t).replica e

        go : (c : Bool) → Used t e (cond c (compare s.progress.last i (get_or s.digests i 0)) (offer s.progress.last i (S.m.written (get_or s.elements (i - s.progress.size) S.m.bottom))))
        go true = omega arith
        go false = omega arith

    reply_used : (b : Bool) (t : ℕ) (e : End) (r i : ℕ) → r ≤ number_at run t (other e) → Used t e (cond b (same r i) (differ r i))
    reply_used true t e r i h = h
    reply_used false t e r i h = h

    pub used : (t : ℕ) → t ≤ n → (e : End) (f : Frame) → Due S (run.pair t) (other e) f → Used t e f
    used zero l e f d = absurd (run.begins.empty (other e) _ d.comes)
    used (suc t) l e f d = ⊎_elim
        (λ o. used_more t l e f (used t (omega arith) e f o))
        (new (λ g k. used t (omega arith) (other e) g (subst (λ (x : End). Due S (run.pair t) x g) (sym (other_other e)) k)))
        (due_at S run size t l e f d)
      where
        new : ((g : Frame) → Due S (run.pair t) e g → Used t (other e) g) → News S (run.event t) (run.pair t) (run.pair (suc t)) e f → Used (suc t) e f
        new old (asks i c w is o) = subst (Used (suc t) e) (sym o) (question_used (suc t) e i)
        new old (replies r i x is k h o) =
            let a = old (compare r i x) k in let b = rising t (suc t) (omega arith) l (other e) in subst (Used (suc t) e) (sym o) (reply_used _ (suc t) e r i (omega arith))
        new old (holds_out r i bs x k y h o) =
            let a = old (offer r i bs) k in let b = rising t (suc t) (omega arith) l (other e) in subst (Used (suc t) e) (sym o) (omega arith)

    -- A round that runs was opened.
    abbrev pub Opened : ℕ → End → Type 0
    Opened t e = (o : ℕ) × (o < t) × Opening run e (number_at run t e) o

    opened_more : (t : ℕ) (e : End) → number_at run (suc t) e ≡ number_at run t e → Opened t e → Opened (suc t) e
    opened_more t e h o = (o.0, (let l = o.1 in omega arith), subst (λ (r : ℕ). Opening run e r o.0) (sym h) o.2)

    pub traced : (t : ℕ) → t ≤ n → (e : End) (i c : ℕ) → ((run.pair t).replica e).progress.state ≡ running i c → Opened t e
    traced zero l e i c h = absurd (idle_running _ i c (ap (λ (x : Progress). x.state) (run.begins.makes e).progress) h)
    traced (suc t) l e i c h = go (turn_at t l e) (traced t (omega arith) e)
      where
        go : Turn (run.event t) (run.pair t) (run.pair (suc t)) e → ((i c : ℕ) → ((run.pair t).replica e).progress.state ≡ running i c → Opened t e) → Opened (suc t) e
        go (keeps k x o) old = opened_more t e (ap (λ (x : Progress). x.last) k) (old i c (sym (ap (λ (x : Progress). x.state) k) ∙ h))
        go (starts is k) old = (t, omega arith, record { opens = is; number = refl })
        go (stops k x o) old = absurd (idle_running _ i c (ap (λ (x : Progress). x.state) k) h)
        go (moves f r j d next s w k) old = opened_more t e (moved_number (run.event t) (run.pair t) (run.pair (suc t)) e f r j d next s w k) (old j d w.state)
