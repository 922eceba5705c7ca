-- What an event does at one end, and to the channel toward the other: one case for each thing that a call can do.
use Rattle.std.proofs.Common.{◌≡◌, ℕ, ◌-◌, ◌*◌, ◌<◌, Bool, true, false, cond, eqb, ltb, List, get_or, Some, None, Ok, Err, Option, Result, sym, refl, ap, ◌∙◌, subst, inl, inr, ⊎_elim, arith}
use Rattle.std.proofs.lemmas.Bool.{both_ways, and_parts, eqb-true, eqb-false, ltb-true}
use Rattle.std.proofs.lemmas.Option.{same_Some}
use Rattle.element.specs.Tables.{held_at}
use Rattle.element.specs.declared.refusal.Refusal.{Refusal}
use Rattle.element.specs.declared.refusal.Refusal.TheVariants.{Size, Key, Busy, Idle, Spent, Stale}
use Rattle.frame.proofs.Codecs.{reads}
use Rattle.frame.specs.Decoding.{decoded}
use Rattle.frame.specs.Frames.{Frame, compare, same, differ, offer, held, written, Lawful}
use Rattle.replica.specs.Calls.{runs, current}
use Rattle.replica.specs.Replicas.{Replica, fitting, with_progress, absorbed, question}
use Rattle.replica.specs.Rounds.{State, idle, running, Progress, in_state, begun, moved_to, going}
use Rattle.replica.specs.Steps.{awaits_at, awaits, count_of, Asks, Proceeds, Handled, Judged, Reacts, StepsWith}
use Rattle.replica.specs.declared.answer.Answer.{Answer}
use Rattle.replica.specs.declared.answer.Answer.TheVariants.{Nothing, Answered, Moved, Complete}
use Rattle.tree.proofs.Sizing.{sized_high}
use Rattle.tree.specs.Walk.{follow}
use Rattle.peers.specs.Pairs.{End, other, same_end, Event, laid, opened, resent, abandoned, stepped, lost, Does, Called, Happens}
use Rattle.peers.specs.Runs.{entered_by, takes_answer}
use Rattle.peers.proofs.Declines.{ok_err, where_elim, declined_step}
use Rattle.peers.proofs.Ends.{by_end, other_other, same_end_other}
use Rattle.peers.proofs.Settings.{Setting, Peers, Comes, Fewer, Adds, Due, Sound}

-- an accepted answer passed each test
pub ok_cond : {A : Type 0} (b : Bool) (a : A) (x : Result A Refusal) (e : Refusal) → Ok a ≡ cond b x (Err e) → (b ≡ true) × (Ok a ≡ x)
ok_cond true a x e h = (refl, h)
ok_cond false a x e h = absurd (ok_err a e h)

pub not_cond : {A : Type 0} (b : Bool) (a : A) (e : Refusal) (x : Result A Refusal) → Ok a ≡ cond b (Err e) x → (b ≡ false) × (Ok a ≡ x)
not_cond true a e x h = absurd (ok_err a e h)
not_cond false a e x h = (refl, h)

-- An accepted call opens a round at end e.
abbrev pub opens_at : {R : Type 0} → End → Event R → Bool
opens_at e (laid d k x y) = false
opens_at e (opened d (Ok u)) = same_end d e
opens_at e (opened d (Err r)) = false
opens_at e (resent d y) = false
opens_at e (abandoned d y) = false
opens_at e (stepped d f y) = false
opens_at e lost = false

-- the state of a round
idle_of : (s : State) → runs s ≡ false → s ≡ idle
idle_of idle h = refl
idle_of (running i c) h = absurd (both_ways true h refl)

running_of : (s : State) → runs s ≡ true → (i : ℕ) × (c : ℕ) × (s ≡ running i c)
running_of idle h = absurd (both_ways false refl h)
running_of (running i c) h = (i, c, refl)

awaited : (last : ℕ) (s : State) (r i : ℕ) → awaits_at last s r i ≡ true → (c : ℕ) × (s ≡ running i c) × (last ≡ r)
awaited last idle r i h = absurd (both_ways false refl h)
awaited last (running k c) r i h =
    let two = and_parts (eqb last r) (eqb k i) h in
    (c, ap (λ (j : ℕ). running j c) (eqb-true k i two.1), eqb-true last r two.0)

module _ (S : Setting) where
  abbrev pub R : Type 0
  R = S.R

  -- An event that lays nothing at end e, takes no answer there, and opens no round there.
  pub record Silent (v : Event R) (e : End) : Type 0 where
    pub enters : (k : ℕ) (z : R) → entered_by S.m v e k z ≡ z
    pub takes : takes_answer e v ≡ false
    pub opens : opens_at e v ≡ false

  -- The question of the range that comes next is put to the channel toward the other end.
  abbrev pub GoesOn : Option ℕ → Peers S → Peers S → End → Type 0
  GoesOn None p q e = Fewer S p q (other e)
  GoesOn (Some j) p q e = Adds S p q (other e) (question S.m S.h (q.replica e) j)

  -- An answer f to the question of range i is taken, and the round proceeds from the replica s.
  pub record Proceeded (v : Event R) (p q : Peers S) (e : End) (f : Frame) (r i c : ℕ) (next : Option ℕ) (s : Replica R) : Type 0 where
    pub event : v ≡ stepped e (Some (written f)) (Ok (going c next))
    pub due : Due S p e f
    pub number : (p.replica e).progress.last ≡ r
    pub state : (p.replica e).progress.state ≡ running i c
    pub after : q.replica e ≡ with_progress s (in_state s.progress (moved_to c next))
    pub goes : GoesOn next p q e

  pub data Act (v : Event R) (p q : Peers S) (e : End) : Type 0 where
    rests : q.replica e ≡ p.replica e → Silent v e → Fewer S p q (other e) → Act v p q e
    lays : (k : ℕ) (x : R) → v ≡ laid e k x (Ok tt) → k < S.N → q.replica e ≡ absorbed S.m S.h (p.replica e) k x → Fewer S p q (other e) → Act v p q e
    opens : v ≡ opened e (Ok tt) → (p.replica e).progress.state ≡ idle → (p.replica e).progress.last < 4294967295
        → q.replica e ≡ with_progress (p.replica e) (begun (p.replica e).progress) → Adds S p q (other e) (question S.m S.h (q.replica e) 1) → Act v p q e
    resends : (i c : ℕ) → v ≡ resent e (Ok tt) → (p.replica e).progress.state ≡ running i c → q.replica e ≡ p.replica e
        → Adds S p q (other e) (question S.m S.h (q.replica e) i) → Act v p q e
    abandons : v ≡ abandoned e (Ok tt) → q.replica e ≡ with_progress (p.replica e) (in_state (p.replica e).progress idle) → Fewer S p q (other e) → Act v p q e
    compares : (r i x : ℕ) → v ≡ stepped e (Some (written (compare r i x))) (Ok Answered) → Due S p e (compare r i x)
        → q.replica e ≡ p.replica e → Adds S p q (other e) (cond (eqb x (get_or (p.replica e).digests i 0)) (same r i) (differ r i)) → Act v p q e
    gives : (r i : ℕ) (bs : List ℕ) (x : R) → v ≡ stepped e (Some (written (offer r i bs))) (Ok Answered) → Due S p e (offer r i bs)
        → S.m.parsed bs ≡ Some x → q.replica e ≡ absorbed S.m S.h (p.replica e) (i - S.N) x
        → Adds S p q (other e) (held r i (S.m.written (held_at S.m (p.replica e).elements (i - S.N) x))) → Act v p q e
    agrees : (r i c : ℕ) → Proceeded v p q e (same r i) r i c (follow i) (p.replica e) → Act v p q e
    differs : (r i c : ℕ) → Proceeded v p q e (differ r i) r i c (Some (2 * i)) (p.replica e) → Act v p q e
    receives : (r i c : ℕ) (bs : List ℕ) (x : R) → S.m.parsed bs ≡ Some x
        → Proceeded v p q e (held r i bs) r i c (follow i) (absorbed S.m S.h (p.replica e) (i - S.N) x) → Act v p q e

  -- channels
  equal_fewer : (p q : Peers S) (e : End) → q.toward e ≡ p.toward e → Fewer S p q e
  equal_fewer p q e h g c = subst (λ (x : S.L.Channel e). Rattle.channel.specs.Links.Arrives (S.L.link e) x g) h c

  put_adds : (p q : Peers S) (e : End) (f : Frame) → (S.L.link e).puts (p.toward e) (written f) (q.toward e) → Adds S p q e f
  put_adds p q e f h g c = ⊎_elim inl (λ z. inr z.0) ((S.fair e).put (p.toward e) (q.toward e) (written f) g h c)

  -- the other end, at a call of end e that leaves the channel toward e or takes from it
  far : (v : Event R) (p q : Peers S) (e : End) → q.replica (other e) ≡ p.replica (other e) → Silent v (other e) → Fewer S p q e → Act v p q (other e)
  far v p q e h s l = rests h s (subst (λ d. Fewer S p q d) (sym (other_other e)) l)

  both : (v : Event R) (p q : Peers S) (e : End) → Act v p q e → Act v p q (other e) → (d : End) → Act v p q d
  both v p q e x y = by_end (Act v p q) e x y

  -- a call that lays nothing is silent at the other end
  laid_far : (e : End) (k : ℕ) (x : R) → Silent (laid e k x (Ok tt)) (other e)
  laid_far e k x = record { enters = λ j z. rw (same_end_other e); takes = refl; opens = refl }

  -- What a declined call or a loss leaves at the end where it was made.
  left_alone : (v : Event R) (p q : Peers S) (e : End) → q.replica e ≡ p.replica e → q.replica (other e) ≡ p.replica (other e)
      → ((d : End) → Silent v d) → Fewer S p q e → Fewer S p q (other e) → (d : End) → Act v p q d
  left_alone v p q e here there s inward outward = both v p q e (rests here (s e) outward) (far v p q e there (s (other e)) inward)

  -- what an accepted call was handed and left
  done : {A : Type 0} (e : End) (a : A) (v : Event R) (p q : Peers S) → Called S.m S.h S.L e (Ok a) v p q → Does S.m S.h S.L v p q (p.replica e) (q.replica e)
  done e a v p q c = subst (λ (s : Replica R). Does S.m S.h S.L v p q s (q.replica e)) c.here.0 (subst (λ (t : Replica R). Does S.m S.h S.L v p q c.handed t) (sym c.here.1) c.does)

  laid_acts : (e : End) (k : ℕ) (x : R) (y : Result (Unit {0}) Refusal) (p q : Peers S) → Sound S p → Happens S.m S.h S.L (laid e k x y) p q → (d : End) → Act (laid e k x y) p q d
  laid_acts e k x (Ok u) p q b w =
      let does = done e u (laid e k x (Ok u)) p q w in
      let key = (ok_cond (ltb k (p.replica e).progress.size) u (Ok u) Key (ok_cond (fitting (p.replica e)) u _ Size does.0.answer).1).0 in
      let size = (b.shaped e).size in
      let below = ltb-true k (p.replica e).progress.size key in
      both (laid e k x (Ok u)) p q e
      (lays k x refl (omega arith) does.0.after (equal_fewer p q (other e) (w.does.1 (other e))))
      (far (laid e k x (Ok u)) p q e w.there (laid_far e k x) (equal_fewer p q e (w.does.1 e)))
  laid_acts e k x (Err z) p q b w =
      left_alone (laid e k x (Err z)) p q e w.here w.there (λ d. record { enters = λ j z. refl; takes = refl; opens = refl }) (equal_fewer p q e (w.does.1 e)) (equal_fewer p q (other e) (w.does.1 (other e)))

  opened_acts : (e : End) (y : Result (Unit {0}) Refusal) (p q : Peers S) → Sound S p → Happens S.m S.h S.L (opened e y) p q → (d : End) → Act (opened e y) p q d
  opened_acts e (Ok u) p q b w = both (opened e (Ok u)) p q e here (far (opened e (Ok u)) p q e w.there (record { enters = λ j z. refl; takes = refl; opens = same_end_other e }) (equal_fewer p q e w.does.1))
    where
      s : Replica R
      s = p.replica e

      here : Act (opened e (Ok u)) p q e
      here =
          let does = done e u (opened e (Ok u)) p q w in
          let free = not_cond (runs s.progress.state) u Busy _ (ok_cond (fitting s) u _ Size does.0.answer).1 in
          let left = eqb-false s.progress.last 4294967295 (not_cond (eqb s.progress.last 4294967295) u Spent (Ok u) free.1).0 in
          let wide = (b.shaped e).numbered in
          let at = ap (λ (t : Replica R). t.progress.state) does.0.after in
          opens refl (idle_of s.progress.state free.0) (omega arith) does.0.after
          (put_adds p q (other e) _ (subst (λ (f : Frame). (S.L.link (other e)).puts (p.toward (other e)) (written f) (q.toward (other e))) (ap (current S.m S.h (q.replica e)) at) does.0.puts))
  opened_acts e (Err z) p q b w =
      left_alone (opened e (Err z)) p q e w.here w.there (λ d. record { enters = λ j z. refl; takes = refl; opens = refl }) (equal_fewer p q e w.does.1) (equal_fewer p q (other e) w.does.0.puts)

  resent_acts : (e : End) (y : Result (Unit {0}) Refusal) (p q : Peers S) → Happens S.m S.h S.L (resent e y) p q → (d : End) → Act (resent e y) p q d
  resent_acts e (Ok u) p q w = both (resent e (Ok u)) p q e here (far (resent e (Ok u)) p q e w.there (record { enters = λ j z. refl; takes = refl; opens = refl }) (equal_fewer p q e w.does.2))
    where
      s : Replica R
      s = p.replica e

      here : Act (resent e (Ok u)) p q e
      here =
          let does = done e u (resent e (Ok u)) p q w in
          let at = running_of s.progress.state (ok_cond (runs s.progress.state) u (Ok u) Idle (ok_cond (fitting s) u _ Size does.0.answer).1).0 in
          let asks : current S.m S.h s s.progress.state ≡ question S.m S.h (q.replica e) at.0 = ap (current S.m S.h s) at.2 ∙ ap (λ (t : Replica R). question S.m S.h t at.0) (sym does.1) in
          resends at.0 at.1 refl at.2 does.1
          (put_adds p q (other e) _ (subst (λ (f : Frame). (S.L.link (other e)).puts (p.toward (other e)) (written f) (q.toward (other e))) asks does.0.puts))
  resent_acts e (Err z) p q w =
      left_alone (resent e (Err z)) p q e w.here w.there (λ d. record { enters = λ j z. refl; takes = refl; opens = refl }) (equal_fewer p q e w.does.2) (equal_fewer p q (other e) w.does.0.puts)

  abandoned_acts : (e : End) (y : Result (Unit {0}) Refusal) (p q : Peers S) → Happens S.m S.h S.L (abandoned e y) p q → (d : End) → Act (abandoned e y) p q d
  abandoned_acts e (Ok u) p q w =
      both (abandoned e (Ok u)) p q e
      (abandons refl (done e u (abandoned e (Ok u)) p q w).0.after (equal_fewer p q (other e) (w.does.1 (other e))))
      (far (abandoned e (Ok u)) p q e w.there (record { enters = λ j z. refl; takes = refl; opens = refl }) (equal_fewer p q e (w.does.1 e)))
  abandoned_acts e (Err z) p q w =
      left_alone (abandoned e (Err z)) p q e w.here w.there (λ d. record { enters = λ j z. refl; takes = refl; opens = refl }) (equal_fewer p q e (w.does.1 e)) (equal_fewer p q (other e) (w.does.1 (other e)))

  -- A step at end e, from the replica s to t.
  module _ (e : End) (p q : Peers S) where
    abbrev Stepping : Option (List ℕ) → Replica R → Replica R → Result Answer Refusal → Type 0
    Stepping got s t y = StepsWith S.m S.h (S.L.link (other e)) (S.L.link e) got s t (p.toward e) (q.toward e) (p.toward (other e)) (q.toward (other e)) y

    abbrev out : End
    out = other e

    -- it takes from the channel toward it, or leaves that as it was
    step_inward : (got : Option (List ℕ)) (s t : Replica R) (y : Result Answer Refusal) → Stepping got s t y → Fewer S p q e
    step_inward got s t y w =
        where_elim (fitting s) _ _ w
        (λ _ k g c. (S.fair e).left (p.toward e) (q.toward e) got g k.taken c)
        (λ _ k. equal_fewer p q e k.incoming)

    -- an accepted step
    module _ (b : Sound S p) where
      abbrev s : Replica R
      s = p.replica e

      abbrev t : Replica R
      t = q.replica e

      goes_on : (next : Option ℕ) → Asks S.m S.h (S.L.link out) next t (p.toward out) (q.toward out) → GoesOn next p q e
      goes_on None k = equal_fewer p q out k
      goes_on (Some j) k = put_adds p q out _ k

      -- by the frame f, whose bytes came
      module _ (f : Frame) (due : Due S p e f) (a : Answer) where
        abbrev v : Event R
        v = stepped e (Some (written f)) (Ok a)

        said : (y : Result Answer Refusal) → ◌≡◌ {A = Result Answer Refusal} (Ok a) y → v ≡ stepped e (Some (written f)) y
        said y h = ap (λ (y : Result Answer Refusal). stepped e (Some (written f)) y) h

        proceeded : (r i : ℕ) (next : Option ℕ) (u : Replica R) → u.progress ≡ s.progress → awaits s.progress r i ≡ true
            → Proceeds S.m S.h (S.L.link out) next u t (p.toward out) (q.toward out) (Ok a) → (c : ℕ) × Proceeded v p q e f r i c next u
        proceeded r i next u same-record waits k =
            let at = awaited s.progress.last s.progress.state r i waits in
            let count : count_of u.progress.state ≡ at.0 = ap (λ (x : Progress). count_of x.state) same-record ∙ ap count_of at.1 in (
              at.0,
              record {
                event = said _ (k.says ∙ ap (λ (c : ℕ). Ok (going c next)) count);
                due = due;
                number = at.2;
                state = at.1;
                after = k.replica ∙ ap (λ (c : ℕ). with_progress u (in_state u.progress (moved_to c next))) count;
                goes = goes_on next k.link;
              },
            )

      reacts_act : (f : Frame) → Due S p e f → (a : Answer)
          → Reacts S.m S.h (S.L.link out) f s t (p.toward out) (q.toward out) (Ok a) → Act (stepped e (Some (written f)) (Ok a)) p q e
      reacts_act (compare r n x) l a w = compares r n x (said (compare r n x) l a _ w.says) l w.replica (put_adds p q out _ w.link)
      reacts_act (same r n) l a w =
          where_elim (awaits s.progress r n) _ _ w
          (λ h k. let d = proceeded (same r n) l a r n (follow n) s refl h k in agrees r n d.0 d.1)
          (λ _ k. absurd (ok_err a Stale k.says))
      reacts_act (differ r n) l a w =
          where_elim (awaits s.progress r n) _ _ w
          (λ h k. let d = proceeded (differ r n) l a r n (Some (2 * n)) s refl h k in differs r n d.0 d.1)
          (λ _ k. absurd (ok_err a Stale k.says))
      reacts_act (offer r n bs) l a w =
          let size = (b.shaped e).size in
          let k = w.2 in
          gives r n bs w.0 (said (offer r n bs) l a _ k.says) l w.1 (k.replica ∙ ap (λ (j : ℕ). absorbed S.m S.h s (n - j) w.0) size)
          (put_adds p q out (held r n (S.m.written (held_at S.m s.elements (n - S.N) w.0))) (subst (λ (j : ℕ). (S.L.link out).puts (p.toward out) (written (held r n (S.m.written (held_at S.m s.elements (n - j) w.0)))) (q.toward out)) size k.link))
      reacts_act (held r n bs) l a w =
          where_elim (awaits s.progress r n) _ _ w
          (λ h k.
          let size = (b.shaped e).size in
          let went = subst (λ (j : ℕ). Proceeds S.m S.h (S.L.link out) (follow n) (absorbed S.m S.h s (n - j) k.0) t (p.toward out) (q.toward out) (Ok a)) size k.2 in
          let d = proceeded (held r n bs) l a r n (follow n) (absorbed S.m S.h s (n - S.N) k.0) refl h went in
          receives r n d.0 bs k.0 k.1 d.1)
          (λ _ k. absurd (ok_err a Stale k.says))

      -- by bytes that came: they are those of a lawful frame
      judged_act : (bs : List ℕ) → Comes S p e bs → (a : Answer) (o : Option Frame) → decoded S.m s.progress.size bs ≡ o
          → Judged S.m S.h (S.L.link out) o s t (p.toward out) (q.toward out) (Ok a) → Act (stepped e (Some bs) (Ok a)) p q e
      judged_act bs c a None d w = absurd (ok_err a _ w.says)
      judged_act bs c a (Some f) d w =
          let known = b.sent e bs c in
          let reading = ap (λ (n : ℕ). decoded S.m n bs) (sym (b.shaped e).size) ∙ d in
          let back = ap (decoded S.m S.N) (sym known.bytes) ∙ (reads S.laws S.N (sized_high S.N S.is_size)).back known.frame known.lawful in
          let is : known.frame ≡ f = same_Some _ _ (sym back ∙ reading) in
          let spells : written f ≡ bs = ap written (sym is) ∙ known.bytes in
          subst (λ (g : List ℕ). Act (stepped e (Some g) (Ok a)) p q e) spells
          (reacts_act f (record { lawful = subst (Lawful S.m S.N) is known.lawful; comes = subst (Comes S p e) (sym spells) c }) a w)

      accepted_act : (got : Option (List ℕ)) (a : Answer) → Stepping got s t (Ok a) → Act (stepped e got (Ok a)) p q e
      accepted_act got a w = where_elim (fitting s) _ _ w (λ _ k. handled got k.taken k.handled) (λ _ k. absurd (ok_err a _ k.declined.says))
        where
          handled : (g : Option (List ℕ)) → (S.L.link e).takes (p.toward e) g (q.toward e) → Handled S.m S.h (S.L.link out) g s t (p.toward out) (q.toward out) (Ok a) → Act (stepped e g (Ok a)) p q e
          handled None x k =
              rests k.untouched.replica
              (record { enters = λ j z. refl; takes = ap (λ (y : Result Answer Refusal). takes_answer {R = R} e (stepped e None y)) k.says; opens = refl })
              (equal_fewer p q out k.untouched.link)
          handled (Some bs) x k = judged_act bs ((S.fair e).took (p.toward e) (q.toward e) bs x) a (decoded S.m s.progress.size bs) refl k

  stepped_far : (e : End) (got : Option (List ℕ)) (y : Result Answer Refusal) → Silent (stepped e got y) (other e)
  stepped_far e got y = record { enters = λ j z. refl; takes = none y; opens = refl }
    where
      none : (y : Result Answer Refusal) → takes_answer {R = R} (other e) (stepped e got y) ≡ false
      none (Ok Nothing) = refl
      none (Ok Answered) = refl
      none (Ok (Moved n)) = same_end_other e
      none (Ok (Complete c)) = same_end_other e
      none (Err z) = refl

  stepped_acts : (e : End) (got : Option (List ℕ)) (y : Result Answer Refusal) (p q : Peers S) → Sound S p → Happens S.m S.h S.L (stepped e got y) p q → (d : End) → Act (stepped e got y) p q d
  stepped_acts e got (Ok a) p q b w =
      let does = done e a (stepped e got (Ok a)) p q w in
      both (stepped e got (Ok a)) p q e (accepted_act e p q b got a does)
      (far (stepped e got (Ok a)) p q e w.there (stepped_far e got (Ok a)) (step_inward e p q got (p.replica e) (q.replica e) (Ok a) does))
  stepped_acts e got (Err z) p q b w =
      left_alone (stepped e got (Err z)) p q e w.here w.there (λ d. record { enters = λ j z. refl; takes = refl; opens = refl })
      (step_inward e p q got w.handed w.leaves (Err z) w.does) (equal_fewer p q (other e) (declined_step S.m S.h (S.L.link (other e)) w.handed w.leaves _ _ z (S.L.link e) _ _ got w.does).link)

  -- what each event does, at each end
  pub acts : (v : Event R) (p q : Peers S) → Sound S p → Happens S.m S.h S.L v p q → (e : End) → Act v p q e
  acts (laid e k x y) p q b w = laid_acts e k x y p q b w
  acts (opened e y) p q b w = opened_acts e y p q b w
  acts (resent e y) p q b w = resent_acts e y p q w
  acts (abandoned e y) p q b w = abandoned_acts e y p q w
  acts (stepped e got y) p q b w = stepped_acts e got y p q b w
  acts lost p q b w = λ e. rests (w.replicas e) (record { enters = λ j z. refl; takes = refl; opens = refl }) (w.links (other e))
