-- The course of a round, from its opening on: what its questions and answers tell, and what it has settled.
use Rattle.std.proofs.Common.{◌≡◌, ℕ, zero, suc, ◌+◌, ◌-◌, ◌*◌, ◌^◌, ◌<◌, ◌≤◌, Bool, true, false, cond, ◌&&◌, eqb, ltb, ◌⊎◌, List, [], ◌∷◌, length, get_or, Some, None, Ok, Err, Option, sym, refl, ap, ◌∙◌, subst, ap₂, inl, inr, ⊎_elim, arith}
use Rattle.std.proofs.lemmas.Bool.{both_ways, cases_lt, and_right, eq-eqb, ne_eqb, eqb-true, eqb-false}
use Rattle.element.specs.Order.{AtMost}
use Rattle.frame.proofs.Codecs.{reads}
use Rattle.frame.specs.Decoding.{decoded}
use Rattle.frame.specs.Frames.{Frame, compare, same, differ, offer, held, written, Single}
use Rattle.replica.specs.Replicas.{Replica, absorbed, question}
use Rattle.replica.specs.Rounds.{State, idle, running, Progress, moved_to, going}
use Rattle.replica.specs.declared.answer.Answer.{Answer}
use Rattle.replica.specs.declared.answer.Answer.TheVariants.{Nothing, Answered, Moved, Complete}
use Rattle.tree.proofs.Covering.{leaf_covers}
use Rattle.tree.proofs.Merkles.{tree_place}
use Rattle.tree.proofs.Sizing.{sized_high}
use Rattle.tree.proofs.Telling.{telling}
use Rattle.tree.specs.Ranges.{Covers}
use Rattle.tree.specs.Sizes.{sized}
use Rattle.tree.specs.Tree.{digest_of, Agree, Clash}
use Rattle.tree.specs.Walk.{follow, Passed, settled, split, Walk, SettledKey}
use Rattle.peers.specs.Pairs.{End, left, right, other, Event, laid, opened, resent, abandoned, stepped, lost}
use Rattle.peers.specs.Promise.{stirred, Collision}
use Rattle.peers.specs.Runs.{Run, keys, elements_at, holds, number_at, entered, all_entered, answers_taken, takes_answer, puts_question, AtRange, Asks, TakesFrame}
use Rattle.peers.proofs.Ends.{by_end, other_other, same_end_refl}
use Rattle.peers.proofs.Settings.{Setting, Peers, Due, Shaped}
use Rattle.peers.proofs.Orders.{le_trans, le_same, le_left, le_right, le_join, same_sym, same_trans, read_same}
use Rattle.peers.proofs.Acts.{opens_at, Act, Proceeded, rests, lays, opens, resends, abandons, compares, gives, agrees, differs, receives}
use Rattle.peers.proofs.Views.{absorbed_at, News, asks, replies, holds_out}
use Rattle.peers.proofs.Sounds.{walks_low, walks_high, placed_at}
use Rattle.peers.proofs.Bounds.{sound_at, acts_at, due_at, holds_grow, entered_grow, kept}
use Rattle.peers.proofs.Turns.{idle_running, Turn, keeps, starts, stops, moves, turn_at, opened_number, moved_number, rising, Used, used}
use Rattle.peers.proofs.Costs.{Marked, SplitsMarked}
use Rattle.peers.proofs.Stirring.{marked_more, splits_more, find_marked, stirred_more, unstirred_before, still_same}

-- what a step said
abbrev said_by : {R : Type 0} → Event R → Answer
said_by (laid e k x y) = Nothing
said_by (opened e y) = Nothing
said_by (resent e y) = Nothing
said_by (abandoned e y) = Nothing
said_by (stepped e got (Ok a)) = a
said_by (stepped e got (Err z)) = Nothing
said_by lost = Nothing

moved_complete : (j c : ℕ) → Moved j ≡ Complete c → ⊥
moved_complete j c h = let z : ◌≡◌ {A = ℕ} 0 1 = cc in omega arith

module _ (S : Setting) {n : ℕ} (run : Run S.m S.h S.L n) (size : keys run ≡ S.N) (e : End) (o : ℕ) (early : o < n) (opening : run.event o ≡ opened e (Ok tt)) where
  abbrev Le : S.R → S.R → Type 0
  Le x y = AtMost S.m x y

  -- the number of the round
  abbrev r : ℕ
  r = number_at run (suc o) e

  fresh : r ≡ number_at run o e + 1
  fresh = ap (λ (x : Progress). x.last) (opened_number S (run.event o) (run.pair o) (run.pair (suc o)) e (turn_at S run size o early e) (ap (opens_at e) opening ∙ same_end_refl e))

  -- Both hold at key k what was entered at either before the round opened.
  abbrev pub Joined : ℕ → ℕ → Type 0
  Joined t k = (d : End) → Le (all_entered run o k) (holds run t d k)

  -- A question of range i with the digest x, put before moment t.
  pub record Question (t i x : ℕ) : Type 0 where
    pub question : ℕ
    pub from : o ≤ question
    pub before : question < t
    pub asks : Asks run e r i question
    pub digest : x ≡ digest_of S.m S.h (elements_at run (suc question) e) i

  -- A question of range i, and an answer to such a question that found the same digest.
  pub record Agreement (t i : ℕ) : Type 0 where
    pub sent : ℕ
    pub asked : Question t i sent
    pub answer : ℕ
    pub from : o < answer
    pub before : answer < t
    pub answers : TakesFrame run (other e) (compare r i sent) Answered answer
    pub digest : sent ≡ digest_of S.m S.h (elements_at run answer (other e)) i

  -- What a frame of the round tells that may arrive at the other end, and at this one.
  abbrev Asked : ℕ → Frame → Type 0
  Asked t (compare s i x) = s ≡ r → Question t i x
  Asked t (offer s i bs) = s ≡ r → (x : S.R) → S.m.parsed bs ≡ Some x → Le (entered run o e (i - S.N)) x
  Asked t (same s i) = Unit {0}
  Asked t (differ s i) = Unit {0}
  Asked t (held s i bs) = Unit {0}

  abbrev Replied : ℕ → Frame → Type 0
  Replied t (compare s i x) = Unit {0}
  Replied t (offer s i bs) = Unit {0}
  Replied t (same s i) = s ≡ r → Agreement t i
  Replied t (differ s i) = s ≡ r → Marked (stirred run o t) S.depth i
  Replied t (held s i bs) = s ≡ r → ((x : S.R) → S.m.parsed bs ≡ Some x → Le (all_entered run o (i - S.N)) x) × Le (all_entered run o (i - S.N)) (holds run t (other e) (i - S.N))

  -- A collision was met before moment t.
  abbrev Found : ℕ → Type 0
  Found t = (s : ℕ) × (s < t) × Collision run e r o s

  -- The round is at this range, or at its end, after c answers.
  pub record Course (t : ℕ) (at : Option ℕ) (c : ℕ) : Type 0 where
    pub passed : List Passed
    pub walk : Walk S.depth passed at
    pub counted : length passed ≡ c
    pub exact : c ≡ answers_taken run e r t
    pub marked : SplitsMarked (stirred run o t) S.depth passed
    pub joined : Found t ⊎ ((k : ℕ) → k < S.N → SettledKey S.depth k passed → Joined t k)

  pub record Inv (t : ℕ) : Type 0 where
    pub asked : (f : Frame) → Due S (run.pair t) (other e) f → Asked t f
    pub replied : (f : Frame) → Due S (run.pair t) e f → Replied t f
    pub course : (i c : ℕ) → ((run.pair t).replica e).progress.state ≡ running i c → number_at run t e ≡ r → Course t (Some i) c

  -- When the round opens, no frame is of its number.
  start : Inv o
  start = record {
    asked = λ f d. stale_asked f (used S run size o (omega arith) e f d);
    replied = λ f d. stale_replied f (used S run size o (omega arith) (other e) f (subst (λ (x : End). Due S (run.pair o) x f) (sym (other_other e)) d));
    course = λ i c h is. absurd (let q = fresh in omega arith);
  }
    where
      stale_asked : (f : Frame) → Used S run size o e f → Asked o f
      stale_asked (compare s i x) u = λ is. absurd (let q = fresh in omega arith)
      stale_asked (offer s i bs) u = λ is. absurd (let q = fresh in omega arith)
      stale_asked (same s i) u = tt
      stale_asked (differ s i) u = tt
      stale_asked (held s i bs) u = tt

      own : (s : ℕ) → s ≤ number_at run o (other (other e)) → s ≤ number_at run o e
      own s h = subst (λ (d : End). s ≤ number_at run o d) (other_other e) h

      stale_replied : (f : Frame) → Used S run size o (other e) f → Replied o f
      stale_replied (compare s i x) u = tt
      stale_replied (offer s i bs) u = tt
      stale_replied (same s i) u = λ is. absurd (let q = fresh in let k = own s u in omega arith)
      stale_replied (differ s i) u = λ is. absurd (let q = fresh in let k = own s u in omega arith)
      stale_replied (held s i bs) u = λ is. absurd (let q = fresh in let k = own s u in omega arith)

  -- No answer of the round is taken before it opens.
  none_taken : (t : ℕ) → t ≤ suc o → answers_taken run e r t ≡ 0
  none_taken zero h = refl
  none_taken (suc t) h =
      let old = none_taken t (omega arith) in
      let low = rising S run size t o (omega arith) (omega arith) e in
      let new = fresh in
      ap (λ (z : Bool). cond z 1 0 + answers_taken run e r t) (and_right (takes_answer e (run.event t)) _ (ne_eqb (number_at run t e) r (λ x. omega arith))) ∙ omega arith

  -- one event more
  question_on : {t i x : ℕ} → Question t i x → Question (suc t) i x
  question_on q = record { question = q.question; from = q.from; before = (let b = q.before in omega arith); asks = q.asks; digest = q.digest }

  asked_on : (t : ℕ) (f : Frame) → Asked t f → Asked (suc t) f
  asked_on t (compare s i x) h = λ is. question_on (h is)
  asked_on t (offer s i bs) h = h
  asked_on t (same s i) h = tt
  asked_on t (differ s i) h = tt
  asked_on t (held s i bs) h = tt

  replied_on : (t : ℕ) → o ≤ t → t < n → (f : Frame) → Replied t f → Replied (suc t) f
  replied_on t a b (compare s i x) h = tt
  replied_on t a b (offer s i bs) h = tt
  replied_on t a b (same s i) h = λ is.
      let q = h is in
      record { sent = q.sent; asked = question_on q.asked; answer = q.answer; from = q.from; before = (let c = q.before in omega arith); answers = q.answers; digest = q.digest }
  replied_on t a b (differ s i) h = λ is. marked_more (λ k. stirred_more S run o t k a) (h is)
  replied_on t a b (held s i bs) h = λ is. ((h is).0, le_trans S (h is).1 (holds_grow S run size t (suc t) (omega arith) b (other e) (i - S.N)))

  joined_on : (t : ℕ) → t < n → (k : ℕ) → Joined t k → Joined (suc t) k
  joined_on t b k h d = le_trans S (h d) (holds_grow S run size t (suc t) (omega arith) b d k)

  found_on : (t : ℕ) → Found t → Found (suc t)
  found_on t f = (f.0, (let l = f.1 in omega arith), f.2)

  -- what was entered before the opening is held since
  entered_held : (t : ℕ) → o ≤ t → t ≤ n → (d : End) (k : ℕ) → Le (entered run o d k) (holds run t d k)
  entered_held t a b d k = le_trans S (entered_grow S run size o t a b d k) (kept S run size t b d k)

  all_le : (k : ℕ) (x : S.R) → Le (entered run o e k) x → Le (entered run o (other e) k) x → Le (all_entered run o k) x
  all_le k x h i = let f = by_end (λ (d : End). Le (entered run o d k) x) e h i in le_join S (f left) (f right)

  long_at : (t : ℕ) → t ≤ n → (d : End) → length (elements_at run t d) ≡ S.N
  long_at t b d = ((sound_at S run size t b).shaped d).long

  -- a place of the digest table has the digest of its range
  place_at : (t : ℕ) → t ≤ n → (d : End) (i : ℕ) → 1 ≤ i → i < 2 * S.N → get_or ((run.pair t).replica d).digests i 0 ≡ digest_of S.m S.h (elements_at run t d) i
  place_at t b d i l u =
      let long = long_at t b d in
      let high : i < 2 * length (elements_at run t d) = omega arith in
      ap (λ (ds : List ℕ). get_or ds i 0) ((sound_at S run size t b).shaped d).digests ∙ tree_place S.m S.h (elements_at run t d) i l high

  -- Frames that are new at the other end.
  question_asked : (t : ℕ) → o ≤ t → t < n → (i c : ℕ) → puts_question e (run.event t) ≡ true → ((run.pair (suc t)).replica e).progress.state ≡ running i c
      → Asked (suc t) (question S.m S.h ((run.pair (suc t)).replica e) i)
  question_asked t a b i c puts is = go (ltb i s.progress.size)
    where
      s : Replica S.R
      s = (run.pair (suc t)).replica e

      sound : Shaped S s
      sound = (sound_at S run size (suc t) b).shaped e

      go : (z : Bool) → Asked (suc t) (cond z (compare s.progress.last i (get_or s.digests i 0)) (offer s.progress.last i (S.m.written (get_or s.elements (i - s.progress.size) S.m.bottom))))
      go true = λ eq.
          let at = placed_at S s.progress.state is sound.placed in
          record {
            question = t;
            from = a;
            before = omega arith;
            asks = record { puts = puts; number = eq; range = subst (λ (x : State). AtRange x i) (sym is) refl };
            digest = place_at (suc t) b e i (walks_low S at.1) (walks_high S at.1);
          }
      go false = λ eq x h.
          let key : i - s.progress.size ≡ i - S.N = ap (λ (j : ℕ). i - j) sound.size in
          let here = subst (λ (j : ℕ). S.m.parsed (S.m.written (get_or s.elements j S.m.bottom)) ≡ Some x) key h in
          le_trans S (entered_held (suc t) (omega arith) b e (i - S.N)) (le_same S (same_sym S (read_same S x (holds run (suc t) e (i - S.N)) here)))

  reply_asked : (z : Bool) (t s i : ℕ) → Asked t (cond z (same s i) (differ s i))
  reply_asked true t s i = tt
  reply_asked false t s i = tt

  news_asked : (t : ℕ) → o ≤ t → t < n → (f : Frame) → News S (run.event t) (run.pair t) (run.pair (suc t)) e f → Asked (suc t) f
  news_asked t a b f (asks i c puts is y) = subst (Asked (suc t)) (sym y) (question_asked t a b i c puts is)
  news_asked t a b f (replies s i x is d h y) = subst (Asked (suc t)) (sym y) (reply_asked _ (suc t) s i)
  news_asked t a b f (holds_out s i bs x d z h y) = subst (Asked (suc t)) (sym y) tt

  -- Frames that are new at this end.
  question_replied : (t : ℕ) (s : Replica S.R) (i : ℕ) → Replied t (question S.m S.h s i)
  question_replied t s i = go (ltb i s.progress.size)
    where
      go : (z : Bool) → Replied t (cond z (compare s.progress.last i (get_or s.digests i 0)) (offer s.progress.last i (S.m.written (get_or s.elements (i - s.progress.size) S.m.bottom))))
      go true = tt
      go false = tt

  -- the digests of a range differ only where one of its keys is stirred
  must_differ : (t i x : ℕ) → o ≤ t → t < n → 1 ≤ i → i < 2 * S.N → Question t i x → (x ≡ digest_of S.m S.h (elements_at run t (other e)) i → ⊥) → Marked (stirred run o t) S.depth i
  must_differ t i x a b l u q apart = ⊎_elim (λ m. m) none (find_marked (stirred run o t) S.depth i (2 ^ S.depth) l (omega arith))
    where
      es : List S.R
      es = elements_at run (suc q.question) e

      fs : List S.R
      fs = elements_at run t (other e)

      long : length es ≡ S.N
      long = long_at (suc q.question) (let c = q.before in omega arith) e

      none : ((k : ℕ) → k < 2 ^ S.depth → Covers (2 ^ S.depth) i k → stirred run o t k ≡ false) → Marked (stirred run o t) S.depth i
      none cold = absurd (apart (q.digest ∙ (telling S.m S.laws S.h S.small es fs i (ap sized long ∙ S.is_size) (long_at t (omega arith) (other e) ∙ sym long) l (let c = long in omega arith)).agree_same agree))
        where
          agree : Agree S.m S.h es fs i
          agree k h c =
              let c1 = q.from in
              let c2 = q.before in
              let p = S.power in
              let is : length es ≡ 2 ^ S.depth = long ∙ p in
              let z = cold k (omega arith) (subst (λ (N : ℕ). Covers N i k) is c) in
              let y = unstirred_before S run o (suc q.question) t k (omega arith) c2 z in
              same_trans S (still_same S run o size (omega arith) (suc q.question) k (omega arith) (omega arith) y e e)
              (same_sym S (still_same S run o size (omega arith) t k a (omega arith) z (other e) e))

  news_replied : (t : ℕ) → o ≤ t → t < n → Inv t → (f : Frame) → News S (run.event t) (run.pair t) (run.pair (suc t)) (other e) f → Replied (suc t) f
  news_replied t a b inv f (asks i c puts is y) = subst (Replied (suc t)) (sym y) (question_replied (suc t) ((run.pair (suc t)).replica (other e)) i)
  news_replied t a b inv f (replies s i x is d h y) = subst (Replied (suc t)) (sym y) (go (eqb x own) refl)
    where
      own : ℕ
      own = get_or ((run.pair t).replica (other e)).digests i 0

      low : 1 ≤ i
      low = d.lawful.1.low

      high : i < 2 * S.N
      high = let u = d.lawful.1.high in omega arith

      has : own ≡ digest_of S.m S.h (elements_at run t (other e)) i
      has = place_at t (omega arith) (other e) i low high

      go : (z : Bool) → eqb x own ≡ z → Replied (suc t) (cond z (same s i) (differ s i))
      go true z = λ sr.
          let due : Due S (run.pair t) (other e) (compare r i x) = subst (λ (q : ℕ). Due S (run.pair t) (other e) (compare q i x)) sr d in
          let at : run.event t ≡ stepped (other e) (Some (written (compare r i x))) (Ok Answered) = subst (λ (q : ℕ). run.event t ≡ stepped (other e) (Some (written (compare q i x))) (Ok Answered)) sr is in
          let later = after_opening t a at in
          record {
            sent = x;
            asked = question_on (inv.asked (compare s i x) d sr);
            answer = t;
            from = later;
            before = omega arith;
            answers = record { bytes = written (compare r i x); reads = ap (λ (N : ℕ). decoded S.m N (written (compare r i x))) size ∙ (reads S.laws S.N (sized_high S.N S.is_size)).back (compare r i x) due.lawful; steps = at };
            digest = eqb-true x own z ∙ has;
          }
        where
          after_opening : (t : ℕ) → o ≤ t → run.event t ≡ stepped (other e) (Some (written (compare r i x))) (Ok Answered) → o < t
          after_opening t a at = ⊎_elim (λ l. l) (λ l. let is : t ≡ o = omega arith in absurd (not_both (subst (λ (u : ℕ). run.event u ≡ stepped (other e) (Some (written (compare r i x))) (Ok Answered)) is at))) (cases_lt o t)
            where
              not_both : run.event o ≡ stepped (other e) (Some (written (compare r i x))) (Ok Answered) → ⊥
              not_both h = both_ways (opens_at e (run.event o)) (ap (opens_at e) h) (ap (opens_at e) opening ∙ same_end_refl e)
      go false z = λ sr. marked_more (λ k. stirred_more S run o t k a) (must_differ t i x a b low high (inv.asked (compare s i x) d sr) (λ q. eqb-false x own z (q ∙ sym has)))
  news_replied t a b inv f (holds_out s i bs x d z h y) = subst (Replied (suc t)) (sym y) (λ sr. give (inv.asked (offer s i bs) d sr x z))
    where
      k : ℕ
      k = i - S.N

      give : Le (entered run o e k) x → ((u : S.R) → S.m.parsed (S.m.written (holds run (suc t) (other e) k)) ≡ Some u → Le (all_entered run o k) u) × Le (all_entered run o k) (holds run (suc t) (other e) k)
      give got =
          let had = entered_held t a (omega arith) (other e) k in
          let both = all_le k (S.m.joined (holds run t (other e) k) x) (le_trans S got (le_right S _ _)) (le_trans S had (le_left S _ _)) in
          let all = subst (Le (all_entered run o k)) (sym h) both in
          (λ u is. le_trans S all (le_same S (same_sym S (read_same S u (holds run (suc t) (other e) k) is))), all)

  -- An answer of the round is taken.
  module _ (t : ℕ) (a : o ≤ t) (b : t < n) (inv : Inv t) where
    abbrev v : Event S.R
    v = run.event t

    abbrev p : Peers S
    p = run.pair t

    abbrev q : Peers S
    q = run.pair (suc t)

    takes_one : (got : Option (List ℕ)) (c : ℕ) (next : Option ℕ) → v ≡ stepped e got (Ok (going c next)) → takes_answer e v ≡ true
    takes_one got c next is = ap (takes_answer e) is ∙ said next
      where
        said : (x : Option ℕ) → takes_answer {R = S.R} e (stepped e got (Ok (going c x))) ≡ true
        said None = same_end_refl e
        said (Some j) = same_end_refl e

    count_more : (got : Option (List ℕ)) (c : ℕ) (next : Option ℕ) → v ≡ stepped e got (Ok (going c next)) → number_at run t e ≡ r → answers_taken run e r (suc t) ≡ 1 + answers_taken run e r t
    count_more got c next is h = ap (λ (z : Bool). cond z 1 0 + answers_taken run e r t) (ap₂ ◌&&◌ (takes_one got c next is) (eq-eqb (number_at run t e) r h))

    -- the range was settled
    settles : (f : Frame) (s i c : ℕ) (u : Replica S.R) → Proceeded S v p q e f s i c (follow i) u → number_at run t e ≡ r → Course t (Some i) c
        → (Found (suc t) ⊎ ((k : ℕ) → k < S.N → Covers (2 ^ S.depth) i k → Joined (suc t) k)) → Course (suc t) (follow i) (c + 1)
    settles f s i c u w h old done =
        let more = count_more _ c (follow i) w.event h in
        let was = old.exact in
        let long = old.counted in
        record {
          passed = settled i ∷ old.passed;
          walk = (old.walk, refl);
          counted = omega arith;
          exact = omega arith;
          marked = splits_more (λ k. stirred_more S run o t k a) S.depth old.passed old.marked;
          joined = go old.joined done;
        }
      where
        Goal : Type 0
        Goal = Found (suc t) ⊎ ((k : ℕ) → k < S.N → SettledKey S.depth k (settled i ∷ old.passed) → Joined (suc t) k)

        go : Found t ⊎ ((k : ℕ) → k < S.N → SettledKey S.depth k old.passed → Joined t k) → Found (suc t) ⊎ ((k : ℕ) → k < S.N → Covers (2 ^ S.depth) i k → Joined (suc t) k) → Goal
        go (inl x) y = inl (found_on t x)
        go (inr x) (inl y) = inl y
        go (inr x) (inr y) = inr (λ k z. ⊎_elim (y k z) (λ m. joined_on t b k (x k z m)))

    -- it was split
    splits : (s i c : ℕ) (u : Replica S.R) → Proceeded S v p q e (differ s i) s i c (Some (2 * i)) u → number_at run t e ≡ r → Course t (Some i) c → Course (suc t) (Some (2 * i)) (c + 1)
    splits s i c u w h old =
        let more = count_more _ c (Some (2 * i)) w.event h in
        let was = old.exact in
        let long = old.counted in
        let mark = inv.replied (differ s i) w.due (sym w.number ∙ h) in
        record {
          passed = split i ∷ old.passed;
          walk = (old.walk, subst (λ (N : ℕ). i < N) S.power w.due.lawful.1.high, refl);
          counted = omega arith;
          exact = omega arith;
          marked = (marked_more (λ k. stirred_more S run o t k a) mark, splits_more (λ k. stirred_more S run o t k a) S.depth old.passed old.marked);
          joined = ⊎_elim (λ x. inl (found_on t x)) (λ x. inr (λ k z m. joined_on t b k (x k z m))) old.joined;
        }

    -- by same: the elements of the range are alike, or there is a collision
    same_joined : (s i c : ℕ) (u : Replica S.R) → Proceeded S v p q e (same s i) s i c (follow i) u → number_at run t e ≡ r → Found (suc t) ⊎ ((k : ℕ) → k < S.N → Covers (2 ^ S.depth) i k → Joined (suc t) k)
    same_joined s i c u w h =
        let a1 = ag.before in
        let lg = long in
        let high = w.due.lawful.1.high in
        ⊎_elim agree clash ((telling S.m S.laws S.h S.small es fs i (ap sized long ∙ S.is_size) (long_at ag.answer (omega arith) (other e) ∙ sym long) low (omega arith)).same_agree (sym ask.digest ∙ ag.digest))
      where
        sr : s ≡ r
        sr = sym w.number ∙ h

        ag : Agreement t i
        ag = inv.replied (same s i) w.due sr

        ask : Question t i ag.sent
        ask = ag.asked

        es : List S.R
        es = elements_at run (suc ask.question) e

        fs : List S.R
        fs = elements_at run ag.answer (other e)

        long : length es ≡ S.N
        long = long_at (suc ask.question) (let x = ask.before in omega arith) e

        low : 1 ≤ i
        low = w.due.lawful.1.low

        agree : Agree S.m S.h es fs i → Found (suc t) ⊎ ((k : ℕ) → k < S.N → Covers (2 ^ S.depth) i k → Joined (suc t) k)
        agree f = inr (λ k z x.
            let q0 = ask.from in
            let q1 = ask.before in
            let a0 = ag.from in
            let a1 = ag.before in
            let lg = long in
            let alike = f k (omega arith) (subst (λ (N : ℕ). Covers N i k) (sym (long ∙ S.power)) x) in
            let mine = entered_held (suc ask.question) (omega arith) (omega arith) e k in
            let theirs = entered_held ag.answer (omega arith) (omega arith) (other e) k in
            by_end (λ (d : End). Le (all_entered run o k) (holds run (suc t) d k)) e
            (le_trans S (all_le k _ mine (le_trans S theirs (le_same S (same_sym S alike)))) (holds_grow S run size (suc ask.question) (suc t) (omega arith) b e k))
            (le_trans S (all_le k _ (le_trans S mine (le_same S alike)) theirs) (holds_grow S run size ag.answer (suc t) (omega arith) b (other e) k)))

        due : Due S p e (same r i)
        due = subst (λ (x : ℕ). Due S p e (same x i)) sr w.due

        clash : Clash S.m S.h es fs i → Found (suc t) ⊎ ((k : ℕ) → k < S.N → Covers (2 ^ S.depth) i k → Joined (suc t) k)
        clash x = inl (
          t,
          omega arith,
          record {
            range = i;
            says = going c (follow i);
            question = ask.question;
            answer = ag.answer;
            settling = t;
            opened_before = ask.from;
            asked_before = ask.before;
            opened_before_answer = ag.from;
            answered_before = ag.before;
            settled_before = omega arith;
            asks = ask.asks;
            digest = ag.sent;
            answers = ag.answers;
            settles = record {
              bytes = written (same r i);
              reads = ap (λ (N : ℕ). decoded S.m N (written (same r i))) size ∙ (reads S.laws S.N (sized_high S.N S.is_size)).back (same r i) due.lawful;
              steps = w.event ∙ ap (λ (x : ℕ). stepped e (Some (written (same x i))) (Ok (going c (follow i)))) sr;
            };
            clash = x;
          },
        )

    -- by held: both hold at its key what it brought
    held_joined : (s i c : ℕ) (bs : List ℕ) (x : S.R) → S.m.parsed bs ≡ Some x → Proceeded S v p q e (held s i bs) s i c (follow i) (absorbed S.m S.h (p.replica e) (i - S.N) x)
        → number_at run t e ≡ r → (k : ℕ) → k < S.N → Covers (2 ^ S.depth) i k → Joined (suc t) k
    held_joined s i c bs x is w h k z cov = subst (Joined (suc t)) key there
      where
        one : Single S.N i
        one = w.due.lawful.1

        key : i - S.N ≡ k
        key =
            let l = one.low in
            let y = leaf_covers (2 ^ S.depth) i k (subst (λ (N : ℕ). k < N) S.power z) (subst (λ (N : ℕ). N ≤ i) S.power l) cov in
            let pw = S.power in
            omega arith

        told : ((y : S.R) → S.m.parsed bs ≡ Some y → Le (all_entered run o (i - S.N)) y) × Le (all_entered run o (i - S.N)) (holds run t (other e) (i - S.N))
        told = inv.replied (held s i bs) w.due (sym w.number ∙ h)

        now_held : holds run (suc t) e (i - S.N) ≡ S.m.joined (holds run t e (i - S.N)) x
        now_held =
            let l = one.low in
            let u = one.high in
            ap (λ (y : Replica S.R). get_or y.elements (i - S.N) S.m.bottom) w.after ∙ absorbed_at S (p.replica e) (i - S.N) x (long_at t (omega arith) e) (omega arith)

        there : Joined (suc t) (i - S.N)
        there = by_end (λ (d : End). Le (all_entered run o (i - S.N)) (holds run (suc t) d (i - S.N))) e
            (subst (Le (all_entered run o (i - S.N))) (sym now_held) (le_trans S (told.0 x is) (le_right S _ _)))
            (le_trans S told.1 (holds_grow S run size t (suc t) (omega arith) b (other e) (i - S.N)))

    -- no answer is taken
    stays_on : (i c : ℕ) → takes_answer e v ≡ false → Course t (Some i) c → Course (suc t) (Some i) c
    stays_on i c none old =
        record {
          passed = old.passed;
          walk = old.walk;
          counted = old.counted;
          exact = old.exact ∙ sym (ap (λ (z : Bool). cond (z && eqb (number_at run t e) r) 1 0 + answers_taken run e r t) none ∙ omega arith);
          marked = splits_more (λ k. stirred_more S run o t k a) S.depth old.passed old.marked;
          joined = ⊎_elim (λ x. inl (found_on t x)) (λ x. inr (λ k z m. joined_on t b k (x k z m))) old.joined;
        }

    -- where the round is after an answer: the next range, or its end
    landed : (c : ℕ) (next : Option ℕ) → Course (suc t) next (c + 1) → (i d : ℕ) → moved_to c next ≡ running i d → Course (suc t) (Some i) d
    landed c None x i d h = absurd (idle_running idle i d refl h)
    landed c (Some j) x i d h =
        let same_range : j ≡ i = cc in
        let same_count : c + 1 ≡ d = cc in
        subst (λ (k : ℕ). Course (suc t) (Some k) d) same_range (subst (Course (suc t) (Some j)) same_count x)

    still_number : (f : Frame) (s i c : ℕ) (next : Option ℕ) (u : Replica S.R) → Proceeded S v p q e f s i c next u → u.progress ≡ (p.replica e).progress → number_at run (suc t) e ≡ r → number_at run t e ≡ r
    still_number f s i c next u w is h = sym (moved_number S v p q e f s i c next u w is) ∙ h

    landed_at : (f : Frame) (s j d : ℕ) (next : Option ℕ) (u : Replica S.R) → Proceeded S v p q e f s j d next u → Course (suc t) next (d + 1) → (i c : ℕ) → (q.replica e).progress.state ≡ running i c → Course (suc t) (Some i) c
    landed_at f s j d next u w x i c h = landed d next x i c (sym (ap (λ (y : Replica S.R). y.progress.state) w.after) ∙ h)

    -- the count of a round that opens is 0
    opens_course : t ≡ o → Course (suc t) (Some 1) 0
    opens_course is = record {
      passed = [];
      walk = refl;
      counted = refl;
      exact = sym (none_taken (suc t) (omega arith));
      marked = tt;
      joined = inr (λ k z m. absurd m);
    }

    untaken : Turn S v p q e → takes_answer e v ≡ false → (i c : ℕ) → (q.replica e).progress.state ≡ running i c → number_at run (suc t) e ≡ r → Course (suc t) (Some i) c
    untaken (keeps k x y) none i c h is = stays_on i c none (inv.course i c (sym (ap (λ (z : Progress). z.state) k) ∙ h) (sym (ap (λ (z : Progress). z.last) k) ∙ is))
    untaken (starts w k) none i c h is = ⊎_elim
        (λ (l : o < t). absurd (let z = rising S run size (suc o) t l (omega arith) e in let y = ap (λ (z : Progress). z.last) k in omega arith))
        (λ l. landed_first (opens_course (omega arith)))
        (cases_lt o t)
      where
        landed_first : Course (suc t) (Some 1) 0 → Course (suc t) (Some i) c
        landed_first x =
            let at : running 1 0 ≡ running i c = sym (ap (λ (z : Progress). z.state) k) ∙ h in
            let same_range : 1 ≡ i = cc in
            let same_count : 0 ≡ c = cc in
            subst (λ (j : ℕ). Course (suc t) (Some j) c) same_range (subst (Course (suc t) (Some 1)) same_count x)
    untaken (stops k x y) none i c h is = absurd (idle_running _ i c (ap (λ (z : Progress). z.state) k) h)
    untaken (moves f s j d next u w k) none i c h is = absurd (both_ways _ none (takes_one _ d next w.event))

    -- an answer that is taken, by what it is
    agreed : (s i c : ℕ) → Proceeded S v p q e (same s i) s i c (follow i) (p.replica e) → number_at run t e ≡ r → Course (suc t) (follow i) (c + 1)
    agreed s i c w h = settles (same s i) s i c (p.replica e) w h (inv.course i c w.state h) (same_joined s i c (p.replica e) w h)

    differed : (s i c : ℕ) → Proceeded S v p q e (differ s i) s i c (Some (2 * i)) (p.replica e) → number_at run t e ≡ r → Course (suc t) (Some (2 * i)) (c + 1)
    differed s i c w h = splits s i c (p.replica e) w h (inv.course i c w.state h)

    received : (s i c : ℕ) (bs : List ℕ) (x : S.R) → S.m.parsed bs ≡ Some x → Proceeded S v p q e (held s i bs) s i c (follow i) (absorbed S.m S.h (p.replica e) (i - S.N) x)
        → number_at run t e ≡ r → Course (suc t) (follow i) (c + 1)
    received s i c bs x is w h = settles (held s i bs) s i c _ w h (inv.course i c w.state h) (inr (held_joined s i c bs x is w h))

    course_next : Act S v p q e → (i c : ℕ) → (q.replica e).progress.state ≡ running i c → number_at run (suc t) e ≡ r → Course (suc t) (Some i) c
    course_next (rests h x l) = untaken (turn_at S run size t b e) x.takes
    course_next (lays k x is l h f) = untaken (turn_at S run size t b e) (ap (takes_answer e) is)
    course_next (opens is w l h f) = untaken (turn_at S run size t b e) (ap (takes_answer e) is)
    course_next (resends i c is w h f) = untaken (turn_at S run size t b e) (ap (takes_answer e) is)
    course_next (abandons is h f) = untaken (turn_at S run size t b e) (ap (takes_answer e) is)
    course_next (compares s i x is d h f) = untaken (turn_at S run size t b e) (ap (takes_answer e) is)
    course_next (gives s i bs x is d y h f) = untaken (turn_at S run size t b e) (ap (takes_answer e) is)
    course_next (agrees s j d w) = λ i c h is.
        landed_at (same s j) s j d (follow j) _ w (agreed s j d w (still_number (same s j) s j d (follow j) _ w refl is)) i c h
    course_next (differs s j d w) = λ i c h is.
        landed_at (differ s j) s j d (Some (2 * j)) _ w (differed s j d w (still_number (differ s j) s j d (Some (2 * j)) _ w refl is)) i c h
    course_next (receives s j d bs x y w) = λ i c h is.
        landed_at (held s j bs) s j d (follow j) _ w (received s j d bs x y w (still_number (held s j bs) s j d (follow j) _ w refl is)) i c h

    inv_next : Inv (suc t)
    inv_next = record { asked = asked; replied = subst (λ (d : End). (f : Frame) → Due S q d f → Replied (suc t) f) (other_other e) replied; course = course_next (acts_at S run size t b e) }
      where
        asked : (f : Frame) → Due S q (other e) f → Asked (suc t) f
        asked f d = ⊎_elim (λ k. asked_on t f (inv.asked f k)) (news_asked t a b f) (due_at S run size t b e f d)

        replied : (f : Frame) → Due S q (other (other e)) f → Replied (suc t) f
        replied f d = ⊎_elim (λ k. replied_on t a b f (inv.replied f (subst (λ (x : End). Due S p x f) (other_other e) k))) (news_replied t a b inv f) (due_at S run size t b (other e) f d)

    -- The step that reports the round complete has come to the end of its walk.
    ended : (got : Option (List ℕ)) (c : ℕ) → v ≡ stepped e got (Ok (Complete c)) → number_at run t e ≡ r → Course (suc t) None c
    ended got c is h = go (acts_at S run size t b e)
      where
        reported : (x : Option (List ℕ)) (d : ℕ) (next : Option ℕ) → v ≡ stepped e x (Ok (going d next)) → Course (suc t) next (d + 1) → Course (suc t) None c
        reported x d next w k = report_of d next c (ap said_by (sym w ∙ is)) k
          where
            report_of : (d : ℕ) (next : Option ℕ) (c : ℕ) → going d next ≡ Complete c → Course (suc t) next (d + 1) → Course (suc t) None c
            report_of d None c h k = let same_count : d + 1 ≡ c = cc in subst (Course (suc t) None) same_count k
            report_of d (Some j) c h k = absurd (moved_complete j c h)

        none : takes_answer e v ≡ false → Course (suc t) None c
        none x = absurd (both_ways _ x (ap (takes_answer e) is ∙ same_end_refl e))

        go : Act S v p q e → Course (suc t) None c
        go (rests k x l) = none x.takes
        go (lays k x y l m f) = none (ap (takes_answer e) y)
        go (opens y w l k f) = none (ap (takes_answer e) y)
        go (resends i d y w k f) = none (ap (takes_answer e) y)
        go (abandons y k f) = none (ap (takes_answer e) y)
        go (compares s i x y d k f) = none (ap (takes_answer e) y)
        go (gives s i bs x y d z k f) = none (ap (takes_answer e) y)
        go (agrees s i d w) = reported _ d (follow i) w.event (agreed s i d w h)
        go (differs s i d w) = reported _ d (Some (2 * i)) w.event (differed s i d w h)
        go (receives s i d bs x y w) = reported _ d (follow i) w.event (received s i d bs x y w h)

  -- so it is at every moment from the opening on
  pub inv_at : (t : ℕ) → o ≤ t → t ≤ n → Inv t
  inv_at zero a b = let is : o ≡ 0 = omega arith in subst Inv is start
  inv_at (suc t) a b = ⊎_elim
      (λ l. inv_next t (omega arith) b (inv_at t (omega arith) (omega arith)))
      (λ l. let is : o ≡ suc t = omega arith in subst Inv is start)
      (cases_lt o (suc t))

  pub course_ended : (t : ℕ) → o ≤ t → t < n → (got : Option (List ℕ)) (c : ℕ) → run.event t ≡ stepped e got (Ok (Complete c)) → number_at run t e ≡ r → Course (suc t) None c
  course_ended t a b = ended t a b (inv_at t a (omega arith))
