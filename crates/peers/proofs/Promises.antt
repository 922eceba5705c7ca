-- The promise of every run of a pair of replicas.
use Rattle.std.proofs.Common.{◌≡◌, ℕ, suc, ◌+◌, ◌*◌, ◌^◌, ◌<◌, ◌≤◌, true, List, length, None, Ok, Option, sym, refl, ap, ◌∙◌, subst, inl, inr, ⊎_elim, arith}
use lib.Pow.{pow-lt}
use Rattle.std.proofs.lemmas.Bool.{both_ways, cases_order}
use Rattle.channel.specs.Links.{Fair}
use Rattle.element.specs.Model.{Model, Laws}
use Rattle.element.specs.Order.{AtMost}
use Rattle.replica.specs.Rounds.{running}
use Rattle.replica.specs.declared.answer.Answer.TheVariants.{Complete}
use Rattle.tree.proofs.Forward.{preorder}
use Rattle.tree.proofs.Sizing.{fit_parts, size_of}
use Rattle.peers.specs.Pairs.{End, left, Lines, stepped}
use Rattle.peers.specs.Promise.{tally, stirred, Collision, Reported, Promised, Promise}
use Rattle.peers.specs.Runs.{Run, keys, holds, number_at, all_entered, takes_answer, lays_at}
use Rattle.peers.proofs.Ends.{same_end_refl}
use Rattle.peers.proofs.Settings.{Setting}
use Rattle.peers.proofs.Orders.{le_trans}
use Rattle.peers.proofs.Bounds.{sound_at, holds_grow, kept, entered_only}
use Rattle.peers.proofs.Turns.{Turn, keeps, starts, stops, moves, turn_at, traced}
use Rattle.peers.proofs.Costs.{walk_cost}
use Rattle.peers.proofs.Stirring.{splits_more, stirred_still}
use Rattle.peers.proofs.Courses.{Course, course_ended}

-- one power of two has one exponent
one_power : (a b : ℕ) → 2 ^ a ≡ 2 ^ b → a ≡ b
one_power a b h = ⊎_elim (λ e. e) (⊎_elim (λ l. absurd (let p = pow-lt l in omega arith)) (λ l. absurd (let p = pow-lt l in omega arith))) (cases_order a b)

module _ (S : Setting) {n : ℕ} (run : Run S.m S.h S.L n) (size : keys run ≡ S.N) where
  -- a step that reports was taken in a running round
  ran : (t : ℕ) → t < n → (e : End) (got : Option (List ℕ)) (c : ℕ) → run.event t ≡ stepped e got (Ok (Complete c)) → (i : ℕ) × (d : ℕ) × (((run.pair t).replica e).progress.state ≡ running i d)
  ran t b e got c is = go (turn_at S run size t b e)
    where
      taken : takes_answer e (run.event t) ≡ true
      taken = ap (takes_answer e) is ∙ same_end_refl e

      go : Turn S (run.event t) (run.pair t) (run.pair (suc t)) e → (i : ℕ) × (d : ℕ) × (((run.pair t).replica e).progress.state ≡ running i d)
      go (keeps k x y) = absurd (both_ways _ x taken)
      go (starts w k) = absurd (both_ways _ (ap (takes_answer e) w) taken)
      go (stops k x y) = absurd (both_ways _ x taken)
      go (moves f r i d next u w k) = (i, d, w.state)

  later : (e : End) (r o s t : ℕ) → s ≤ t → Collision run e r o s → Collision run e r o t
  later e r o s t h c = record {
    range = c.range;
    says = c.says;
    question = c.question;
    answer = c.answer;
    settling = c.settling;
    opened_before = c.opened_before;
    asked_before = c.asked_before;
    opened_before_answer = c.opened_before_answer;
    answered_before = c.answered_before;
    settled_before = (let b = c.settled_before in omega arith);
    asks = c.asks;
    digest = c.digest;
    answers = c.answers;
    settles = c.settles;
    clash = c.clash;
  }

  reported : (t : ℕ) → t < n → (e : End) (c : ℕ) (got : Option (List ℕ)) → run.event t ≡ stepped e got (Ok (Complete c)) → Reported run e (number_at run t e) c t
  reported t b e c got is = subst (λ (r : ℕ). Reported run e r c t) opening.2.number (record {
    opened_at = o;
    earlier = opening.1;
    opening = record { opens = opening.2.opens; number = refl };
    true_report = ⊎_elim (λ f. inl (later e r o f.0 t (let l = f.1 in omega arith) f.2)) (λ f. inr (told f)) course.joined;
    exact = course.exact;
    few = few;
  })
    where
      at : (i : ℕ) × (d : ℕ) × (((run.pair t).replica e).progress.state ≡ running i d)
      at = ran t b e got c is

      opening : (o : ℕ) × (o < t) × Rattle.peers.specs.Runs.Opening run e (number_at run t e) o
      opening = traced S run size t (omega arith) e at.0 at.1 at.2

      o : ℕ
      o = opening.0

      r : ℕ
      r = number_at run (suc o) e

      course : Course S run size e o (let l = opening.1 in omega arith) opening.2.opens (suc t) None c
      course = course_ended S run size e o (let l = opening.1 in omega arith) opening.2.opens t (let l = opening.1 in omega arith) b got c is (sym opening.2.number)

      told : ((k : ℕ) → k < S.N → Rattle.tree.specs.Walk.SettledKey S.depth k course.passed → (d : End) → AtMost S.m (all_entered run o k) (holds run (suc t) d k))
          → (s : ℕ) → t < s → s ≤ n → (d : End) (k : ℕ) → k < keys run → AtMost S.m (all_entered run o k) (holds run s d k)
      told f s l u d k h =
          let z : k < S.N = omega arith in
          let y = ((preorder S.depth).keys course.passed None k course.walk (subst (λ (N : ℕ). k < N) S.power z)).1 tt in
          le_trans S (f k z y d) (holds_grow S run size (suc t) s l u d k)

      few : (depth : ℕ) → keys run ≡ 2 ^ depth → c ≤ 1 + 2 * depth * tally (stirred run o t) (keys run)
      few depth h =
          let l = opening.1 in
          let long = course.counted in
          let cost = walk_cost S.depth (stirred run o t) course.passed course.walk
          (splits_more (λ k. stirred_still S run o t k (omega arith) (ap (lays_at k) is)) S.depth course.passed course.marked) in
          let same_depth : S.depth ≡ depth = one_power S.depth depth (sym S.power ∙ sym size ∙ h) in
          let bound : length course.passed ≤ 1 + 2 * depth * tally (stirred run o t) (2 ^ depth) = subst (λ (d : ℕ). length course.passed ≤ 1 + 2 * d * tally (stirred run o t) (2 ^ d)) same_depth cost in
          subst (λ (x : ℕ). x ≤ 1 + 2 * depth * tally (stirred run o t) (keys run)) long (subst (λ (N : ℕ). length course.passed ≤ 1 + 2 * depth * tally (stirred run o t) N) (sym h) bound)

  all_promised : Promised run
  all_promised = record {
    trees = λ t b e. ((sound_at S run size t b).shaped e).digests;
    kept = λ t b e k l. kept S run size t b e k;
    entered_only = λ t b e k l. entered_only S run size t b e k;
    reports = reported;
  }

-- for every element type, digest and channels that keep their laws
pub promise : {R : Type 0} (m : Model R) → Laws m → (h : List ℕ → ℕ) → ((bs : List ℕ) → h bs < 2 ^ 64) → (L : Lines) → ((e : End) → Fair (L.link e)) → Promise m h L
promise {R} m laws h small L fair n run =
    let is_size = (fit_parts _ _ (run.begins.makes left).fits).0 in
    let s = size_of (keys run) is_size in
    all_promised (record { R = R; m = m; laws = laws; h = h; small = small; L = L; fair = fair; N = keys run; depth = s.depth; power = s.power; is_size = is_size }) run refl
