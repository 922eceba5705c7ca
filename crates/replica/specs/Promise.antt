-- What is to hold of every run of a pair: an earlier statement, with `Pairs` and `Runs` beside it, which no contract cites.
-- The one that is proved, and that the contract of `Peers::step` states, is `crates/peers/specs/Promise.antt`.
use Rattle.std.specs.Prelude.{◌≡◌, ℕ, zero, suc, ◌+◌, ◌-◌, ◌*◌, ◌^◌, ◌<◌, ◌≤◌, Bool, cond, ◌||◌, ◌⊎◌, List, Ok, Option}
use Rattle.element.specs.Model.{Model}
use Rattle.element.specs.Order.{AtMost}
use Rattle.frame.specs.Frames.{compare, same}
use Rattle.tree.specs.Tree.{tree, Clash}
use Rattle.replica.specs.Pairs.{End, other, Lines, stepped}
use Rattle.replica.specs.Runs.{Run, keys, elements_at, holds, number_at, entered, all_entered, answers_taken, laid_in, differs_at, Asks, TakesFrame, Opening}
use Rattle.replica.specs.declared.answer.Answer.{Answer}
use Rattle.replica.specs.declared.answer.Answer.TheVariants.{Answered, Complete}

-- How many of the keys below k pass a test.
abbrev pub tally : (ℕ → Bool) → ℕ → ℕ
tally test zero = 0
tally test (suc k) = cond (test k) 1 0 + tally test k

module _ {R : Type 0} {m : Model R} {h : List ℕ → ℕ} {L : Lines} {n : ℕ} (run : Run m h L n) where
  -- A collision in the round r of end e, from its opening at o to its report at t: a same settled a range, and there or
  -- inside it two different byte strings have one digest. One is what the opener digested at a question of that range
  -- in this round, the other what the other end had when it answered such a question.
  pub record Collision (e : End) (r o t : ℕ) : Type 0 where
    pub range : ℕ
    pub says : Answer
    pub question : ℕ
    pub answer : ℕ
    pub settling : ℕ
    pub opened_before : o ≤ question
    pub asked_before : question < settling
    pub opened_before_answer : o < answer
    pub answered_before : answer < settling
    pub settled_before : settling ≤ t
    pub asks : Asks run e r range question
    pub digest : ℕ
    pub answers : TakesFrame run (other e) (compare r range digest) Answered answer
    pub settles : TakesFrame run e (same r range) says settling
    pub clash : Clash m h (elements_at run (question + 1) e) (elements_at run answer (other e)) range

  -- The keys that differed when a round opened at o, or were laid at either end from then to its report at t.
  abbrev pub stirred : ℕ → ℕ → ℕ → Bool
  stirred o t k = differs_at run o k || laid_in run k o (t - o)

  -- Event t is a step at end e that reports its round r complete with the count c. The round was opened, at o. After the
  -- report both ends hold at every key at least what was entered at either before the opening, unless there is a
  -- collision. The count is the number of answers taken in the round, and few.
  pub record Reported (e : End) (r c t : ℕ) : Type 0 where
    pub o : ℕ
    pub earlier : o < t
    pub opening : Opening run e r o
    pub true_report : Collision e r o t ⊎ ((s : ℕ) → t < s → s ≤ n → (d : End) (k : ℕ) → k < keys run → AtMost m (all_entered run o k) (holds run s d k))
    pub exact : c ≡ answers_taken run e r (t + 1)
    pub few : (depth : ℕ) → keys run ≡ 2 ^ depth → c ≤ 1 + 2 * depth * tally (stirred o t) (keys run)

  pub record Promised : Type 0 where
    -- the digest tables are the trees of the elements
    pub trees : (t : ℕ) → t ≤ n → (e : End) → ((run.pair t).replica e).digests ≡ tree m h (elements_at run t e)
    -- nothing entered is lost, and nothing is invented
    pub kept : (t : ℕ) → t ≤ n → (e : End) (k : ℕ) → k < keys run → AtMost m (entered run t e k) (holds run t e k)
    pub entered_only : (t : ℕ) → t ≤ n → (e : End) (k : ℕ) → k < keys run → AtMost m (holds run t e k) (all_entered run t k)
    pub reports : (t : ℕ) → t < n → (e : End) (c : ℕ) (got : Option (List ℕ)) → run.event t ≡ stepped e got (Ok (Complete c)) → Reported e (number_at run t e) c t

-- The promise, of runs of every length.
abbrev pub Promise : {R : Type 0} → Model R → (List ℕ → ℕ) → Lines → Type 0
Promise m h L = (n : ℕ) (run : Run m h L n) → Promised run
