-- The run, and what holds of it.
use Rattle.std.proofs.Common.{◌≡◌, ℕ, suc, ◌<◌, List, refl, subst, arith}
use mathlib.Core.List.Memᴰ
use Rattle.digest.specs.Folds.{sum}
use Rattle.element.specs.Ruled.{ruled}
use Rattle.kinds.specs.Registers.{register}
use Rattle.kinds.specs.declared.register.Register.{Register}
use Rattle.peers.specs.Pairs.{Made, Begins}
use Rattle.peers.specs.Promise.{Collision}
use Rattle.peers.specs.Runs.{Run, elements_at}
use Rattle.peers.specs.declared.end.End.TheVariants.{Left as left, Right as right}
use Rattle.tree.specs.Sizes.{sized}
use Rattle.tree.specs.Tree.{Clash}
use Rattle.sample.specs.Sample.{in_order, sample_event, Sample}
use Rattle.sample.proofs.Cases.{each}
use Rattle.sample.proofs.Tables.{after, digests_before, tree_before, no_clash, no_clash_same}
use Rattle.sample.proofs.Pairs.{blank, pair_at, happening}

blank_made : Made (ruled register) sum blank
unfolding sized
blank_made = record { last = 0; numbered = omega arith; found = digests_before; fits = refl; progress = refl; digests = tree_before }

begins : Begins (ruled register) sum in_order (pair_at 0)
begins = record { makes = elim [ left ↦ blank_made | right ↦ blank_made ]; one_size = refl; empty = elim [ left ↦ λ f. Memᴰ.not-nil | right ↦ λ f. Memᴰ.not-nil ] }

abbrev the_run : Run (ruled register) sum in_order 15
the_run = record { pair = pair_at; event = sample_event; begins = begins; happens = happening }

-- after the first event the left end has the second table of elements
lefts : (t : ℕ) → t < 14 → elements_at the_run (suc t) left ≡ after
lefts = each _ 14 (refl, (refl, (refl, (refl, (refl, (refl, (refl, (refl, (refl, (refl, (refl, (refl, (refl, (refl, tt))))))))))))))

-- it has no clash with the right end's
Apart : ℕ → Type 0
Apart t = (n : ℕ) → Clash (ruled register) sum after (elements_at the_run t right) n → ⊥

apart : (t : ℕ) → t < 14 → Apart t
unfolding Apart
apart = each Apart 14
    (no_clash, (no_clash, (no_clash, (no_clash, (no_clash, (no_clash, (no_clash, (no_clash, (no_clash, (no_clash, (no_clash, (no_clash, (no_clash_same, (no_clash_same, tt))))))))))))))

no_collision : Collision the_run left 1 1 14 → ⊥
unfolding Apart
no_collision c =
    apart c.answer (omega arith) c.range
    (subst (λ (es : List Register). Clash (ruled register) sum es (elements_at the_run c.answer right) c.range) (lefts c.question (omega arith)) c.clash)

pub sample : Sample
sample = record {
  run = the_run;
  events = λ t h. refl;
  four_keys = refl;
  at_first = elim [ left ↦ refl | right ↦ refl ];
  at_last = elim [ left ↦ refl | right ↦ refl ];
  count_is_bound = refl;
  no_collision = no_collision;
}
