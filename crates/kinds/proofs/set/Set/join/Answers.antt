use Rattle.kinds.specs.Unions.{or_within}
use Rattle.kinds.proofs.set.Set.join.Goals as goal

pub invariant_of-result : goal.invariant_of-result
invariant_of-result c = record { within = or_within _ _ _ _ c.args.self.within c.args.other.within }
