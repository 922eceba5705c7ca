use Rattle.std.proofs.Common.{sym, subst, ◌∙◌, arith}
use Rattle.channel.specs.Queues.{WaitIn}
use Rattle.channel.proofs.Waiting.{waits_within, moved_up, wait_removed}
use Rattle.channel.proofs.places.Places.remove.Goals as goal

pub returns-clause-left : goal.returns-clause-left
returns-clause-left g c =
    let places = c.self.inside.packets in
    let found = sym c.get.ensures ∙ c.in_ok-removed.was in
    let n = c.self.inside.waiting in
    let at = c.args.at in
    let within = waits_within places _ n at _ (omega arith) c.self.view_is found in
    moved_up places _ _ n at (omega arith) within c.self.view_is c.copy_within.ensures.after

pub returns-clause-waits : goal.returns-clause-waits
returns-clause-waits g c =
    let waited = subst (WaitIn g.row.N) c.self.view_is c.self.invariant.1 in
    wait_removed g.row.N _ _ c.args.at waited (returns-clause-left g c)

pub invariant_of-self : goal.invariant_of-self
invariant_of-self g c = (omega arith, returns-clause-waits g c)
