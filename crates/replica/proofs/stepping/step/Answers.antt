use Rattle.std.proofs.Common.{rules, Some}
use Rattle.replica.proofs.stepping.step.Goals as goal

pub returns : goal.returns
returns g c = record { got = Some c.as_bytes.result.now; does = search rules }
