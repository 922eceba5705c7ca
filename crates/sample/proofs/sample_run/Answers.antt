use Rattle.sample.proofs.Samples.{sample}
use Rattle.sample.proofs.sample_run.Goals as goal

pub returns-clause-run : goal.returns-clause-run
returns-clause-run c = sample
