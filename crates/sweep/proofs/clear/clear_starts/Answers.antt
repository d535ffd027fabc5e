use Rattle.config.specs.Limits.{max_terms}
use Rattle.pipeline.proofs.Recordings.{starts_none_made}
use Rattle.sweep.proofs.clear.clear_starts.Goals as goal

pub returns : goal.returns
returns c = record { unused = λ k h. starts_none_made max_terms k }
