use Rattle.walk_counts.proofs.Files.{counts_are_enough}
use Rattle.walk_counts.proofs.counts_are_enough.Goals as goal

pub returns : goal.returns
returns c = counts_are_enough
