use Rattle.v8_alu.proofs.Ranges.{alu_of-range}
use Rattle.v8_alu.proofs.outcomes_in_range.Goals as goal

pub returns : goal.returns
returns c = alu_of-range
