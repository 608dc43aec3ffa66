use Rattle.switch_runs.proofs.CaseBlocks.{case_blocks}
use Rattle.switch_runs.proofs.case_blocks.Goals as goal

pub returns : goal.returns
returns c = case_blocks
