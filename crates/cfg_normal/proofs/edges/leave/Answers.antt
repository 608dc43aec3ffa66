use Rattle.cfg_normal.proofs.Cases.{words_within}
use Rattle.cfg_normal.proofs.edges.leave.Goals as goal

pub leave_by_cases-requires-clause-targets : goal.leave_by_cases-requires-clause-targets
leave_by_cases-requires-clause-targets c = words_within _ _ c.in-Some.ensures.within
