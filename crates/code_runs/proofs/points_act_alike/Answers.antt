use Rattle.code_runs.proofs.PointsAlike.{points_act_alike}
use Rattle.code_runs.proofs.points_act_alike.Goals as goal

pub returns : goal.returns
returns c = points_act_alike
