use Rattle.workload.proofs.Room.{leaves_room}
use Rattle.workload.proofs.generated_leaves_room.Goals as goal

pub returns : goal.returns
returns c = leaves_room
