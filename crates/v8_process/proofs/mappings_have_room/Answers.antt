use Rattle.v8_process.proofs.Valid.{mappings_have_room}
use Rattle.v8_process.proofs.mappings_have_room.Goals as goal

pub returns : goal.returns
returns c = mappings_have_room
