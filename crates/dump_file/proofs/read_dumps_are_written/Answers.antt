use Rattle.dump_file.proofs.Inverted.{read_again}
use Rattle.dump_file.proofs.read_dumps_are_written.Goals as goal

pub returns : goal.returns
returns c = read_again
