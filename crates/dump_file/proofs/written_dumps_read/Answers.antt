use Rattle.dump_file.proofs.ReadsBack.{written_back}
use Rattle.dump_file.proofs.written_dumps_read.Goals as goal

pub returns : goal.returns
returns c = written_back
