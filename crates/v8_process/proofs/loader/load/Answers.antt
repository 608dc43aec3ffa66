use Rattle.v8_process.proofs.Common.{sym, ◌∙◌, texts}
use Rattle.v8_process.proofs.Arguments.{arguments_fit}
use Rattle.v8_process.proofs.Loading.{started}
use Rattle.v8_process.proofs.loader.load.Goals as goal

pub start_memory-requires : goal.start_memory-requires
start_memory-requires c = record {
  loads = sym c.load_verdict.ensures ∙ c.in_default.is;
  fits = arguments_fit (texts c.args.args.now) c.requires.few;
}

pub returns-clause-machine : goal.returns-clause-machine
returns-clause-machine c =
    c.new.ensures
    ∙ started c.args.bytes.now (texts c.args.args.now) c.args.input.items c.in_ok-memory.memory c.read_entry.result.0
    c.stack_pointer-sp.result c.in_ok-memory.ensures c.read_entry.ensures c.stack_pointer-sp.ensures
