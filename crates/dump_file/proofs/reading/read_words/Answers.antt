use Rattle.std.proofs.Common.{arith}
use Rattle.dump_file.proofs.Words.{filled}
use Rattle.dump_file.proofs.reading.read_words.Goals as goal

pub returns-clause-words : goal.returns-clause-words
returns-clause-words c =
    let words = c.in_ok-words.words in
    let same = c.in_ok-words.ensures.len in
    let long = c.read_u32_into.auto.dst in
    let value = c.deref_mut.ensures.len in
    filled c.read_u32_into.new.dst _ c.args.bytes.now words.len c.args.count c.read_u32_into.ensures (omega arith)
    (omega arith)
