use Rattle.std.proofs.Common.{sym, ◌∙◌, arith}
use Rattle.v8_decode.proofs.Rows.{decode_of-bits}
use Rattle.v8_decode.proofs.tables.format_word.Goals as goal

pub returns-then-low-eq0 : goal.returns-then-low-eq0
returns-then-low-eq0 c = c.arithmetic_word.ensures ∙ sym (decode_of-bits c.args.word 1 0 (omega arith) (omega arith))

pub returns-else-low-eq0 : goal.returns-else-low-eq0
returns-else-low-eq0 c = c.memory_word.ensures ∙ sym (decode_of-bits c.args.word 1 1 (omega arith) (omega arith))

pub returns-then-low-eq0-2 : goal.returns-then-low-eq0-2
returns-then-low-eq0-2 c = c.branch_or_sethi_word.ensures ∙ sym (decode_of-bits c.args.word 0 0 (omega arith) (omega arith))

pub returns-else-low-eq0-2 : goal.returns-else-low-eq0-2
returns-else-low-eq0-2 c = c.call_word.ensures ∙ sym (decode_of-bits c.args.word 0 1 (omega arith) (omega arith))
