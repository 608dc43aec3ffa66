use Rattle.v8_decode.proofs.Rows.{decoded_pair, decoded_range}
use Rattle.v8_decode.proofs.tables.decode.Goals as goal

pub returns-clause-range : goal.returns-clause-range
returns-clause-range c = decoded_range c.format_word.result c.args.word c.format_word.ensures

pub returns-clause-pair : goal.returns-clause-pair
returns-clause-pair c = decoded_pair c.format_word.result c.args.word c.format_word.ensures
