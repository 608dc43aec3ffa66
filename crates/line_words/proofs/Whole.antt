-- Words that are written are read, and nothing else is.
use Rattle.line_words.specs.Laws.{NothingElseReads, WordsReadBack}
use Rattle.line_words.proofs.Digits.{address_back, address_read}
use Rattle.line_words.proofs.Numbers.{count_back, count_read, number_back, number_read, sum_back, sum_read}
use Rattle.line_words.proofs.Registers.{register_back, register_read}
use Rattle.line_words.proofs.Split.{split_back, split_read}

pub words_back : WordsReadBack
words_back = assumption (split_back, number_back, count_back, sum_back, address_back, register_back)

pub nothing_else : NothingElseReads
nothing_else = assumption (split_read, number_read, count_read, sum_read, address_read, register_read)
