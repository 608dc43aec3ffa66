use Rattle.std.proofs.Common.{◌∙◌, refl}
use Rattle.line_words.specs.Words.{sum_of}
use Rattle.line_words.proofs.Numbers.{number-parsed}
use Rattle.line_words.proofs.words.read_sum.Goals as goal

pub returns-in_err-digits : goal.returns-in_err-digits
unfolding sum_of
returns-in_err-digits c = rw (c.from_residual.ensures, c.in_err-digits.ensures) refl

pub returns : goal.returns
unfolding sum_of
returns c =
    let is = c.in_ok-digits.ensures in
    c.ok.ensures.value ∙ number-parsed 128 c.args.word.now _ (rw is.1 at c.parse.ensures.value.0) is.0
