use Rattle.std.proofs.Common.{◌≡◌, ◌∙◌, true, sym}
use Rattle.line_words.specs.Words.{is_decimal}
use Rattle.line_words.proofs.Numbers.{decimal_utf8}
use Rattle.line_words.proofs.words.decimal_text.Goals as goal

pub returns-in-Err : goal.returns-in-Err
returns-in-Err c =
    let decimal : is_decimal c.args.word.now ≡ true = sym c.is_decimal.ensures ∙ c.if-not-is_decimal.false in
    absurd (c.in-Err.ensures.cases.0 (decimal_utf8 c.args.word.now decimal))
