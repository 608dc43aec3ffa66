use Rattle.std.proofs.Common.{rules, ◌<◌, ◌^◌, sym}
use Rattle.v8_text.proofs.Listed.{line_is, no_address, no_line, no_word}
use Rattle.v8_text.proofs.listings.read_line.Goals as goal

pub returns-in_err-digits : goal.returns-in_err-digits
returns-in_err-digits c =
    rw c.from_residual.ensures (λ at w low fits. no_line c.args.line.now (sym c.in_err-digits.ensures) at w)

pub returns-in_err-at : goal.returns-in_err-at
returns-in_err-at c =
    rw c.from_residual-in_err-at.ensures (λ at w low fits. no_address c.args.line.now _ (sym c.in_ok-digits.ensures)
    (sym c.in_err-at.ensures) at w low)

pub returns-in_err-word : goal.returns-in_err-word
returns-in_err-word c =
    rw c.from_residual-in_err-word.ensures (λ at w low fits. no_word c.args.line.now _ c.in_ok-at.at
    (sym c.in_ok-digits.ensures) (sym c.in_ok-at.ensures) c.in_err-word.ensures at w low fits)

pub returns : goal.returns
returns c =
    let low : c.in_ok-at.at < 2 ^ 32 = search rules in (
      low,
      c.in_ok-word.ensures.0,
      line_is c.args.line.now _ c.in_ok-at.at c.in_ok-word.word (sym c.in_ok-digits.ensures) (sym c.in_ok-at.ensures)
          c.in_ok-word.ensures.1,
    )
