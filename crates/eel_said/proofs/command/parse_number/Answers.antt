use Rattle.std.proofs.Common.{sym, ◌∙◌, rules}
use Rattle.eel_said.proofs.Numbers.{within-parsed}
use Rattle.eel_said.proofs.command.parse_number.Goals as goal

pub returns : goal.returns
returns c =
    let digits = sym c.are_digits.ensures ∙ c.if-not-are_digits.false in
    c.ok.ensures.value
    ∙ within-parsed 10 32 _ c.args.text.now _ c.parse.ensures.value.0 digits (search rules) (search rules)
