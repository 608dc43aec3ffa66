use Rattle.std.proofs.Common.{sym, ◌∙◌}
use Rattle.elf32_sparc.proofs.Functions.{some_func}
use Rattle.elf32_sparc.proofs.sections.read_func.Goals as goal

pub returns : goal.returns
returns c =
    some_func c.args.bytes.now c.args.text.now c.args.names.now c.in_ok-name.name c.args.at c.word_at.result c.word_at-2.result c.in-Some.start
    (sym c.is_function.ensures ∙ c.if-not-is_function.false)
    c.word_at.ensures
    (sym c.find.ensures.exact ∙ c.in-Some.is)
    c.word_at-2.ensures
    c.in_ok-name.ensures
