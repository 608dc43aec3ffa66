use Rattle.std.proofs.Common.{sym, ◌∙◌}
use Rattle.elf32_sparc.proofs.Functions.{no_symbols, no_strings, with_strings}
use Rattle.elf32_sparc.proofs.sections.read_funcs.Goals as goal

pub returns-in_default : goal.returns-in_default
returns-in_default c = c.new.ensures.items ∙ no_symbols c.args.bytes.now c.args.text.now (sym c.symbol_table.ensures ∙ c.in_default.is)

pub returns-in-Some-string_table : goal.returns-in-Some-string_table
returns-in-Some-string_table c =
    let is = with_strings c.args.bytes.now c.args.text.now c.in-Some.symbols c.in-Some-string_table.strings (sym c.symbol_table.ensures ∙ c.in-Some.is) (sym c.string_table.ensures ∙ c.in-Some-string_table.is) in
    rw (sym is) c.read_funcs_in.ensures

pub returns-in-None : goal.returns-in-None
returns-in-None c =
    c.new-in-None.ensures.items
    ∙ no_strings c.args.bytes.now c.args.text.now c.in-Some.symbols (sym c.symbol_table.ensures ∙ c.in-Some.is) (sym c.string_table.ensures ∙ c.in-None.is)
