use Rattle.std.proofs.Common.{◌+◌, ◌∙◌, sym, arith}
use Rattle.jump_slice.proofs.Parts.{table_in}
use Rattle.jump_slice.proofs.slices.switch_by.Goals as goal

pub returns-then-is_table-clause-table : goal.returns-then-is_table-clause-table
returns-then-is_table-clause-table c =
    table_in c.args.text.now (record {
      jump = record { 0 = c.args.approach.jump };
      compare = c.args.from;
      table = record { 0 = c.in-Entry.c };
      count = c.args.approach.compare.limit + 1;
    })
    c.requires.jump (omega arith) (sym c.is_table.ensures ∙ c.if-is_table.true)
