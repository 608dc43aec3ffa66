use Rattle.addr_translate.proofs.Common.{◌^◌, ◌+◌, ◌*◌, ◌/◌, ap, sym, ◌∙◌, subst, arith, IsBlock, TableAt, table_word}
use Rattle.addr_translate.proofs.table.Table.second_block.Goals as goal

pub returns-clause-block : goal.returns-clause-block
returns-clause-block c =
    subst (IsBlock c.args.self.now)
    (sym (c.word.ensures.value
    ∙ ap (λ (t : TableAt). table_word c.args.self.now (t.base + 4 * (c.args.t.0 / 2 ^ 22))) c.self.view_is))
    (c.word.ensures.table.second c.args.t.0 (omega arith))
