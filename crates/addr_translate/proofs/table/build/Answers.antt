use Rattle.addr_translate.proofs.Common.{ℕ, List, sym, subst, IsTable, IsTableOf}
use Rattle.addr_translate.proofs.Tables.{tables_find}
use Rattle.addr_translate.proofs.table.build.Goals as goal

pub invariant_of-result : goal.invariant_of-result
invariant_of-result c =
    let found = tables_find c.args.text.now c.args.targets.now c.args.foreign c.args.base.0 c.bytes_of.ensures.text
    c.in_ok-bytes.ensures.fits c.requires.aligned c.requires.room in
    subst (λ (bytes : List ℕ). IsTable (record { base = c.args.base.0; bytes = bytes }))
    (sym c.in_ok-bytes.ensures.bytes) found.whole

pub returns-clause-table : goal.returns-clause-table
returns-clause-table c =
    subst (λ (bytes : List ℕ). IsTableOf c.args.text.now c.args.targets.now c.args.foreign
    (record { base = c.args.base.0; bytes = bytes })) (sym c.in_ok-bytes.ensures.bytes)
    (tables_find c.args.text.now c.args.targets.now c.args.foreign c.args.base.0 c.bytes_of.ensures.text
    c.in_ok-bytes.ensures.fits c.requires.aligned c.requires.room)
