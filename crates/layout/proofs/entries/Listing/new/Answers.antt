use Rattle.std.proofs.Common.{arith}
use Rattle.layout.proofs.Listed.{few_entries}
use Rattle.layout.proofs.entries.Listing.new.Goals as goal

pub count-requires-clause-small : goal.count-requires-clause-small
count-requires-clause-small c =
    let few = few_entries c.args.pieces.now c.args.order.now c.requires.whole in
    omega (arith, few, c.requires.few, c.requires.items)

pub returns-clause-small : goal.returns-clause-small
returns-clause-small c =
    let few = few_entries c.args.pieces.now c.args.order.now c.requires.whole in
    omega (arith, few, c.requires.few, c.requires.items)
