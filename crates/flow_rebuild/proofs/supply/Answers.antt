use Rattle.std.proofs.Common.{rules, arith}
use Rattle.flow_rebuild.proofs.Sums.{abs_none, abs_added}
use Rattle.flow_rebuild.proofs.supply.Goals as goal

pub add-requires-clause-small : goal.add-requires-clause-small
add-requires-clause-small c = omega (arith, abs_none c.args.nodes c.in_ok-excess.excess.items (search rules))

pub add-requires-2-clause-small : goal.add-requires-2-clause-small
add-requires-2-clause-small c =
    omega (arith, abs_none c.args.nodes c.in_ok-excess.excess.items (search rules), abs_added _ _ _ _ c.add.ensures (search rules))

pub returns-clause-small : goal.returns-clause-small
returns-clause-small c =
    let a = abs_none c.args.nodes c.in_ok-excess.excess.items (search rules) in
    omega (arith, a, abs_added _ _ _ _ c.add.ensures (search rules), abs_added _ _ _ _ c.add-2.ensures (search rules))
