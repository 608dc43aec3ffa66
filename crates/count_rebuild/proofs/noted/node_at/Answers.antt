use Rattle.std.proofs.Common.{rules, ◌≡◌, ◌∙◌, Some, ap, length}
use Rattle.count_rebuild.proofs.Rules.{at_outside, at_page, at_place}
use Rattle.count_rebuild.proofs.noted.node_at.Goals as goal

pub returns-in-Some : goal.returns-in-Some
returns-in-Some c = at_place c.args.n.now c.args.address.0 c.in-Some.range (search rules)

pub returns-in-None : goal.returns-in-None
returns-in-None c = at_page c.args.n.now c.args.address.0 (search rules) (search rules)

pub returns-in-None-2 : goal.returns-in-None-2
returns-in-None-2 c =
    let len : c.len.result ≡ length c.args.n.now.blocks.items = search rules in
    ap Some len ∙ at_outside c.args.n.now c.args.address.0 (search rules) (search rules)
