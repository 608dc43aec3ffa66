use Rattle.std.proofs.Common.{rules}
use Rattle.cfg_blocks.proofs.Held.{in_held}
use Rattle.cfg_blocks.proofs.list.BlockList.holding_near.Goals as goal

pub returns-clause-above : goal.returns-clause-above
returns-clause-above c =
    let held = in_held c.args.self.now.blocks.words c.args.self.now.blocks.firsts (search rules) c.args.w.0 c.requires in
    search (held.above, rules)

pub returns-clause-below : goal.returns-clause-below
returns-clause-below c =
    let held = in_held c.args.self.now.blocks.words c.args.self.now.blocks.firsts (search rules) c.args.w.0 c.requires in
    search (held.below, rules)
