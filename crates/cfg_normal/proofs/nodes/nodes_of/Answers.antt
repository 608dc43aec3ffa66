use Rattle.cfg_normal.proofs.Candidates.{opens_are}
use Rattle.cfg_normal.proofs.nodes.nodes_of.Goals as goal

pub invariant_of-result : goal.invariant_of-result
invariant_of-result c =
    record {
      opens = rw (c.in_ok-blocks.ensures.cases, c.in_ok-opens.ensures.opens)
          (opens_are c.args.text.now c.args.blocks.now c.requires.made c.count-count.ensures.list c.args.switches.now
          c.requires.tables);
      landings = rw c.in_ok-blocks.ensures.cases c.in_ok-opens.ensures.landings;
    }

pub returns-clause-opens : goal.returns-clause-opens
returns-clause-opens c =
    opens_are c.args.text.now c.args.blocks.now c.requires.made c.count-count.ensures.list c.args.switches.now
    c.requires.tables
