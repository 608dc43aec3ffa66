use Rattle.std.proofs.Common.{List, ap, ◌∙◌}
use Rattle.cfg_blocks.specs.declared.switches.Switch.{Switch}
use Rattle.cfg_normal.specs.Opens.{opens_of}
use Rattle.cfg_normal.specs.Graph.{graph_of}
use Rattle.cfg_view.proofs.flow_of.Goals as goal

pub returns-clause-graph : goal.returns-clause-graph
returns-clause-graph c =
    c.in_ok-graph.ensures
    ∙ ap (λ (switches : List Switch). graph_of c.args.blocks.now.blocks (opens_of c.args.text.now c.args.blocks.now switches))
    (c.deref.ensures.value ∙ c.in_ok-switches.ensures.switches)

pub returns-clause-switches : goal.returns-clause-switches
returns-clause-switches c = c.in_ok-switches.ensures.switches

pub returns-clause-tables : goal.returns-clause-tables
returns-clause-tables c = c.in_ok-switches.ensures.tables
