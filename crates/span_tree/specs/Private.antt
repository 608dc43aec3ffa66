-- What only contracts of private functions and models cite.
use Rattle.flows.specs.declared.Link.{Link}
use Rattle.cfg_normal.specs.declared.Edge.{Edge}
use Rattle.cfg_normal.specs.Graph.{Graph}
use Rattle.cfg_normal.specs.Numbers.{node_number}

-- the same as a list
abbrev pub link_of : Graph → Edge → Link
link_of graph edge = record { from = node_number graph edge.from; to = node_number graph edge.to }
