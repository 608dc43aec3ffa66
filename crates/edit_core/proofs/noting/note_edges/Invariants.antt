use Rattle.edit_core.proofs.Common.{◌≡◌, ◌++◌, List, drop, map, edge_seen, note_edges_of, Op}
use Rattle.tool_kit.specs.Code.{AreAnswers}
use Rattle.edit_core.proofs.noting.note_edges.Given as goal

-- those so far, and what is left
abbrev pub invariant-loop-number : goal.invariant-loop-number
invariant-loop-number g l = (snips : List (List Op)) → AreAnswers g.F.Chooser.says l.tool.choose l.edges snips
    → map edge_seen l.noted.items ++ note_edges_of l.graph l.tool.kind (drop l.number l.edges) (drop l.number snips)
    ≡ note_edges_of l.graph l.tool.kind l.edges snips
