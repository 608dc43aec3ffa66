use Rattle.eel.proofs.LastOfWalk.{edits_are_traces}
use Rattle.eel.proofs.last_edges.edits_are_traces.Goals as goal

pub returns : goal.returns
returns c = edits_are_traces
