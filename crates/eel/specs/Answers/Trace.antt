-- `edit IN OUT trace K` puts a ring of 2^K places, which keeps the last edges, on the edges of IN.
use Rattle.std.specs.Prelude.{ℕ, ◌+◌, ◌^◌, List, []}
use Rattle.tool_kit.specs.declared.edge_ref.ToolKind.TheVariants as tools
use Rattle.tool_kit.specs.Plans.{Plan}
use Rattle.edge_ring.specs.Ring.{ring_on}
use Rattle.eel.specs.Answers.Edit.{asked, plan_of}

-- each edge is written into a ring of so many bits
abbrev pub trace_plan : ℕ → List ℕ → Plan
trace_plan bits bytes = plan_of tools.Trace [] (1 + 2 ^ bits) (asked (ring_on bits) bytes)
