-- `edit IN OUT script S` puts what the lines of S say on the edges of IN.
use Rattle.std.specs.Prelude.{◌≡◌, ℕ, List, [], get_or, length}
use Rattle.snippets.specs.declared.snippet.Op.{Op}
use Rattle.snippets.specs.Grammar.{AllSay, lines_of}
use Rattle.snippets.specs.Scripts.{IsGood, cell_end, end_of, snips_of}
use Rattle.tool_kit.specs.declared.edge_ref.ToolKind.TheVariants as tools
use Rattle.tool_kit.specs.Plans.{Plan}
use Rattle.eel.specs.Answers.Edit.{asked, edges_in, plan_of}

-- `script S` asks for the snippet of each edge, and for nothing past the last one that has any.
abbrev pub script_plan : List ℕ → List (List Op) → ℕ → Plan
script_plan bytes snips cells = plan_of tools.Script [] cells (asked (λ edge. get_or snips edge []) bytes)

-- The lines of S say so, none of which is bad for the graph of the file: the operations that they name on each edge,
-- in their order. There are cells up to the last on which one of them works, or none.
abbrev pub IsScripted : List ℕ → List ℕ → Plan → Type 0
IsScripted bytes lines plan =
    (said : _) × AllSay (lines_of lines) said × IsGood (length (edges_in bytes)) said
    × (plan ≡ script_plan bytes (snips_of said) (end_of cell_end said))
