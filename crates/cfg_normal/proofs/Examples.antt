-- The graph of a small program with a switch: it computes.
use Rattle.std.specs.Prelude.{[], ◌∷◌, ℕ, ◌≡◌, map, refl}
use Rattle.eel_base.specs.CodeText.{Words}
use Rattle.v8_decode.specs.Words.{decode_of, branch_or_sethi, arithmetic, memory}
use Rattle.cfg_blocks.specs.Blocks.{blocks_of, leaders}
use Rattle.cfg_blocks.specs.Ends.{end_at}
use Rattle.cfg_blocks.specs.Entries.{Entered, entered_of, into_of}
use Rattle.cfg_blocks.specs.Values.{after}
use Rattle.cfg_blocks.specs.Switches.{before_jump, switch_of, switches_of}
use Rattle.cfg_blocks.specs.declared.EdgeKind.{EdgeKind}
use Rattle.cfg_blocks.specs.declared.EdgeKind.TheVariants.{Fall, Taken, Untaken, Out, Land, Case}
use Rattle.cfg_normal.specs.Opens.{candidate, loads_here, opens_of, targets_of}
use Rattle.cfg_normal.specs.Graph.{Graph, edges_in, graph_of}
use Rattle.cfg_normal.specs.declared.Edge.{Edge}
use Rattle.cfg_normal.specs.Numbers.{node_number}

abbrev text : Words
text = record {
  start = 0x10054;
  words =
      0x90102003 ∷ 0x80a22003 ∷ 0x1880000c ∷ 0x912a2002 ∷ 0x03000040 ∷ 0x82106078 ∷ 0xc2004008 ∷ 0x81c04000
      ∷ 0x01000000 ∷ 0x0001008c ∷ 0x0001008c ∷ 0x0001008c ∷ 0x00010088 ∷ 0x90102005 ∷ 0x82102001 ∷ 0x91d02010 ∷ [];
}

unfoldable pub list : Entered
unfolding decode_of branch_or_sethi arithmetic memory blocks_of leaders end_at entered_of into_of
list = entered_of text (0 ∷ [])

unfoldable pub graph : Graph
unfolding decode_of branch_or_sethi arithmetic memory after before_jump switch_of loads_here targets_of candidate opens_of edges_in list
graph = graph_of list.blocks (opens_of text list (switches_of text list 0))

record Row : Type 0 where
  kind : EdgeKind
  from : ℕ
  to : ℕ

abbrev row : EdgeKind → ℕ → ℕ → Row
row kind from to = record { kind = kind; from = from; to = to }

-- 18 edges: those of blocks 0 to 5 (X is 6, and the landed copies of 0 and 2 are 7 and 9), of the two copies, and seven
-- landings
pub rows : map (λ (e : Edge). row e.kind (node_number graph e.from) (node_number graph e.to)) graph.edges
    ≡ row Taken 0 5 ∷ row Untaken 0 2 ∷ row Fall 1 9 ∷ row Case 2 5 ∷ row Case 2 4 ∷ row Fall 3 4 ∷ row Fall 4 5
    ∷ row Fall 5 6 ∷ row Taken 7 5 ∷ row Untaken 7 9 ∷ row Out 9 6
    ∷ row Land 6 0 ∷ row Land 6 7 ∷ row Land 6 1 ∷ row Land 6 9 ∷ row Land 6 3 ∷ row Land 6 4 ∷ row Land 6 5 ∷ []
unfolding graph
rows = refl
