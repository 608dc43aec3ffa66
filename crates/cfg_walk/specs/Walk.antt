-- The walk of a run over the flow graph: which edges each step completes, and where the walk stands. A way along an
-- edge ends once its delay slot is run (Ball and Larus, "Optimally Profiling and Tracing Programs": counts are of
-- edges).
use Rattle.std.specs.Prelude.{ℕ, zero, suc, ◌-◌, Bool, true, false, ◌&&◌, ◌==◌, if◌then◌else◌, List, [], ◌∷◌, ◌++◌, slice_get, slice_index, Option, Some, None}
use Rattle.std.specs.List.{position}
use Rattle.std.specs.Option.{option_map, option_to_list}
use Rattle.eel_base.specs.CodeText.{Words, word_at}
use Rattle.v8_decode.specs.declared.Instr.{Instr}
use Rattle.v8_decode.specs.declared.Instr.TheVariants as i
use Rattle.v8_decode.specs.Words.{decode_of}
use Rattle.v8_step.specs.declared.Ending.{Ending}
use Rattle.v8_step.specs.State.{State}
use Rattle.v8_step.specs.declared.Slot.{Slot}
use Rattle.v8_step.specs.declared.Slot.TheVariants.{NoSlot, Untaken}
use Rattle.v8_step.specs.Run.{run}
use Rattle.cfg_blocks.specs.Ends.{always}
use Rattle.cfg_blocks.specs.Blocks.{last_word}
use Rattle.cfg_blocks.specs.declared.EdgeKind.{EdgeKind}
use Rattle.cfg_blocks.specs.declared.EdgeKind.TheVariants as kinds
use Rattle.cfg_normal.specs.declared.Edge.{Edge}
use Rattle.cfg_normal.specs.declared.Node.{Node}
use Rattle.cfg_normal.specs.declared.Node.TheVariants.{Block, Landed, X}
use Rattle.cfg_normal.specs.Graph.{Graph, has_cases, lands, node_of}
use Rattle.cfg_normal.specs.Nodes.{same_node, same_kind}

-- ---- where a machine stands: the instruction, the next one, and whether the first is in a slot

pub record Point : Type 0 where
  pub pc : ℕ
  pub npc : ℕ
  pub slot : Slot

abbrev pub point_of : State → Point
point_of s = record { pc = s.pc; npc = s.npc; slot = s.slot }

-- where it goes on, unless it has ended
abbrev pub unless_ended : Option Ending → Point → Option Point
unless_ended None point = Some point
unless_ended (Some ending) point = None

abbrev pub goes_on_at : State → Option Point
goes_on_at s = unless_ended s.ending (point_of s)

-- ---- ways out of nodes

-- A way out of a node: the kind of its edge, and the node to which it leads where a node has several edges of the kind.
pub record WayOut : Type 0 where
  pub kind : EdgeKind
  pub to : Option Node

-- the way of a kind of which a node has one edge
abbrev pub by_kind : EdgeKind → WayOut
by_kind kind = record { kind = kind; to = None }

abbrev pub leads_along : Option Node → Edge → Bool
leads_along None edge = true
leads_along (Some node) edge = same_node edge.to node

-- the number of the edge along which a way leaves a node
abbrev pub edge_along : Graph → Node → WayOut → List ℕ
edge_along graph node way =
    option_to_list (position
    (λ edge. leads_along way.to edge && (same_node edge.from node && same_kind edge.kind way.kind)) graph.edges)

-- the edge of a kind of which the node has one
abbrev pub edge_from : Graph → Node → EdgeKind → List ℕ
edge_from graph node kind = edge_along graph node (by_kind kind)

-- the number of the landing at a node
abbrev pub landing_at : Graph → Node → List ℕ
landing_at graph node =
    option_to_list (position (λ edge. same_node edge.to node && same_kind edge.kind kinds.Land) graph.edges)

-- ---- the edges that a step completes

abbrev pub instr_at : Words → ℕ → Option Instr
instr_at text address = option_map (λ word. decode_of (slice_index text.words word)) (word_at text address)

-- the way that a transfer went which has a slot
abbrev pub way_of : Option Instr → Slot → EdgeKind
way_of (Some (i.Call disp30)) slot = kinds.Call
way_of (Some (i.Jmpl rd rs1 op2)) slot = kinds.Out
way_of _ Untaken = kinds.Untaken
way_of _ _ = kinds.Taken

-- the word is the last one of the node's block
abbrev pub ends_block : Graph → Node → ℕ → Bool
ends_block graph (Block block) word =
    word == last_word graph.blocks.firsts graph.blocks.words block.0
ends_block graph (Landed block) word =
    word == last_word graph.blocks.firsts graph.blocks.words block.0
ends_block graph X word = false

-- An instruction was left without a slot: a branch annulled it, which completes its edge, or it is the last of its
-- block and control falls to the next one.
abbrev pub left_by : Graph → Node → ℕ → Instr → List ℕ
left_by graph node word (i.Branch cond annul disp22) =
    edge_from graph node (if cond == always then kinds.Taken else kinds.Untaken)
left_by graph node word _ = if ends_block graph node word then edge_from graph node kinds.Fall else []

abbrev pub left_at : Words → Graph → Node → Option ℕ → List ℕ
left_at text graph node None = []
left_at text graph node (Some word) =
    left_by graph node word (decode_of (slice_index text.words word))

-- after a jump the landing at the node of the word to which it led
abbrev pub landed : Words → Graph → EdgeKind → ℕ → List ℕ
landed text graph kinds.Out address = if_there (word_at text address)
  where
    if_there : Option ℕ → List ℕ
    if_there None = []
    if_there (Some word) = landing_at graph (lands graph (Some word))
landed text graph _ address = []

-- The way that a transfer of a kind goes, where control goes on at an address: a jump that has Case edges goes along
-- that to the node at which it lands.
abbrev pub way_to : Words → Graph → Node → EdgeKind → ℕ → WayOut
way_to text graph node kinds.Out next =
    if has_cases graph.opens node
    then record { kind = kinds.Case; to = Some (lands graph (word_at text next)) } else by_kind kinds.Out
way_to text graph node kind next = by_kind kind

-- along such a way, and to a landing after it
abbrev pub left_along : Words → Graph → Node → WayOut → ℕ → List ℕ
left_along text graph node way next = edge_along graph node way ++ landed text graph way.kind next

-- the step of a slot completes the edge of the transfer before it
abbrev pub slot_left : Words → Graph → Node → EdgeKind → ℕ → List ℕ
slot_left text graph node kind next = left_along text graph node (way_to text graph node kind next) next

-- a step from a point, with what was the slot before and is afterwards
abbrev pub completed : Words → Graph → Node → Point → Point → Slot → Slot → List ℕ
completed text graph node before after NoSlot NoSlot = left_at text graph node (word_at text before.pc)
completed text graph node before after slot NoSlot =
    slot_left text graph node (way_of (instr_at text (before.pc - 4)) slot) after.pc
completed text graph node before after _ _ = []

-- the edges that a step completes, where the walk stands at this node; one that ends the run completes none
abbrev pub gone : Words → Graph → Node → Point → Option Point → List ℕ
gone text graph node before None = []
gone text graph node before (Some after) = completed text graph node before after before.slot after.slot

-- ---- the walk

abbrev pub led_to : Node → Option Edge → Node
led_to node None = node
led_to node (Some edge) = edge.to

-- the node to which the last of some edges leads
abbrev pub node_after : Graph → Node → List ℕ → Node
node_after graph node [] = node
node_after graph node (edge ∷ edges) = node_after graph (led_to node (slice_get graph.edges edge)) edges

module _ (text : Words) (graph : Graph) (entry : ℕ) (s0 : State) where
  -- the edges that step n completes from a node
  abbrev pub gone_from : Node → ℕ → List ℕ
  gone_from node n = gone text graph node (point_of (run s0 n)) (goes_on_at (run s0 (suc n)))

  -- where the walk of the first n steps ends: at first in the block of the entry's word
  unfoldable pub end_of_walk : ℕ → Node
  end_of_walk zero = node_of graph.blocks (Some entry)
  end_of_walk (suc n) = node_after graph (end_of_walk n) (gone_from (end_of_walk n) n)

  -- the edges that step n completes
  abbrev pub gone_in : ℕ → List ℕ
  gone_in n = gone_from (end_of_walk n) n

  -- the edges that the first n steps complete, in order
  unfoldable pub walk : ℕ → List ℕ
  walk zero = []
  walk (suc n) = walk n ++ gone_in n
