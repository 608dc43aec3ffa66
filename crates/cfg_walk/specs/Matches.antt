-- What holds of the walk's node while a run goes on.
use Rattle.std.specs.Prelude.{◌≡◌, ℕ, suc, ◌+◌, ◌-◌, ◌*◌, ◌%◌, ◌^◌, ◌<◌, true, false, if◌then◌else◌, ◌==◌, List, [], ◌∷◌, length, slice_get, slice_index, Option, Some, None}
use Rattle.std.specs.Int.{w32, cast_unsigned}
use Rattle.std.specs.List.{list_any}
use Rattle.std.specs.Option.{option_map}
use Rattle.eel_base.specs.CodeText.{Words, address_of, word_at}
use Rattle.eel_base.specs.Code.{IsText}
use Rattle.v8_decode.specs.declared.Instr.{Instr}
use Rattle.v8_decode.specs.declared.Instr.TheVariants as i
use Rattle.v8_decode.specs.Words.{decode_of}
use Rattle.v8_memory.specs.Regions.{fetch_of}
use Rattle.v8_step.specs.State.{State}
use Rattle.v8_step.specs.declared.Slot.{Slot}
use Rattle.v8_step.specs.declared.Slot.TheVariants.{NoSlot, Taken}
use Rattle.v8_step.specs.Step.{step_of}
use Rattle.v8_step.specs.Run.{run}
use Rattle.cfg_blocks.specs.Blocks.{Blocks, blocks_of, end_of, last_word}
use Rattle.cfg_blocks.specs.Switches.{is_jump}
use Rattle.cfg_blocks.specs.declared.EdgeKind.{EdgeKind}
use Rattle.cfg_blocks.specs.declared.EdgeKind.TheVariants as kinds
use Rattle.cfg_normal.specs.declared.Edge.{Edge}
use Rattle.cfg_normal.specs.declared.Node.{Node}
use Rattle.cfg_normal.specs.declared.Node.TheVariants.{Block, Landed, X}
use Rattle.cfg_normal.specs.declared.Slot.{Slot as Carried}
use Rattle.cfg_normal.specs.declared.Slot.TheVariants as carried
use Rattle.cfg_normal.specs.Opens.{Open, jumps_in, targets_in}
use Rattle.cfg_normal.specs.Graph.{Graph, directed, graph_of, has_cases, lands, node_of}
use Rattle.cfg_normal.specs.Nodes.{same_kind}
use Rattle.cfg_normal.specs.Code.{home_of, IsNodeIn}
use Rattle.cfg_walk.specs.Walk.{Point, point_of, edge_along, end_of_walk, goes_on_at, gone, instr_at, node_after, way_of, way_to}

-- the address is that of the word which the edge carries, or of the end of the text, behind which that word lies
abbrev pub IsCarried : Words → Carried → ℕ → Type 0
IsCarried text carried.Nothing address = ⊥
IsCarried text (carried.Word word) address = address ≡ address_of text word.0
IsCarried text carried.Off address = address ≡ address_of text (length text.words)

-- the node's block begins with the word; X where the text has no such word
abbrev pub Begins : Graph → Node → Option ℕ → Type 0
Begins graph (Block block) (Some word) = slice_index graph.blocks.firsts block.0 ≡ word
Begins graph (Landed block) (Some word) = slice_index graph.blocks.firsts block.0 ≡ word
Begins graph X None = Unit {0}
Begins graph _ _ = ⊥

-- the address to which a transfer at a word leads along a way (manual, B.21 and B.24); past its slot, where it doesn't
-- jump
abbrev pub target_along : Words → ℕ → EdgeKind → Instr → ℕ
target_along text word kinds.Taken (i.Branch cond annul disp22) =
    (address_of text word + 4 * cast_unsigned w32 disp22) % 2 ^ 32
target_along text word kinds.Call (i.Call disp30) = (address_of text word + 4 * cast_unsigned w32 disp30) % 2 ^ 32
target_along text word way instr = address_of text (word + 2)

-- the word that ends a node's block
abbrev pub last_in : Graph → Node → ℕ
last_in graph (Block block) = last_word graph.blocks.firsts graph.blocks.words block.0
last_in graph (Landed block) = last_word graph.blocks.firsts graph.blocks.words block.0
last_in graph X = 0

-- the address to which a way out of a node leads, unless that is a JMPL's
abbrev pub way_address : Words → Graph → Node → EdgeKind → ℕ
way_address text graph node way =
    target_along text (last_in graph node) way (decode_of (slice_index text.words (last_in graph node)))

-- the address is that of a word to which the table of the node's switch leads
abbrev pub IsTarget : Words → List Open → Node → ℕ → Type 0
IsTarget text opens (Block block) address =
    (word : ℕ) × (word_at text address ≡ Some word) × (list_any (λ x. x == word) (targets_in opens block.0) ≡ true)
IsTarget text opens _ address = ⊥

-- In a slot the walk's node has one edge of the way that the transfer goes. That edge carries the slot, and but for
-- a jump it leads to where the machine goes on after it.
pub record IsOnItsWay (text : Words) (graph : Graph) (node : Node) (point : Point) (way : EdgeKind) : Type 0 where
  pub number : ℕ
  pub edge : Edge
  pub only : edge_along graph node (way_to text graph node way point.npc) ≡ number ∷ []
  pub is : slice_get graph.edges number ≡ Some edge
  -- the slot stands behind the block's last word
  pub pc : point.pc ≡ address_of text (last_in graph node + 1)
  pub carries : IsCarried text edge.slot point.pc
  pub goes : same_kind way kinds.Out ≡ false → point.npc ≡ way_address text graph node way
  -- a JMPL is always taken
  pub jumps : same_kind way kinds.Out ≡ true → point.slot ≡ Taken
  pub leads : same_kind way kinds.Out ≡ false
      → Begins graph edge.to (word_at text point.npc)
      × (edge.to ≡ directed graph.opens node way (node_of graph.blocks (word_at text point.npc)))
  -- a JMPL along a Case edge goes where it lands; along an Out edge, to X
  pub lands_at : same_kind way kinds.Out ≡ true
      → edge.to ≡ (if has_cases graph.opens node then lands graph (word_at text point.npc) else X)
  -- that is a word to which the table leads
  pub cases : same_kind way kinds.Out ≡ true → has_cases graph.opens node ≡ true
      → IsTarget text graph.opens node point.npc

abbrev pub MatchesBy : Words → Graph → Node → Point → Slot → Type 0
MatchesBy text graph node point NoSlot =
    (home_of node ≡ node_of graph.blocks (word_at text point.pc)) × (point.npc ≡ (point.pc + 4) % 2 ^ 32)
MatchesBy text graph node point slot = IsOnItsWay text graph node point (way_of (instr_at text (point.pc - 4)) slot)

-- Outside a slot the walk's node is the block that holds the machine's word, or its landed copy, or X where the text
-- has no such word.
abbrev pub Matches : Words → Graph → Node → Point → Type 0
Matches text graph node point = MatchesBy text graph node point point.slot

-- only the words of the text can be fetched
abbrev pub FetchesOnly : Words → State → Type 0
FetchesOnly text s = (a : ℕ) → fetch_of s.memory a ≡ option_map (λ word. slice_index text.words word) (word_at text a)

-- a run is about to begin at a word of the text
pub record BeginsAt (text : Words) (entry : ℕ) (s0 : State) : Type 0 where
  pub within : entry < length text.words
  pub pc : s0.pc ≡ address_of text entry
  pub npc : s0.npc ≡ address_of text entry + 4
  pub slot : s0.slot ≡ NoSlot

-- ---- where switches are open

-- the block of an open switch's jump ends in that
abbrev pub AreOpen : Blocks → List Open → Type 0
AreOpen b opens = (block : ℕ) → jumps_in opens block ≡ true → is_jump (end_of b block) ≡ true

-- where the walk's node has Case edges, a jump leads to a word of the table
abbrev pub GoesByCase : Words → List Open → Node → Point → Point → Type 0
GoesByCase text opens node before after =
    has_cases opens node ≡ true → before.slot ≡ NoSlot → after.slot ≡ Taken → IsTarget text opens node after.npc

-- The walk follows each step, over the graph of any blocks of a text with any open switches.
abbrev pub StepsMatch : Type 0
StepsMatch =
    (text : Words) (given : List ℕ) (opens : List Open) (node : Node) (s : State)
    → let b = blocks_of text given in
    let graph = graph_of b opens in
    IsText text → AreOpen b opens → FetchesOnly text s → IsNodeIn b opens node → s.ending ≡ None
    → Matches text graph node (point_of s) → GoesByCase text opens node (point_of s) (point_of (step_of s))
    → (step_of s).ending ≡ None
    → let after = node_after graph node (gone text graph node (point_of s) (goes_on_at (step_of s))) in
    Matches text graph after (point_of (step_of s)) × IsNodeIn b opens after

-- ---- each run

abbrev pub JumpsGoByCase : Words → Graph → ℕ → State → Type 0
JumpsGoByCase text graph entry s0 = (n : ℕ) → (run s0 (suc n)).ending ≡ None
    → GoesByCase text graph.opens (end_of_walk text graph entry s0 n) (point_of (run s0 n)) (point_of (run s0 (suc n)))

-- the walk of a run over the graph of its text, whatever words lead besides, with any open switches
abbrev pub OfEachRun : (Words → Graph → ℕ → State → ℕ → Type 0) → Type 0
OfEachRun Holds = (text : Words) (given : List ℕ) (opens : List Open) (entry : ℕ) (s0 : State) (n : ℕ) → IsText text
    → FetchesOnly text s0 → BeginsAt text entry s0 → AreOpen (blocks_of text given) opens
    → JumpsGoByCase text (graph_of (blocks_of text given) opens) entry s0
    → Holds text (graph_of (blocks_of text given) opens) entry s0 n

-- it matches the run after n steps, if that goes on
abbrev pub MatchesRun : Words → Graph → ℕ → State → ℕ → Type 0
MatchesRun text graph entry s0 n =
    (run s0 n).ending ≡ None
    → Matches text graph (end_of_walk text graph entry s0 n) (point_of (run s0 n))
    × IsNodeIn graph.blocks graph.opens (end_of_walk text graph entry s0 n)

abbrev pub WalksMatch : Type 0
WalksMatch = OfEachRun MatchesRun
