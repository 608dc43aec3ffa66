-- What contracts of this crate's code and laws cite beyond the statement.
use Rattle.std.specs.Prelude.{◌≡◌, ℕ, ◌+◌, ◌-◌, ◌<◌, ◌≤◌, true, ◌==◌, length, slice_index, take, Option, Some, false, List, [], ◌∷◌, ◌⊎◌, ◌*◌, ◌^◌}
use Rattle.std.specs.Option.{is_some}
use Rattle.std.specs.List.{All, AllPairs, flat_map, position, sum_by}
use Rattle.eel_base.specs.CodeText.{Words, word_at}
use Rattle.cfg_blocks.specs.declared.switches.Switch.{Switch}
use Rattle.cfg_blocks.specs.Blocks.{Blocks, below}
use Rattle.cfg_blocks.specs.Code.{AreFirsts}
use Rattle.cfg_normal.specs.declared.Node.{Node}
use Rattle.cfg_normal.specs.declared.Node.TheVariants.{Block, Landed, X}
use Rattle.cfg_normal.specs.Opens.{Open, jumps_in, is_copied}
use Rattle.cfg_normal.specs.declared.Slot.{Slot}
use Rattle.cfg_normal.specs.declared.Slot.TheVariants.{Nothing, Word, Off}
use Rattle.cfg_normal.specs.declared.Edge.{Edge}
use Rattle.cfg_normal.specs.Graph.{Graph, graph_of, landings_of}

-- a landed copy runs the words of its block
abbrev pub home_of : Node → Node
home_of (Block block) = Block block
home_of (Landed block) = Block block
home_of X = X

-- The table of a switch stands whole in the text, with one entry at least, and each entry leads to a word.
pub record IsTableIn (text : Words) (switch : Switch) : Type 0 where
  pub jump : switch.jump.0 < length text.words
  pub some : 1 ≤ switch.count
  pub begins : ℕ
  pub at : word_at text switch.table.0 ≡ Some begins
  pub within : begins + switch.count ≤ length text.words
  pub leads : (k : ℕ) → k < switch.count → is_some (word_at text (slice_index text.words (begins + k))) ≡ true

-- ---- what is true of the open switches of a text

-- Its blocks are blocks, its table has an entry at least, and the entries lead to words.
pub record IsOpenIn (b : Blocks) (o : Open) : Type 0 where
  pub block : o.block < length b.firsts
  pub compare : o.switch.compare.0 < length b.firsts
  pub some : 1 ≤ length o.targets
  pub targets : All (λ word. word < b.words) o.targets

-- the number of the one whose jump ends the block
abbrev pub jump_number : List Open → ℕ → Option ℕ
jump_number opens block = position (λ (o : Open). o.block == block) opens

-- each block has one of them
abbrev pub AreOne : List Open → Type 0
AreOne [] = Unit {0}
AreOne (o ∷ opens) = (jumps_in opens o.block ≡ false) × AreOne opens

-- the tables of two share no word
abbrev pub AreApart : Open → Open → Type 0
AreApart one other =
    (one.switch.table.0 + 4 * one.switch.count ≤ other.switch.table.0)
    ⊎ (other.switch.table.0 + 4 * other.switch.count ≤ one.switch.table.0)

-- So all entries together are at most as many as the words.
pub record AreOpenIn (b : Blocks) (opens : List Open) : Type 0 where
  pub each : All (IsOpenIn b) opens
  pub one : AreOne opens
  pub apart : AllPairs AreApart opens
  pub entries : sum_by (λ (o : Open). length o.targets) opens ≤ b.words

-- ---- what is true of each graph

-- how many landings it has, which come last among its edges
abbrev pub landing_count : Graph → ℕ
landing_count graph = length (flat_map (landings_of graph.opens) (below (length graph.blocks.firsts)))

-- the edges but for the landings
abbrev pub edges_but_landings : Graph → List Edge
edges_but_landings graph = take (length graph.edges - landing_count graph) graph.edges

-- a node of these blocks
abbrev pub IsNodeIn : Blocks → List Open → Node → Type 0
IsNodeIn b opens (Block block) = block.0 < length b.firsts
IsNodeIn b opens (Landed block) = (block.0 < length b.firsts) × (is_copied opens block.0 ≡ true)
IsNodeIn b opens X = Unit {0}

-- a slot in the text, or behind its end
abbrev pub IsSlotIn : Blocks → Slot → Type 0
IsSlotIn b Nothing = Unit {0}
IsSlotIn b (Word word) = word.0 < b.words
IsSlotIn b Off = Unit {0}

-- an edge between nodes of these blocks
pub record IsEdgeIn (b : Blocks) (opens : List Open) (edge : Edge) : Type 0 where
  pub from : IsNodeIn b opens edge.from
  pub to : IsNodeIn b opens edge.to
  pub slot : IsSlotIn b edge.slot

-- the edges are those of the blocks, at most seven for each word; the jump of an open switch leads to some word
pub record IsGraph (g : Graph) : Type 0 where
  pub made : g ≡ graph_of g.blocks g.opens
  pub firsts : AreFirsts g.blocks.words g.blocks.firsts
  pub few : g.blocks.words ≤ 2 ^ 20
  pub targets : All (λ (o : Open). 1 ≤ length o.targets) g.opens
  pub opens : AreOpenIn g.blocks g.opens
  pub edges : All (IsEdgeIn g.blocks g.opens) g.edges
  pub edge_count : length g.edges ≤ 7 * g.blocks.words
