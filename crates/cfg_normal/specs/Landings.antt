-- What is kept of each block to tell where control lands there.
use Rattle.std.specs.Prelude.{◌≡◌, ℕ, ◌-◌, ◌<◌, true, false, nat_lt, List, length, slice_index_or}
use Rattle.cfg_blocks.specs.Blocks.{Blocks}
use Rattle.cfg_normal.specs.declared.Node.{Node}
use Rattle.cfg_normal.specs.declared.Node.TheVariants.{Block, Landed, X}
use Rattle.cfg_normal.specs.declared.landings.LandingRule.{LandingRule}
use Rattle.cfg_normal.specs.declared.landings.LandingRule.TheVariants.{Home, Behind, Copied}
use Rattle.cfg_normal.specs.Opens.{Open, compares_in, is_behind, jumps_in}
use Rattle.cfg_normal.specs.Code.{AreOpenIn, IsGraph, landing_count}
use Rattle.cfg_normal.specs.Graph.{Graph}

-- what open switches say of a block
abbrev pub IsLanding : List Open → ℕ → LandingRule → Type 0
IsLanding opens block Home = (jumps_in opens block ≡ false) × (compares_in opens block ≡ false)
    × ((word : ℕ) → is_behind opens block word ≡ false)
IsLanding opens block (Behind compare) = (jumps_in opens block ≡ false) × (compares_in opens block ≡ true)
    × ((word : ℕ) → is_behind opens block word ≡ nat_lt compare word)
IsLanding opens block (Copied k) = (k < length opens) × ((d : Open) → (slice_index_or opens k d).block ≡ block)

pub record AreLandings (count : ℕ) (opens : List Open) (landings : List LandingRule) : Type 0 where
  pub long : length landings ≡ count
  pub each : (block : ℕ) → block < count → IsLanding opens block (slice_index_or landings block Home)

-- the blocks and the open switches of a text
pub record NodeList : Type 0 where
  pub blocks : Blocks
  pub opens : List Open

-- what is known of them, and of what is kept of each block
pub record AreNodes (nodes : NodeList) (kept : List LandingRule) : Type 0 where
  pub opens : AreOpenIn nodes.blocks nodes.opens
  pub landings : AreLandings (length nodes.blocks.firsts) nodes.opens kept

-- a graph, and how many of its edges are no landings
pub record IsFlowGraph (graph : Graph) (ways : ℕ) : Type 0 where
  pub is_graph : IsGraph graph
  pub counted : ways ≡ length graph.edges - landing_count graph

abbrev pub IsNumbered : ℕ → Node → Type 0
IsNumbered count (Block block) = block.0 < count
IsNumbered count X = Unit {0}
IsNumbered count (Landed block) = block.0 < count
