-- What only contracts of private functions and models cite.
use Rattle.std.specs.Prelude.{ℕ, Bool, true, false, nat_lt, if◌then◌else◌, ◌==◌, ◌≡◌, ◌<◌, List, length, slice_index_or, ◌&&◌, ◌+◌, [], ◌∷◌, map, Some}
use Rattle.std.specs.List.{All}
use Rattle.eel_base.specs.CodeText.{Words}
use Rattle.eel_base.specs.declared.numbers.WordNo.{WordNo}
use Rattle.cfg_blocks.specs.Blocks.{Blocks}
use Rattle.cfg_blocks.specs.declared.EdgeKind.{EdgeKind}
use Rattle.cfg_blocks.specs.Private.{marked}
use Rattle.cfg_normal.specs.declared.landings.LandingRule.{LandingRule}
use Rattle.cfg_normal.specs.declared.landings.LandingRule.TheVariants.{Home, Behind, Copied}
use Rattle.cfg_normal.specs.Opens.{Open, jumps_in, targets_in, is_tabled}
use Rattle.cfg_normal.specs.declared.Node.{Node}
use Rattle.cfg_normal.specs.declared.Node.TheVariants.{Block, Landed, X}
use Rattle.cfg_normal.specs.Nodes.{same_kind}
use Rattle.cfg_normal.specs.declared.Edge.{Edge}
use Rattle.cfg_normal.specs.Graph.{case_of, lands_of, once_onto}

-- a word lands at the copy
abbrev pub lands_by : LandingRule → ℕ → Bool
lands_by Home word = false
lands_by (Behind compare) word = nat_lt compare word
lands_by (Copied k) word = true

-- a jump of an open switch ends the block
abbrev pub is_jump_block : LandingRule → Bool
is_jump_block (Copied k) = true
is_jump_block _ = false

abbrev pub has_copy : LandingRule → Bool
has_copy Home = false
has_copy _ = true

-- what is kept of a block, with one open switch more, the one of this number
abbrev pub with_compare : LandingRule → ℕ → LandingRule
with_compare Home compare = Behind compare
with_compare (Behind other) compare = if nat_lt compare other then Behind compare else Behind other
with_compare (Copied k) compare = Copied k

abbrev pub noted : Open → ℕ → ℕ → LandingRule → LandingRule
noted o number block landing =
    if o.block == block then Copied number else
    if o.switch.compare.0 == block then with_compare landing o.approach.compare.word else landing

-- the number of an open switch, whose jump ends the block
abbrev pub IsJumpOf : List Open → ℕ → ℕ → Type 0
IsJumpOf opens block k = (k < length opens) × (jumps_in opens block ≡ true)
    × ((d : Open) → (slice_index_or opens k d).block ≡ block)

-- the words to which the entries lead of the open switch of a block
pub record AreTargetsIn (b : Blocks) (opens : List Open) (block : ℕ) (targets : List ℕ) : Type 0 where
  pub jumps : jumps_in opens block ≡ true
  pub are : targets_in opens block ≡ targets
  pub within : All (λ word. word < b.words) targets

-- the edge comes from the comparison's block itself of the open switch, by its way
abbrev pub is_from : Open → Node → EdgeKind → Bool
is_from o (Block from) kind = (o.switch.compare.0 == from.0) && same_kind kind o.way
is_from o _ kind = false

-- Each word of a text is marked that stands in a table.
pub record AreTabled (text : Words) (opens : List Open) (marks : List Bool) : Type 0 where
  pub long : length marks ≡ length text.words
  pub each : (word : ℕ) → word < length text.words → marked marks word ≡ is_tabled text opens word

-- the number of a node, of so many blocks
abbrev pub number_in : ℕ → Node → ℕ
number_in count (Block block) = block.0
number_in count X = count
number_in count (Landed block) = count + 1 + block.0

-- ---- the edges of a jump's block: a node that has an edge has its mark

abbrev pub seen_mark : ℕ → ℕ → ℕ → ℕ → ℕ
seen_mark place mark n before = if n == place then mark else before

abbrev pub unseen_case : Blocks → ℕ → Node → Bool → List Edge
unseen_case b block to is_seen = if is_seen then [] else case_of b block to ∷ []

-- the nodes at which these words land, each where it first stands
abbrev pub landed_once : Blocks → List Open → List WordNo → List Node
landed_once b opens targets = once_onto [] (map (λ word. lands_of b opens (Some word)) (map (λ w. w.0) targets))
