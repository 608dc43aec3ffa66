-- The weight of each edge of a flow graph: a guess of how often a run completes it, by the loops about it, as in
-- Ball and Larus, "Optimally Profiling and Tracing Programs", ACM TOPLAS 16 (4), 1994: an edge in a loop is
-- completed more often.
use Rattle.std.specs.Prelude.{ℕ, ◌+◌, ◌*◌, Bool, false, ◌&&◌, nat_le, min, List, length, map, Option, Some, None}
use Rattle.eel_base.specs.declared.numbers.WordNo.{WordNo}
use Rattle.flows.specs.Flows.{count_below}
use Rattle.cfg_blocks.specs.declared.BlockEnd.{BlockEnd}
use Rattle.cfg_blocks.specs.declared.BlockEnd.TheVariants as ends
use Rattle.cfg_blocks.specs.Blocks.{Blocks, end_of, last_word}
use Rattle.cfg_normal.specs.declared.Edge.{Edge}
use Rattle.cfg_normal.specs.declared.Node.{Node}
use Rattle.cfg_normal.specs.declared.Node.TheVariants.{Block, Landed, X}

-- the word to which a branch leads, where the text has it; a branch on never leads nowhere
abbrev pub branch_target : BlockEnd → Option WordNo
branch_target ends.Fall = None
branch_target (ends.Branch cond annul target) = target
branch_target (ends.Call target) = None
branch_target ends.Jump = None

-- The word stands in the loop from a branch's target to the branch, which is the word `last`. A branch on to a
-- later word has no such words.
abbrev pub is_between : ℕ → ℕ → Option WordNo → Bool
is_between last word None = false
is_between last word (Some target) = nat_le target.0 word && nat_le word last

-- the word stands in the loop of the branch that ends a block
abbrev pub is_in_loop : Blocks → ℕ → ℕ → Bool
is_in_loop b word block = is_between (last_word b.firsts b.words block) word (branch_target (end_of b block))

-- In how many loops the word stands. Each branch is the last word of its block.
abbrev pub loops_at : Blocks → ℕ → ℕ
loops_at b word = count_below (length b.firsts) (is_in_loop b word)

-- The weight of an edge that leaves a block or its landed copy, by the loops about the last word of the block, of
-- which a thousand count.
abbrev pub block_weight : Blocks → ℕ → ℕ
block_weight b block = 1 + 8 * min (loops_at b (last_word b.firsts b.words block)) 1000

-- A landing leaves X.
abbrev pub weight_from : Blocks → Node → ℕ
weight_from b (Block block) = block_weight b block.0
weight_from b (Landed block) = block_weight b block.0
weight_from b X = 1

abbrev pub weights_of : Blocks → List Edge → List ℕ
weights_of b edges = map (λ (edge : Edge). weight_from b edge.from) edges
