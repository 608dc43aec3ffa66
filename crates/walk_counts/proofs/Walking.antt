-- The walks of small programs: they compute.
use Rattle.walk_counts.proofs.Common.{ℕ, List, [], ◌≡◌, ◌∷◌, refl, length, map, Words, blocks_of, leaders, below, end_at, Graph, graph_of, edges_in, links_of, walk, end_of_walk, start_of}
use Rattle.v8_process.proofs.Programs.{after, file_of, three_words, taken_branch, branch_over_nop, carry_loop, call_and_return, inner_landings, exit_three_calls_deep, one_nop, jump_to_zero, transfer_in_slot}
use Rattle.walk_counts.specs.Executions.{executions}

abbrev pub text_with : List ℕ → Words
text_with words = record { start = 0x10054; words = words }

-- the graph of a program of these words, at some of which routines start
unfoldable pub graph_with : List ℕ → List ℕ → Graph
unfolding after blocks_of leaders end_at edges_in
graph_with words starts = graph_of (blocks_of (text_with words) starts) []

-- the walk of a program's run of so many steps
unfoldable pub walk_with : List ℕ → List ℕ → ℕ → List ℕ
unfolding graph_with walk end_of_walk
walk_with words starts n = walk (text_with words) (graph_with words starts) 0 (start_of (file_of words) [] []) n

-- how often each edge is completed in that walk
unfoldable pub executions_with : List ℕ → List ℕ → ℕ → ℕ → ℕ
unfolding graph_with walk end_of_walk
executions_with words starts n e =
    executions (text_with words) (graph_with words starts) 0 (start_of (file_of words) [] []) n e

-- the walk of so many steps, and how many edges the graph has
abbrev Walks : List ℕ → List ℕ → ℕ → List ℕ → ℕ → Type 0
Walks words starts n es edges =
    (walk_with words starts n ≡ es) × (length (graph_with words starts).edges ≡ edges)

-- falls off no block: it exits within its first one
pub three_words_walks : Walks three_words (0 ∷ []) 3 [] 2
unfolding walk_with
three_words_walks = (refl, refl)

-- a branch that is taken, and a fall into the next block
taken_branch_walks : Walks taken_branch (0 ∷ []) 6 (0 ∷ 5 ∷ []) 13
unfolding walk_with
taken_branch_walks = (refl, refl)

-- a branch to the word after its slot
branch_over_nop_walks : Walks branch_over_nop (0 ∷ []) 6 (0 ∷ []) 7
unfolding walk_with
branch_over_nop_walks = (refl, refl)

-- a loop: its branch is taken four times
carry_loop_walks : Walks carry_loop (0 ∷ []) 23 (0 ∷ 1 ∷ 1 ∷ 1 ∷ 1 ∷ 2 ∷ []) 9
    × (map (executions_with carry_loop (0 ∷ []) 23) (below 9) ≡ 1 ∷ 4 ∷ 1 ∷ 0 ∷ 0 ∷ 0 ∷ 0 ∷ 0 ∷ 0 ∷ [])
unfolding walk_with executions_with
carry_loop_walks = ((refl, refl), refl)

-- a CALL, and the jump back, which lands at the block of its target: edges 0, 3 and 7 lead from block 0 to block 3, from
-- there to X, which is node 5, and from X to block 2
call_and_return_walks : Walks call_and_return (0 ∷ 4 ∷ []) 6 (0 ∷ 3 ∷ 7 ∷ []) 10
    × (map (links_of (graph_with call_and_return (0 ∷ 4 ∷ []))).from (0 ∷ 3 ∷ 7 ∷ []) ≡ 0 ∷ 3 ∷ 5 ∷ [])
    × (map (links_of (graph_with call_and_return (0 ∷ 4 ∷ []))).to (0 ∷ 3 ∷ 7 ∷ []) ≡ 3 ∷ 5 ∷ 2 ∷ [])
unfolding walk_with
call_and_return_walks = ((refl, refl), refl, refl)

-- landings in the middle of a block, and at a delay slot
inner_landings_walks : Walks inner_landings (0 ∷ 2 ∷ []) 10 (0 ∷ 2 ∷ 13 ∷ 4 ∷ 16 ∷ 7 ∷ []) 18
unfolding walk_with
inner_landings_walks = (refl, refl)

-- ends where nothing has returned
exit_three_calls_deep_walks : Walks exit_three_calls_deep (0 ∷ 2 ∷ 4 ∷ 6 ∷ []) 9 (0 ∷ 2 ∷ 4 ∷ []) 14
unfolding walk_with
exit_three_calls_deep_walks = (refl, refl)

-- falls out of the text
one_nop_walks : Walks one_nop (0 ∷ []) 2 (0 ∷ []) 2
unfolding walk_with
one_nop_walks = (refl, refl)

-- a jump out of the text lands nowhere
jump_to_zero_walks : Walks jump_to_zero (0 ∷ []) 3 (0 ∷ []) 4
unfolding walk_with
jump_to_zero_walks = (refl, refl)

-- a step that ends the run completes no edge
transfer_in_slot_walks : Walks transfer_in_slot (0 ∷ []) 2 [] 6
unfolding walk_with
transfer_in_slot_walks = (refl, refl)
