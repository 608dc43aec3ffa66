-- A run of a small program that comes to the jump of its switch, and the walk of it: they compute.
use Rattle.switch_runs.proofs.Common.{[], ◌∷◌, ◌≡◌, refl, false, Some, blocks_of, leaders, end_at, entered_of, into_of, Entered, after, before_jump, switch_of, switches_of, approach_of, Compare, candidate, loads_here, opens_of, targets_of, Graph, edges_in, graph_of, alu_of, holds_of, half_at, program_header, program_headers, mappings, bytes_at, fetch_of, with_bytes, branch_step, load_step, act, alu_step, step_of, run, end_of_walk, walk, start_of, IsInto, ComesAlong}
use Rattle.v8_decode.specs.Words.{decode_of, branch_or_sethi, arithmetic, memory}
use Rattle.cfg_blocks.specs.declared.EdgeKind.TheVariants.{Untaken}
use Rattle.elf32_sparc.specs.Header.{word_at}
use Rattle.v8_process.proofs.Programs.{switch_of_four, file_of, after as run_after}
use Rattle.jump_slice.proofs.Examples.{text_in}

abbrev compare : Compare
compare = record { word = 1; register = 8; limit = 3 }

abbrev list : Entered
list = entered_of (text_in switch_of_four) (0 ∷ [])

pub into : IsInto (text_in switch_of_four) list 2 (record { 0 = 0 }) Untaken 12 false compare
unfolding decode_of branch_or_sethi arithmetic memory blocks_of leaders end_at entered_of into_of
into = record { target = Some (record { 0 = 14 }); edge = refl; branch = refl; sets = refl }

comes : ComesAlong (text_in switch_of_four) (approach_of (text_in switch_of_four) list.blocks 2 0 false Untaken compare)
    12 false Untaken (run (start_of (file_of switch_of_four) [] []) 1)
unfolding decode_of branch_or_sethi arithmetic memory blocks_of leaders end_at entered_of into_of start_of half_at word_at program_header program_headers mappings step_of act alu_step branch_step load_step alu_of holds_of fetch_of bytes_at with_bytes
comes = record { compares = refl; goes = refl; live = refl }

-- ---- the walk over the graph with its open switch: the branch isn't taken, the jump goes by case, and the block of its
-- target falls into the last one

unfoldable graph : Graph
unfolding decode_of branch_or_sethi arithmetic memory blocks_of leaders end_at entered_of into_of after before_jump switch_of loads_here targets_of candidate opens_of edges_in
graph = graph_of list.blocks (opens_of (text_in switch_of_four) list (switches_of (text_in switch_of_four) list 0))

four_walk : walk (text_in switch_of_four) graph 0 (start_of (file_of switch_of_four) [] []) 12 ≡ 1 ∷ 4 ∷ 6 ∷ []
unfolding graph decode_of branch_or_sethi arithmetic memory start_of half_at word_at program_header program_headers mappings run_after walk end_of_walk
four_walk = refl
