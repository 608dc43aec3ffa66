-- The names that more than one proof cites, of this crate and of crates below, passed on from one place. Declares nothing.
pub use Rattle.std.proofs.Common.{◌≡◌, arith, ℕ, Some, None, refl, ◌+◌, ◌<◌, ◌∙◌, ap, sym, true, List, suc, length, slice_index, ◌==◌, Bool, Option, false, inl, inr, zero, ◌≤◌, [], if◌then◌else◌, subst, ◌*◌, ◌≢◌, ◌&&◌, ◌-◌, ◌∷◌, slice_index_or, ℤ, nat_lt, not, ◌%◌, ◌^◌, ◌||◌, length-set, map, pos, ◌++◌, get_or-set_other, get_or-set_same, nat_le, slice_set, ◌⊎◌, Err, Ok, Result, bit_or, slice_get}
pub use Rattle.cfg_blocks.proofs.Below.{length-below, get_or-below}
pub use Rattle.cfg_blocks.proofs.Targets.{word_at-some, IsWord}
pub use Rattle.cfg_blocks.specs.Blocks.{last_word, Blocks, holding_of, below, is_among, end_of, size_of}
unfoldable pub use Rattle.cfg_blocks.specs.Blocks.{blocks_of, leaders}
pub use Rattle.cfg_blocks.specs.Ends.{within, end_by, is_transfer, branch_target, Way, always, never, number_of, ways_of}
unfoldable pub use Rattle.cfg_blocks.specs.Ends.{end_at}
pub use Rattle.cfg_blocks.specs.Entries.{Entered, all_entries, entries_from, into_by, is_counted, leads_to, ways_from}
unfoldable pub use Rattle.cfg_blocks.specs.Entries.{entered_of, into_of}
pub use Rattle.cfg_blocks.specs.Switches.{runs_slot, is_taken, bounds, switches_of, sets_codes, approach_of, after_slot, is_table, is_table_at, slot_words, are_targets, before_branch, compare_at, compare_by, compare_of, first_values, is_jump, is_untaken, last_setting, switch_behind, switch_into, switch_on}
unfoldable pub use Rattle.cfg_blocks.specs.Switches.{before_jump, switch_of}
pub use Rattle.cfg_blocks.specs.Values.{instr_at, all_unknown, put, sum_in, value_in, either, either_const, followed, if_zero, loaded_at, operand_in, plus, plus_const, shifted, unknown}
unfoldable pub use Rattle.cfg_blocks.specs.Values.{after}
pub use Rattle.cfg_blocks.specs.declared.BlockEnd.{BlockEnd}
pub use Rattle.cfg_blocks.specs.declared.EdgeKind.{EdgeKind}
pub use Rattle.cfg_blocks.specs.declared.switches.Approach.{Approach}
pub use Rattle.cfg_blocks.specs.declared.switches.Compare.{Compare}
pub use Rattle.cfg_blocks.specs.declared.switches.Switch.{Switch}
pub use Rattle.cfg_blocks.specs.declared.switches.Value.{Value}
pub use Rattle.cfg_blocks.specs.declared.switches.Value.TheVariants.{Index, Place, Unknown, Const, Entry}
pub use Rattle.cfg_normal.specs.Code.{home_of, IsNodeIn, IsTableIn}
pub use Rattle.cfg_normal.specs.Graph.{node_of, Graph, graph_of, directed, is_compared, lands_of}
unfoldable pub use Rattle.cfg_normal.specs.Graph.{edges_in}
pub use Rattle.cfg_normal.specs.Nodes.{same_kind}
pub use Rattle.cfg_normal.specs.Opens.{Open, jumps_in, words_from, is_behind, is_candidate, is_closed, is_entry, loaded_here, loads_by, opened, targets_in, unloaded, with_switch}
unfoldable pub use Rattle.cfg_normal.specs.Opens.{opens_of, targets_of, loads_here, candidate}
pub use Rattle.cfg_normal.specs.declared.Node.{Node}
pub use Rattle.cfg_normal.specs.declared.Node.TheVariants.{Block, Landed, X}
pub use Rattle.cfg_walk.proofs.Addresses.{word_at-address, next_address, next_word}
pub use Rattle.cfg_walk.proofs.Cut.{IsCut, cut, entry_leads}
pub use Rattle.cfg_walk.proofs.Edges.{block, node_at}
pub use Rattle.cfg_walk.proofs.Holding.{some_words, ends_within, is_held, IsIn, Leads, first_held, ends_at_next, ends_at_words, in_held}
pub use Rattle.cfg_walk.proofs.Leaving.{node_is, transfer_ends, end_is, ends_home, straight_left, falls_to, straight_end}
pub use Rattle.cfg_walk.proofs.Lists.{Each, each, each-below, each-flat_map, each-append, each-map, each-then, each_in}
pub use Rattle.cfg_walk.proofs.Nodes.{home_directed, home_of_node, node_in}
pub use Rattle.cfg_walk.proofs.Points.{within_some, Stands, number_of-numbered}
pub use Rattle.cfg_walk.proofs.States.{couples}
pub use Rattle.cfg_walk.proofs.Walks.{live_before, lived_to, first as first_matches, steps_match, walks_match}
pub use Rattle.cfg_walk.proofs.Ways.{same_kinds}
pub use Rattle.cfg_walk.specs.Matches.{FetchesOnly, MatchesBy, BeginsAt, AreOpen, Begins, GoesByCase, IsOnItsWay, IsTarget, JumpsGoByCase, Matches}
pub use Rattle.cfg_walk.specs.Walk.{point_of, node_after, way_of, Point, completed, edge_from, gone, left_at, unless_ended, goes_on_at, slot_left}
unfoldable pub use Rattle.cfg_walk.specs.Walk.{end_of_walk, walk}
pub use Rattle.eel_base.specs.Code.{IsText}
pub use Rattle.eel_base.specs.CodeText.{Words, word_at, address_of, numbered}
pub use Rattle.eel_base.specs.declared.numbers.BlockNo.{BlockNo}
pub use Rattle.eel_base.specs.declared.numbers.WordNo.{WordNo}
pub use Rattle.elf32_sparc.specs.Header.{loadable}
unfoldable pub use Rattle.elf32_sparc.specs.Header.{program_headers, half_at, program_header}
pub use Rattle.elf32_sparc.specs.Mapping.{mapping_of}
unfoldable pub use Rattle.elf32_sparc.specs.Mapping.{mappings}
pub use Rattle.jump_slice.proofs.Parts.{IsJump, switch_of-is, IsSwitch, branch_at, in_list, if_some, switch_at-is, table_in, targets_inside}
pub use Rattle.std.proofs.lemmas.Bool.{false≢true, cases_Bool, cond_both, lt-ltb, eq-eqb, eqb-true, and_parts, cases_eq, cases_lt, leb-true, or_left, or_right, and_from, cases_order, cond-false, cond-true, lt-leb, ltb-false, ltb-true, ne_eqb, or_cases, or_parts}
pub use Rattle.std.proofs.lemmas.Bool.Decides.{nat_tests}
pub use Rattle.std.proofs.lemmas.Grind.{common_steps}
pub use Rattle.std.proofs.lemmas.List.{length-map, append-nil, get_or-map}
pub use Rattle.std.specs.Int.{w32, cast_unsigned, Width, byte_len, from_be_bytes, w8}
pub use Rattle.std.specs.List.{Contains, list_any, filter, find, flat_map}
pub use Rattle.std.specs.Option.{is_some, option_map, option_to_list}
pub use Rattle.switch_runs.specs.Cases.{IsOpenSwitch, ComesFromCompare, HasPassed, steps_to, LoadsEntry, approach_to, IsNumbered, JumpsAreCases, NumbersAreCompared, OpensAreOne, SwitchWalksMatch, SwitchesAreCompared, number_in}
pub use Rattle.switch_runs.specs.Held.{HoldsText, IsFixed, TextIsHeld}
pub use Rattle.switch_runs.specs.Joined.{IsCaseBlock, CaseBlocks, GoesByTable, HasLoad, JumpsGoByTable, StandsAt, StoodFrom}
pub use Rattle.switch_runs.specs.Runs.{to_branch, to_jump, GoesIntoTable, ComesAlong, IsInto, SwitchesHold}
pub use Rattle.v8_alu.specs.Alu.{count_of, keeping, result_of}
unfoldable pub use Rattle.v8_alu.specs.Alu.{alu_of}
unfoldable pub use Rattle.v8_alu.specs.Conditions.{holds_of}
pub use Rattle.v8_alu.specs.Numbers.{wrapped}
pub use Rattle.v8_alu.specs.declared.Codes.{Codes}
pub use Rattle.v8_decode.proofs.Rows.{decoded_range, decoded_pair}
pub use Rattle.v8_decode.specs.declared.Instr.{Instr}
pub use Rattle.v8_decode.specs.declared.Op2.{Op2}
pub use Rattle.v8_memory.specs.Regions.{Memory, Region, covers, all_written, changed, code_of, fetch_from, is_code, read_region, with_heap_end, word_in, written}
unfoldable pub use Rattle.v8_memory.specs.Regions.{bytes_at, fetch_of, with_bytes}
pub use Rattle.v8_process.specs.Start.{program_name, stack_region, start_memory}
unfoldable pub use Rattle.v8_process.specs.Start.{start_of}
pub use Rattle.v8_step.proofs.CopiedMoves.{goes_act}
pub use Rattle.v8_step.proofs.Executable.{code_stays}
pub use Rattle.v8_step.proofs.ValidNumbers.{register_in-range}
pub use Rattle.v8_step.proofs.ValidSteps.{run-valid}
pub use Rattle.v8_step.specs.Accesses.{word_of, exchange_step, load_size, on_bytes, on_memory, store_size, stored}
unfoldable pub use Rattle.v8_step.specs.Accesses.{load_step, ldstub_step, store_step, swap_step}
pub use Rattle.v8_step.specs.Items.{is_transfer as transfers}
pub use Rattle.v8_step.specs.Run.{run}
pub use Rattle.v8_step.specs.State.{State, register_of, sum_of, operand_of}
pub use Rattle.v8_step.specs.Step.{on_word}
unfoldable pub use Rattle.v8_step.specs.Step.{act, step_of, alu_step}
pub use Rattle.v8_step.specs.Transfers.{branched, unless_couple, target_of, delayed, ended, next}
unfoldable pub use Rattle.v8_step.specs.Transfers.{branch_step, jump_step, call_step}
pub use Rattle.v8_step.specs.Valid.{IsValid}
pub use Rattle.v8_step.specs.declared.Ending.{Ending}
pub use Rattle.v8_step.specs.declared.Ending.TheVariants.{Couple, Trap}
pub use Rattle.v8_step.specs.declared.Slot.{Slot}
pub use Rattle.v8_step.specs.declared.Slot.TheVariants.{NoSlot, Taken, Untaken}
pub use Rattle.v8_windows.proofs.Places.{register_in-other, length-register_set, register_in-set}
pub use Rattle.v8_windows.specs.Registers.{register_in, register_set, place_of}
