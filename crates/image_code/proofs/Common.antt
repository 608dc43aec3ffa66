-- The names that more than one proof cites, of this crate and of crates below, passed on from one place. Declares nothing.
pub use Rattle.std.proofs.Common.{◌≡◌, ℕ, List, Some, ◌∙◌, ap, arith, refl, sym, ◌<◌, [], ◌+◌, ◌∷◌, length, None, Bool, false, slice_index, true, Option, slice_get, ◌++◌, ◌≤◌, subst, suc, ◌==◌, if◌then◌else◌, inl, inr, ◌-◌, ◌^◌, ◌≢◌, map, ◌%◌, ◌*◌, zero, append-nil, take, eq-eqb, nat_lt, ℤ, ◌&&◌, ◌⊎◌, eqb-true, length-append, append_assoc, ltb-true, cond, lt-ltb, length-take, ne_eqb, get_or, le-ltb, slice_index_or, Result, not, pos, Err, Ok, add-zero, zero-add, add-mul, add-one, add_assoc, mul-le-mul_left, mul-le-mul_right, mul_left_comm, nat_eq}
pub use Rattle.addr_translate.specs.Halves.{found_in}
pub use Rattle.addr_translate.specs.Lookup.{table_word, IsTable, TableAt}
pub use Rattle.cfg_blocks.proofs.Below.{get_or-below, length-below}
pub use Rattle.cfg_blocks.proofs.Targets.{word_at-some, targets_within}
pub use Rattle.cfg_blocks.specs.Blocks.{Blocks, below, block_end, end_of, holding_of, last_word, size_of, is_among}
unfoldable pub use Rattle.cfg_blocks.specs.Blocks.{blocks_of}
pub use Rattle.cfg_blocks.specs.Ends.{Way, always, end_at, is_transfer as ends_block_after, never, number_of, way, ways_of, within, end_by, branch_target, is_transfer as transfers, target_in}
pub use Rattle.cfg_blocks.specs.Entries.{is_fall, Entered, ways_from}
unfoldable pub use Rattle.cfg_blocks.specs.Entries.{entered_of}
pub use Rattle.cfg_blocks.specs.Switches.{is_jump, after_slot, switch_of, switches_of, runs_slot}
unfoldable pub use Rattle.cfg_blocks.specs.Switches.{before_jump}
pub use Rattle.cfg_blocks.specs.declared.BlockEnd.{BlockEnd}
pub use Rattle.cfg_blocks.specs.declared.EdgeKind.{EdgeKind}
pub use Rattle.cfg_blocks.specs.declared.switches.Switch.{Switch}
pub use Rattle.cfg_blocks.specs.declared.switches.Value.{Value}
pub use Rattle.cfg_normal.proofs.Cases.{same_itself}
pub use Rattle.cfg_normal.proofs.GraphFacts.{edges_of-few, flat_few, targets_few, total_flat, total_le, ways_out-few}
unfoldable pub use Rattle.cfg_normal.proofs.GraphFacts.{entries_of, total}
pub use Rattle.cfg_normal.specs.Code.{IsEdgeIn, IsGraph, IsNodeIn, IsSlotIn, home_of, AreOne, AreOpenIn, IsOpenIn, IsTableIn, edges_but_landings, jump_number}
pub use Rattle.cfg_normal.specs.Graph.{Graph, directed, edge_of, graph_of, has_cases, is_compared, lands, node_of, landings_of}
unfoldable pub use Rattle.cfg_normal.specs.Graph.{edges_in}
pub use Rattle.cfg_normal.specs.Nodes.{same_kind, same_node}
pub use Rattle.cfg_normal.specs.Numbers.{node_number, node_numbers, kind_number}
pub use Rattle.cfg_normal.specs.Opens.{Open, compares_in, is_copied, jumps_in, targets_in}
pub use Rattle.cfg_normal.specs.declared.Edge.{Edge}
pub use Rattle.cfg_normal.specs.declared.Node.{Node}
pub use Rattle.cfg_normal.specs.declared.Node.TheVariants.{Block, Landed, X}
pub use Rattle.cfg_normal.specs.declared.Slot.{Slot as Carried}
pub use Rattle.cfg_walk.proofs.Addresses.{next_word, word_at-address, second_address}
pub use Rattle.cfg_walk.proofs.Cut.{IsCut, cut}
pub use Rattle.cfg_walk.proofs.Edges.{block, copy, same_nodes, number_of_list}
pub use Rattle.cfg_walk.proofs.Holding.{IsIn, ends_within, in_held, is_held, some_words, ends_at_next, ends_at_words, first_held}
pub use Rattle.cfg_walk.proofs.Leaving.{end_is, is_in, node_is, straight_left, transfer_ends, way_found, end_here, ends_home, falls_to, no_cases, node_within, straight_end}
pub use Rattle.cfg_walk.proofs.Lists.{Each, each, each-append, each-below, each-map, each-then, each_at, each-flat_map, each_in}
pub use Rattle.cfg_walk.proofs.Nodes.{lands_as, home_lands, lands_in}
pub use Rattle.cfg_walk.proofs.NoneOpen.{edge_lies_in, edges_lie_in}
pub use Rattle.cfg_walk.proofs.Points.{Stands, jumps_along, jumps_to, passes, quiet}
pub use Rattle.cfg_walk.proofs.Slots.{jump_lands, LeadsIfThere}
pub use Rattle.cfg_walk.proofs.Transfers.{jump_delayed, call_delayed, taken_delayed, untaken_delayed}
pub use Rattle.cfg_walk.proofs.Walks.{lived_to}
pub use Rattle.cfg_walk.proofs.Ways.{IsOne, always_holds, same_kinds, IsOwn, ways_are_own, fall_is_one, never_holds, not_always, not_never, taken_is_one, untaken_is_one}
pub use Rattle.cfg_walk.specs.Matches.{IsOnItsWay, IsTarget, MatchesBy, last_in, target_along, Matches, Begins, way_address, AreOpen, IsCarried}
pub use Rattle.cfg_walk.specs.Walk.{Point, WayOut, edge_along, edge_from, ends_block, gone, instr_at, landed, landing_at, leads_along, left_by, node_after, point_of, slot_left, unless_ended, way_of, completed, left_along, left_at, landing_at as edge_landing, by_kind, way_to}
pub use Rattle.code_runs.proofs.Acts.{step_is}
pub use Rattle.code_runs.proofs.Counted.{count_add, no_stores, none_then, count_one, ends_stores, uncounted_span}
pub use Rattle.code_runs.proofs.Leads.{leads_one, leads_then, leads_weaker, puts_add, leads_none, silent_none, silent_then}
pub use Rattle.code_runs.proofs.Ours.{outside_refl, outside_trans, ours_are_stored, ours_stay}
pub use Rattle.code_runs.proofs.PointsAlike.{no_puts as quiet_transfer}
pub use Rattle.code_runs.proofs.Stays.{loads_there, stores_there, words_stay, region_of_word, there_written}
pub use Rattle.code_runs.proofs.StoredWords.{other_word_stored, still_stored, memory_word-range, other_loaded}
pub use Rattle.code_runs.proofs.Stores.{stores_none, stores_then, each-weaker}
pub use Rattle.code_runs.specs.Code.{AllAt, CanStore, Stores, store_all, any_of_word}
unfoldable pub use Rattle.code_runs.specs.Code.{store_word}
pub use Rattle.code_runs.specs.Counted.{count_stores, one_if, stores_at}
pub use Rattle.code_runs.specs.Hops.{hopped, Hops}
pub use Rattle.code_runs.specs.Leads.{IsBetween, IsSilent, Leads}
pub use Rattle.code_runs.specs.LongJump.{IsFirstWord, long_jump}
pub use Rattle.code_runs.specs.Ours.{HasWordAt, IsAmongWords, IsOurs}
pub use Rattle.code_runs.specs.Page.{page_word}
pub use Rattle.code_runs.specs.Points.{moved}
pub use Rattle.code_runs.specs.StoredWords.{memory_word}
pub use Rattle.code_runs.specs.Straight.{HasWords, StandIn, Says}
pub use Rattle.eel_base.specs.Code.{IsText}
pub use Rattle.eel_base.specs.CodeText.{Words, address_of, word_at}
pub use Rattle.eel_base.specs.declared.numbers.Addr.{Addr}
pub use Rattle.eel_base.specs.declared.numbers.BlockNo.{BlockNo}
pub use Rattle.eel_base.specs.declared.numbers.PieceNo.{PieceNo}
pub use Rattle.eel_base.specs.declared.numbers.WordNo.{WordNo}
pub use Rattle.image_code.specs.Codes.{CodeDoes}
pub use Rattle.image_code.specs.Cost.{in_first_word, is_jmpl, is_out, is_spill, is_transfer_at, IsWatched, limit_by, NoneIsOut, spills_on}
pub use Rattle.image_code.specs.Fit.{AreFit, AreShort, is_mark, marks_in, operations_from, operations_in, PiecesFit, PlacesSay}
pub use Rattle.image_code.specs.Graphs.{case_table, IsGraphOf, opens_in}
pub use Rattle.image_code.specs.Images.{AtPointBy, AtVisit, EditorData, HasImages, HasNoCases, IsBeside, IsPlaced, Pieces, place_by, slot_piece}
pub use Rattle.image_code.specs.Keeping.{AreCaseTables}
pub use Rattle.image_code.specs.Labels.{along_case, along_number, Case, case_numbers, case_piece, cases_of, enter_number, entering, entry_label, entry_labels, first_entry, Foreign, foreign_number, Image, image_number, Label, Landing, landing_number, node_in_order, or_zero, same_label, switch_at, switch_labels, way_piece}
unfoldable pub use Rattle.image_code.specs.Labels.{piece_labels}
pub use Rattle.image_code.specs.Loads.{first_operand, is_place, loads_by, or_first, second_operand}
unfoldable pub use Rattle.image_code.specs.Loads.{load_of}
pub use Rattle.image_code.specs.Lookups.{AreFirstEdges, AreFirstImages, AreFound, AreLookups, AreSwitchesNoted, block_of, first_mark, image_after, image_noted, is_case, is_edge_at, is_land, is_load, IsReached, IsSource, IsWordOf, loads_at, mark_at, mark_of, node_of_edge, number_where, open_begin, or_word, pieces_of, place_in_order, same_case, saved_before, saved_by, StandsInText}
unfoldable pub use Rattle.image_code.specs.Lookups.{load_after}
pub use Rattle.image_code.specs.Made.{distance_of, first_word, image, image_by, jumps_at, lands_at, next_at, nop_word, piece_list, PiecesMakeImages, save_by, shape_of, way_along, way_by, way_out, way_shape}
unfoldable pub use Rattle.image_code.specs.Made.{shape_list}
pub use Rattle.image_code.specs.Outside.{IsOffPages}
pub use Rattle.image_code.specs.Private.{code_at, pieces_for, words_in}
pub use Rattle.image_code.specs.Shapes.{Shape, assembled, bare, couple_word, exit_items, goes_to, head_items, items_of, leaves_to, mark_items, marked}
pub use Rattle.image_code.specs.Simulates.{at_point, CaseTable, Chooses, does_at, EditSetup, gone_at, graph_in, IsAtWord, IsChosen, IsFollowedBy, IsKept, IsNoLoad, IsOnWay, IsThere, MatchesIn, number_in, Steps, StepsOn}
unfoldable pub use Rattle.image_code.specs.SnippetWords.{codes_of}
pub use Rattle.image_code.specs.Store.{cells_in, operations_on, snippet_on, updates}
pub use Rattle.image_code.specs.declared.shape.Exit.{Exit}
pub use Rattle.image_code.specs.declared.shape.Head.{Head}
pub use Rattle.image_code.specs.declared.shape.SourceWord.{SourceWord as OfWord, SourceWord}
pub use Rattle.indexmap.specs.IndexMap.{get}
pub use Rattle.jump_code.proofs.FindFollowing.{goes, look_up_simulates, resume_hops}
pub use Rattle.jump_code.proofs.Fitting.{Fit, words_mean, find_fits, link_fits, lt, long_jump_fits}
pub use Rattle.jump_code.specs.Choosing.{choice_at, switch_jump, jump_by_case, ComesToCase, IsAboutToChoose, chosen}
pub use Rattle.jump_code.specs.Finding.{translate_target, jump_translated, find_words, IsAboutToFind, found_memory}
pub use Rattle.jump_code.specs.FreeRegister.{IsApart, free_register, other_register, second_register, first_free, is_one_of_four, next_free, IsNotIn}
pub use Rattle.jump_code.specs.Jumped.{jumped}
pub use Rattle.jump_code.specs.Keeping.{save_load_address, SavesLoadAddress, kept_memory}
pub use Rattle.jump_code.specs.Leaving.{foreign}
pub use Rattle.jump_code.specs.Links.{link, past, IsAboutToCall}
pub use Rattle.jump_code.specs.PageWords.{IsPageWord, saved_address, found_there, waiting}
pub use Rattle.jump_code.specs.Pieces.{word_items}
pub use Rattle.layout.proofs.Going.{branches_hop, jumps_hop, stays, taken_acts}
pub use Rattle.layout.specs.Emitting.{words_of}
pub use Rattle.layout.specs.Laid.{LeadsBelow, Placement, item_at, item_in, items_in, nop, open_from, open_in, piece_words, range_in, range_of, IsMarked, HasShortForms}
pub use Rattle.layout.specs.Running.{CanRun, HasCode, Goes}
pub use Rattle.layout.specs.declared.items.Item.{Item}
pub use Rattle.line_words.proofs.Steps.{mapped}
pub use Rattle.liveness.specs.Sets.{dead_on}
pub use Rattle.notes.specs.Format.{NoteRange, Notes, node_at, range_at, NoteSegment, holds}
pub use Rattle.snippet_code.specs.Cells.{cell_at, words_at}
pub use Rattle.snippet_code.specs.Code.{kept_word}
pub use Rattle.snippet_code.specs.Runs.{DoesJust, IsAboutToRun, MayStore}
pub use Rattle.snippet_code.specs.Spills.{spills_of}
pub use Rattle.snippets.specs.Cells.{named_by}
pub use Rattle.snippets.specs.declared.snippet.Op.{Op}
pub use Rattle.std.proofs.Math.Bool.{and-false, and-true, or-false}
pub use Rattle.std.proofs.Math.Logic.{∥∥₁_elim}
pub use Rattle.std.proofs.Math.Seq.{take-append_seam, take-length, drop-append_seam}
pub use Rattle.std.proofs.lemmas.Bool.{and_parts, cases_Bool, cases_eq, cases_lt, cond_both, false_from_ne_true, false≢true, or_right, and_right, or_parts}
pub use Rattle.std.proofs.lemmas.Bool.Decides.{nat_tests}
pub use Rattle.std.proofs.lemmas.Grind.{flat_map-append}
pub use Rattle.std.proofs.lemmas.List.{get_or-map, length-map, map-append, nil_from_length, take_more, get_or_default, get_or-set_same, get_or-set_other, take_all, length-set}
pub use Rattle.std.proofs.lemmas.List.Folds.{find_at, fold-map, list_any-append, Any-from_list_any, list_any_at}
pub use Rattle.std.proofs.lemmas.List.FromFn.{get_or-map-range_with_len, get_or-range_with_len, length-map-range_with_len, length-range_with_len, map-range_with_len_more, get_or-enumerate_from, length-enumerate_from}
pub use Rattle.std.proofs.lemmas.List.Quantifiers.{position-Some}
pub use Rattle.std.proofs.lemmas.List.Sums.{sum_by-append, sum_by-cons, sum_by-le, count_by-le-length, length-filter, sum_by_more, fails_before_first, passes_at_first, position_or_len_is}
pub use Rattle.std.proofs.lemmas.Option.{get_or_from_slice_get, slice_get-get_or, slice_get-map, slice_get_within, slice_get_past, same_Some}
pub use Rattle.std.specs.Coded.{Coded-set, coded_bool, coded_list, coded_ℕ, le_prop, Unit-prop, ×_prop}
pub use Rattle.std.specs.Int.{w32, cast_unsigned, to_be_bytes}
pub use Rattle.std.specs.List.{All, Contains, count_by, find, flat_map, list_any, position, position_or_len, range_with_len, sum_by, enumerate_from, filter}
pub use Rattle.std.specs.Option.{is_some, option_map, option_or, option_to_list}
pub use Rattle.std.specs.Result.{IfOk}
pub use Rattle.switch_runs.proofs.About.{about, in_targets}
pub use Rattle.switch_runs.proofs.Opened.{opens_are, are_open}
pub use Rattle.switch_runs.specs.Cases.{IsOpenSwitch, LoadsEntry, approach_to}
pub use Rattle.switch_runs.specs.Joined.{IsCaseBlock}
pub use Rattle.two_runs.specs.Visits.{in_pages, pages_of, visit_of, page_of}
pub use Rattle.v8_alu.specs.Conditions.{holds_of}
pub use Rattle.v8_alu.specs.Numbers.{wrapped}
pub use Rattle.v8_decode.proofs.Rows.{decoded_range}
pub use Rattle.v8_decode.specs.Ranges.{op2_in_range, operands_in_range, is_in_range}
pub use Rattle.v8_decode.specs.Words.{field, rd_of, op3_of, op2_rows, arithmetic_rows, memory_rows, call, load, store, read_state, write_state, even_rd}
unfoldable pub use Rattle.v8_decode.specs.Words.{branch_or_sethi, decode_of, arithmetic, memory}
pub use Rattle.v8_decode.specs.declared.Instr.{Instr}
pub use Rattle.v8_decode.specs.declared.Op2.{Op2}
pub use Rattle.v8_encode.specs.Code.{op2_fits}
pub use Rattle.v8_encode.specs.Encoding.{word_of}
pub use Rattle.v8_memory.specs.Code.{IsSameOutside}
pub use Rattle.v8_memory.specs.Regions.{Memory, code_of, fetch_from}
unfoldable pub use Rattle.v8_memory.specs.Regions.{fetch_of}
pub use Rattle.v8_memory.specs.Spans.{AllApart}
pub use Rattle.v8_step.proofs.CopiedMoves.{goes_act}
pub use Rattle.v8_step.proofs.Live.{live_puts}
pub use Rattle.v8_step.proofs.ValidSteps.{run-valid}
pub use Rattle.v8_step.specs.Accesses.{store_size}
unfoldable pub use Rattle.v8_step.specs.Accesses.{ldstub_step, store_step, swap_step, load_step}
pub use Rattle.v8_step.specs.Items.{IsSameAt, StateItem, is_transfer, IsItem}
pub use Rattle.v8_step.specs.Judged.{judged_by}
pub use Rattle.v8_step.specs.Run.{run, run_puts}
pub use Rattle.v8_step.specs.State.{State, register_of, sum_of, with_register}
pub use Rattle.v8_step.specs.Step.{on_word, puts_on_word, trap_number}
unfoldable pub use Rattle.v8_step.specs.Step.{act, puts_by, puts_of, step_of, alu_step}
pub use Rattle.v8_step.specs.Transfers.{branched, delayed, target_of, trapped, unless_couple, ended, target_of as target_from}
unfoldable pub use Rattle.v8_step.specs.Transfers.{branch_step, call_step, jump_step}
pub use Rattle.v8_step.specs.Traps.{mem_address_not_aligned, instruction_access_exception}
pub use Rattle.v8_step.specs.Valid.{IsValid}
pub use Rattle.v8_step.specs.declared.Ending.{Ending}
pub use Rattle.v8_step.specs.declared.Ending.TheVariants.{Couple}
pub use Rattle.v8_step.specs.declared.Slot.{Slot}
pub use Rattle.v8_step.specs.declared.Slot.TheVariants.{NoSlot, Taken, Untaken}
