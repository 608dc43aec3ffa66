-- The names that more than one proof cites, of this crate and of crates below, passed on from one place. Declares nothing.
pub use Rattle.std.proofs.Common.{All, Bool, List, None, Option, Some, [], ap, append-nil, arith, cond, drop, false, get_or, if◌then◌else◌, inl, inr, length, length-append, map, min, nat_eq, nat_le, nat_lt, not, refl, replicate, slice_index, subst, suc, sym, take, true, zero, ℕ, ◌%◌, ◌&&◌, ◌*◌, ◌++◌, ◌+◌, ◌-◌, ◌<◌, ◌==◌, ◌^◌, ◌∙◌, ◌∷◌, ◌≡◌, ◌≢◌, ◌≤◌, ◌⊎◌, filter, Err, Contains, position, max}
pub use Rattle.std.specs.Prelude.{slice_get, bit_and}
pub use Rattle.addr_translate.specs.Halves.{IsHalvesOf, halves_size, found_in}
pub use Rattle.addr_translate.specs.Lookup.{TableAt}
unfoldable pub use Rattle.addr_translate.specs.Lookup.{table_word}
pub use Rattle.addr_translate.specs.Table.{IsTableOf, size_of, target_of}
pub use Rattle.byteorder.specs.Endian.{big_bytes, big_number}
pub use Rattle.byteorder.specs.Numbers.{big_number-reads_back, length-bytes_high_first}
pub use Rattle.cfg_blocks.proofs.Targets.{word_at-some}
pub use Rattle.cfg_blocks.specs.Blocks.{Blocks, below, blocks_of, holding_of, is_among, last_word, end_of}
pub use Rattle.cfg_blocks.specs.Code.{AreFirsts, IsAscending}
unfoldable pub use Rattle.cfg_blocks.specs.Entries.{entered_of}
pub use Rattle.cfg_blocks.specs.Marks.{numbers}
pub use Rattle.cfg_blocks.specs.declared.EdgeKind.{EdgeKind}
pub use Rattle.cfg_normal.specs.Code.{IsEdgeIn, IsGraph, IsNodeIn}
pub use Rattle.cfg_normal.specs.Graph.{Graph, edges_in, graph_of, lands, node_of, has_cases}
pub use Rattle.cfg_normal.specs.Nodes.{same_kind, same_node}
pub use Rattle.cfg_normal.specs.Numbers.{is_node, node_number, kind_number}
pub use Rattle.cfg_normal.specs.Opens.{Open, is_copied, jumps_in, compares_in, targets_in}
pub use Rattle.cfg_normal.specs.declared.Edge.{Edge}
pub use Rattle.cfg_normal.specs.declared.Node.{Node}
pub use Rattle.cfg_normal.specs.declared.Node.TheVariants.{Block, Landed, X}
pub use Rattle.cfg_view.specs.View.{Seen}
unfoldable pub use Rattle.cfg_view.specs.View.{view_of}
pub use Rattle.cfg_walk.proofs.Cut.{cut, IsCut, entry_leads}
pub use Rattle.cfg_walk.proofs.Edges.{block, block as block_at, copy, each_edge}
pub use Rattle.cfg_walk.proofs.Holding.{first_held, in_held}
pub use Rattle.cfg_walk.proofs.Leaving.{node_is}
pub use Rattle.cfg_walk.proofs.Lists.{Each, each, each-append, each-then, each-below, each-flat_map, each-map, each_at}
pub use Rattle.cfg_walk.proofs.Walks.{live_before, lived_to, walks_match}
pub use Rattle.cfg_walk.specs.Matches.{BeginsAt, FetchesOnly}
pub use Rattle.cfg_walk.specs.Walk.{Point, goes_on_at, gone, gone_in, instr_at, node_after, point_of, unless_ended}
unfoldable pub use Rattle.cfg_walk.specs.Walk.{end_of_walk}
unfoldable pub use Rattle.code_runs.specs.StoredWords.{memory_word}
pub use Rattle.edit_core.specs.Code.{EditsAreUntouched, EditsCrashAlike, EditsDoTheSame, GrantedRunsAreAlike, IsEdited}
pub use Rattle.edit_core.specs.Cost.{is_before_jump, LoadsNoEntry, IsWithinBound, short_bound}
pub use Rattle.edit_core.specs.Dead.{AreDead}
pub use Rattle.edit_core.specs.Faithful.{cell_noted, editor_page, HasGraph, HasPages, IsFaithful, IsInRoom, IsPlace, note_edge, note_edge as note_edge_of, note_edges, note_edges as note_edges_of, note_of, page_size, tool_number, word_mapped}
pub use Rattle.edit_core.specs.Private.{AreInside, AreLaid, AreMade, case_key, count_of, entries_with, HasRoom, is_entry, IsBuilt, IsViewOf, placement_in, plan_of, same_key}
pub use Rattle.edit_core.specs.Runs.{AreTogether, GoesByTable, instr_in, JumpsGoByTable, KeepsLoaded, limits_in, Linked, RunFacts, Spares}
pub use Rattle.edit_core.specs.RunsAlike.{EndsAtNode, IsMatched, IsStop, TellsStep, visits_by}
pub use Rattle.edit_core.specs.Taken.{bound_in, bound_of, CanEdit, counted_on, operations_on}
pub use Rattle.edit_core.specs.Whole.{Answered, EditsAnswer, KeepsWhatLives, KeptIn}
pub use Rattle.edit_core.specs.Written.{addr, AreTablesOf, case_places, cases_at, cases_table, cells_at, cells_base, cells_size, code_base, code_segment, if_any, is_behind, is_off, IsEdit, IsWorkable, landings_of, off_range, off_ranges, page_segment, second_table, segment_noted, table_after, table_at, tables_size, TablesMatch, whole_pages}
unfoldable pub use Rattle.edit_core.specs.Written.{IsTheEdit}
pub use Rattle.edit_core.specs.declared.requests.CaseKey.{CaseKey}
pub use Rattle.edit_core.specs.declared.requests.Request.{Request}
pub use Rattle.eel_base.specs.Code.{IsText}
pub use Rattle.eel_base.specs.CodeText.{Words, address_of, word_at}
pub use Rattle.eel_base.specs.declared.numbers.Addr.{Addr}
pub use Rattle.eel_base.specs.declared.numbers.PieceNo.{PieceNo}
pub use Rattle.eel_base.specs.declared.numbers.WordNo.{WordNo}
pub use Rattle.elf32_sparc.proofs.Accepted.{accepted, Accepted, IsFit, has_text, text_is_fit}
pub use Rattle.elf32_sparc.proofs.Images.{accepted-program}
pub use Rattle.elf32_sparc.proofs.Loadable.{loadable_file, loads_inside}
pub use Rattle.elf32_sparc.specs.FileFault.{fault, is_last_page, leaves_room, load_fault}
unfoldable pub use Rattle.elf32_sparc.specs.FileFault.{has_memory_outside_a_run}
pub use Rattle.elf32_sparc.specs.Header.{has_flag, loadable, program_headers, text_header}
pub use Rattle.elf32_sparc.specs.Image.{Program, highest_end, segment_of, segment_end}
unfoldable pub use Rattle.elf32_sparc.specs.Image.{image_of}
pub use Rattle.elf32_sparc.specs.Mapping.{Mapping, mapping_of}
unfoldable pub use Rattle.elf32_sparc.specs.Mapping.{mappings}
pub use Rattle.elf32_sparc.specs.declared.header.ProgramHeader.{ProgramHeader}
pub use Rattle.elf32_write.proofs.WordsBytes.{length-words_bytes, length-flat_map}
pub use Rattle.elf32_write.specs.Headers.{AddedSegment, segment_seen as segment_added}
pub use Rattle.elf32_write.specs.Kept.{is_code, kept, not_executable}
unfoldable pub use Rattle.elf32_write.specs.Kept.{words_bytes}
pub use Rattle.elf32_write.specs.Laws.{mapping_added}
pub use Rattle.image_code.proofs.CaseTables.{are_tables, table_of}
pub use Rattle.image_code.proofs.Fit.{pieces_fit, piece_shaped, places_say}
pub use Rattle.image_code.proofs.Listed.{count_is, foreign_stands, shape_at}
pub use Rattle.image_code.proofs.Made.{pieces_make_images}
pub use Rattle.image_code.proofs.OpenBlocks.{text_graph, are_open, is_list}
pub use Rattle.image_code.proofs.OpenNumbers.{each_index, enter_below}
pub use Rattle.image_code.proofs.Opened.{cased, load_is, load_passes}
pub use Rattle.image_code.proofs.Positions.{any_at, contains, found_in_range}
pub use Rattle.image_code.specs.Copies.{is_at, copies_of, targets_from}
pub use Rattle.image_code.specs.Fit.{AreFit, PiecesFit, PlacesSay, operations_from, operations_in, AreShort, is_mark, marks_in}
pub use Rattle.image_code.specs.Graphs.{IsGraphOf, opens_in, case_table}
pub use Rattle.image_code.specs.Images.{AtVisit, EditorData, HasTable, IsEditorData, IsTableIn, IsBeside, IsPlaced, Pieces}
pub use Rattle.image_code.specs.Labels.{case_numbers, or_zero, Foreign, number_of as piece_number, cases_of, enter_number, image_number, foreign_number}
pub use Rattle.image_code.specs.Made.{lands_at, piece_list, AreCasesFor, jumps_at, shape_list, IsOffNoted, IsTableFor, PiecesMakeImages, pieces_in}
pub use Rattle.image_code.specs.Outside.{IsOffPages}
pub use Rattle.image_code.specs.Simulates.{CaseTable, EditSetup, IsAtWord, IsNoLoad, IsThere, edit_in, graph_in, number_in, KeepsAddress, MatchesIn, StepsOn, at_point, does_at, word_of, IsKept}
unfoldable pub use Rattle.image_code.specs.SnippetWords.{codes_of}
pub use Rattle.image_code.specs.Store.{cells_in, snippet_on, store_of, updates}
pub use Rattle.indexmap.specs.IndexMap.{get}
pub use Rattle.layout.proofs.Needed.{long_is_enough, short_is_enough}
pub use Rattle.layout.proofs.Ranging.{ends_by}
pub use Rattle.layout.specs.Laid.{Ascend, HasShortForms, IsLaid, IsRangeOf, Placement, item_at, long_bytes, range_in, IsWordAt, ArePieces, item_in, items_in, range_of, open_in, end_from}
pub use Rattle.layout.specs.declared.items.Item.{Item}
pub use Rattle.liveness.specs.Live.{IsLiveOn, edge_at, is_call_or_jump, is_outside, is_unknown, named_on}
pub use Rattle.liveness.specs.Sets.{dead_on, AreLive, Live, edge_set}
pub use Rattle.notes.specs.Code.{edge_seen, segment_seen}
pub use Rattle.notes.specs.Format.{NoteRange, NoteSegment, Notes, holds, node_at, range_at, NoteEdge, follows}
pub use Rattle.notes.specs.Rules.{AreNotes, are_ranges, are_segments, are_blocks, are_edges, is_edge, is_free}
pub use Rattle.notes.specs.Written.{notes_words}
unfoldable pub use Rattle.notes.specs.Written.{notes_bytes, words_bytes as note_bytes}
pub use Rattle.snippet_code.specs.Cells.{cell_at, words_at}
pub use Rattle.snippets.specs.Cells.{WorksBelow, WorksIn, named_by, read_by, update}
pub use Rattle.snippets.specs.Ops.{cells_end, cell_of}
pub use Rattle.snippets.specs.declared.snippet.Op.{Op}
pub use Rattle.snippets.specs.declared.snippet.Op.TheVariants.{Count, Log}
pub use Rattle.std.proofs.Math.Seq.{drop-append_seam, ext_get_or, take-append_seam}
pub use Rattle.std.proofs.lemmas.Bool.{and_from, and_parts, cases_Bool, cases_lt, cond_both, eq-eqb, eqb-true, false_from_ne_true, false≢true, le-leb, le-ltb, lt-leb, lt-ltb, or_left, or_parts, or_right, ne_eqb, or_cases, cases_eq}
pub use Rattle.std.proofs.lemmas.Bool.Decides.{nat_tests}
pub use Rattle.std.proofs.lemmas.Grind.{get_or_default_zero}
pub use Rattle.std.proofs.lemmas.List.{append_assoc, get_or-map, get_or_past, length-map, length-replicate, map-append, drop-drop, drop-take, take-take, drop-replicate, length-drop, take-replicate, get_or-replicate}
pub use Rattle.std.proofs.lemmas.List.Folds.{find-append, list_any-append}
pub use Rattle.std.proofs.lemmas.List.FromFn.{get_or-map-range_with_len, length-map-range_with_len, length-range_with_len}
pub use Rattle.std.proofs.lemmas.List.Sums.{count_by-le-length, sum_by-cons, sum_by_more, sum_by-append}
pub use Rattle.std.proofs.lemmas.Nat.{and_assoc, from_be_bytes-to_be_bytes_4, mul-le}
pub use Rattle.std.proofs.lemmas.Option.{get_or_from_slice_get, slice_get_within, slice_get-map, slice_get-get_or}
pub use Rattle.std.proofs.lemmas.Simd.{map-map}
pub use Rattle.std.specs.Int.{from_be_bytes, w32}
pub use Rattle.std.specs.List.{count_by, find, flat_map, list_any, range_with_len, sum_by, fold}
pub use Rattle.std.specs.Option.{option_map, option_map_or, option_to_list}
pub use Rattle.switch_runs.specs.Cases.{LoadsEntry}
pub use Rattle.switch_runs.specs.Held.{HoldsText}
pub use Rattle.tool_kit.specs.Good.{IsGood}
pub use Rattle.tool_kit.specs.Plans.{AreCounters, Plan}
pub use Rattle.tool_kit.specs.declared.edge_ref.ToolKind.{ToolKind}
pub use Rattle.two_runs.proofs.Stays.{step_stays, ended_stays}
pub use Rattle.two_runs.specs.Follows.{IsWay}
pub use Rattle.two_runs.specs.Needed.{IsUntouched, WritesIn}
pub use Rattle.two_runs.specs.TwoRuns.{Answers, Ends, IsLeast, HasSameOutside, Matches}
pub use Rattle.two_runs.specs.Visits.{own_trail, pages_of, trail_of, visit_of, page_of}
pub use Rattle.v8_decode.proofs.Marks.{has-members_at, same_sets, set_of-members}
pub use Rattle.v8_decode.proofs.Members.{has-every_part, has-members, is_same-self}
pub use Rattle.v8_decode.specs.Parts.{has, is_member, set_of}
unfoldable pub use Rattle.v8_decode.specs.Parts.{every_part, members}
pub use Rattle.v8_decode.specs.Words.{decode_of}
pub use Rattle.v8_decode.specs.declared.Instr.{Instr}
pub use Rattle.v8_decode.specs.declared.Part.{Part}
pub use Rattle.v8_memory.specs.Code.{are_apart, heap_span, is_apart, is_apart_from, IsSameOutside, span_of, span_of_mapping}
pub use Rattle.v8_memory.specs.Regions.{Region, Memory, covers, region_at, code_of, fetch_from}
unfoldable pub use Rattle.v8_memory.specs.Regions.{fetch_of}
pub use Rattle.v8_memory.specs.Segments.{region_of, empty_heap, heap_room, heap_start}
pub use Rattle.v8_memory.specs.Spans.{AllApart, IsApart, IsApartFromAll, Span}
pub use Rattle.v8_process.specs.Arguments.{AreArguments}
pub use Rattle.v8_process.specs.Start.{program_name, stack_region, start_memory}
unfoldable pub use Rattle.v8_process.specs.Start.{start_of}
pub use Rattle.v8_step.proofs.Live.{puts_nothing, stays_ended}
pub use Rattle.v8_step.specs.Items.{IsAmong, IsItem, IsSameAt, Register, StateItem, item_of}
pub use Rattle.v8_step.specs.Run.{run, run_puts}
pub use Rattle.v8_step.specs.State.{AreBytes, State, sum_of, register_of}
pub use Rattle.v8_step.specs.Valid.{IsValid}
pub use Rattle.v8_step.specs.declared.Ending.{Ending}
pub use Rattle.v8_step.specs.declared.Slot.TheVariants.{NoSlot}
pub use Rattle.v8_windows.proofs.Places.{place_of-below, place_of-some}
pub use Rattle.v8_windows.specs.Registers.{place_of}
