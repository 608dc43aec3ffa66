-- The names that more than one proof cites, of this crate and of crates below, passed on from one place. Declares nothing.
pub use Rattle.std.proofs.Common.{List, None, Option, Some, [], ap, append-nil, arith, cond, false, if◌then◌else◌, inl, inr, length, not, refl, slice_index, suc, sym, true, zero, ℕ, ◌*◌, ◌+◌, ◌-◌, ◌<◌, ◌==◌, ◌^◌, ◌∙◌, ◌∷◌, ◌≡◌, ◌≢◌, ◌≤◌, nat_le, get_or, map, ◌++◌, Bool, ◌%◌, replicate, ◌⊎◌}
pub use Rattle.std.specs.Prelude.{pos, ℤ, IsTrue}
pub use Rattle.cfg_blocks.specs.Blocks.{Blocks, below, end_of, last_word, size_of, holding_of}
unfoldable pub use Rattle.cfg_blocks.specs.Blocks.{blocks_of}
pub use Rattle.cfg_blocks.specs.Entries.{ways_from}
unfoldable pub use Rattle.cfg_blocks.specs.Entries.{entered_of}
pub use Rattle.cfg_normal.proofs.GraphFacts.{once_few, targets_few, total_at, total_le, total_plus, ways_out-few}
unfoldable pub use Rattle.cfg_normal.proofs.GraphFacts.{entries_of, total}
pub use Rattle.cfg_normal.specs.Code.{AreOne, IsEdgeIn}
pub use Rattle.cfg_normal.specs.Graph.{Graph, case_nodes, case_of, copied_edges, edge_of, edges_of, landing_at, landings_of, lands, lands_of, once_onto, ways_out, graph_of}
unfoldable pub use Rattle.cfg_normal.specs.Graph.{edges_in}
pub use Rattle.cfg_normal.specs.Numbers.{is_node, node_numbers, node_number}
pub use Rattle.cfg_normal.specs.Opens.{is_copied, Open, compares_in, jumps_in, targets_in}
pub use Rattle.cfg_normal.specs.declared.Edge.{Edge}
pub use Rattle.cfg_walk.proofs.Cut.{cut, IsCut}
pub use Rattle.cfg_walk.proofs.Lists.{Each, each-append, each_in, each-map, each-then}
pub use Rattle.cfg_walk.specs.Walk.{end_of_walk, goes_on_at, gone_in, point_of}
unfoldable pub use Rattle.cfg_walk.specs.Walk.{walk}
pub use Rattle.count_rebuild.specs.Counts.{cell_counts, counter_value, IsFlowTo, StandsAt}
pub use Rattle.count_rebuild.specs.Noted.{has_cell, noted_graph, ends_at, is_node as is_noted, lies_at, no_edge, edge_at, IsProfile}
pub use Rattle.edit_core.proofs.Originals.{image_text}
pub use Rattle.edit_core.proofs.Trails.{few_visits, longer, over_or_not, stays, from_on, own_few, trail_stays, none_over, own_live, quiet_more, visit_more}
pub use Rattle.two_runs.proofs.Follows.{ending, going}
pub use Rattle.edit_core.proofs.Views.{view_graph}
pub use Rattle.edit_core.specs.Faithful.{cell_noted, HasGraph, note_edge, note_edges, tool_number}
pub use Rattle.edit_core.specs.RunsAlike.{AreRunsAlike, edit_of, visits_by, IsStop, TellsStep, node_behind, IsAnswered}
pub use Rattle.eel_base.specs.CodeText.{Words}
pub use Rattle.elf32_sparc.specs.FileFault.{fault}
pub use Rattle.elf32_sparc.specs.Image.{Program}
unfoldable pub use Rattle.elf32_sparc.specs.Image.{image_of}
pub use Rattle.exact_counts.specs.Laws.{CellsCount, CountsAreExact, EndedRunsTell, ExecutionsAreFew, IsExact, IsProfiled, MayRefuse, TreesMakeProfiles}
pub use Rattle.exact_counts.specs.Profiles.{counted_by, counter_in, counter_limit, CountsOffTree, is_counter, original_graph}
pub use Rattle.exact_counts.specs.Sizes.{ExecutionsAddUp, ProfilesEndSoon, ProfilesNeedLittle}
pub use Rattle.flows.proofs.Walks.{times-append}
pub use Rattle.flows.specs.Flows.{EdgeSet, IsFlow, count_below, rest, times, AgreeOn}
pub use Rattle.image_code.specs.Copies.{copies_of}
pub use Rattle.image_code.specs.Store.{Edit, snippet_on, operations_on, store_of, updates}
pub use Rattle.notes.specs.Format.{Notes, counter_width, NoteEdge, node_at}
pub use Rattle.snippets.specs.Cells.{WorksBelow, WorksIn, update, updated_by}
pub use Rattle.snippets.specs.declared.snippet.Op.{Op}
pub use Rattle.span_tree.specs.Links.{links_of, edge_at as own_edge, no_edge as no_own}
pub use Rattle.std.proofs.lemmas.Bool.{cases_Bool, cases_eq, cases_lt, eq-eqb, false≢true, leb-true, lt-ltb, ne_eqb, eqb-true, le-leb, le-ltb, or_left, or_right, false_from_ne_true, cond_both, or_parts}
pub use Rattle.std.proofs.lemmas.Bool.Decides.{nat_tests}
pub use Rattle.std.proofs.lemmas.Grind.{flat_map-append, get_or-set_at}
pub use Rattle.std.proofs.lemmas.List.{get_or-replicate, get_or-set_other, get_or_default, get_or_past, length-map, length-replicate, length-set}
pub use Rattle.std.proofs.lemmas.List.Elements.{All-cons, All-nil, filter-append}
pub use Rattle.std.proofs.lemmas.List.FromFn.{length-map-range_with_len, length-range_with_len}
pub use Rattle.std.proofs.lemmas.List.Sums.{sum_by-cons, sum_by-append, sum_by-le, sum_by_push}
pub use Rattle.std.specs.List.{All, list_any, sum_by, sum, AllByRecursion, count_by, filter, flat_map, range_with_len}
pub use Rattle.std.specs.Option.{is_some}
pub use Rattle.tool_kit.specs.Plans.{AreCounters, Plan, counter_op}
pub use Rattle.two_runs.specs.Needed.{IsUntouched}
pub use Rattle.two_runs.specs.Visits.{pages_of}
unfoldable pub use Rattle.v8_process.specs.Start.{start_of}
pub use Rattle.v8_step.specs.Run.{run}
pub use Rattle.v8_step.specs.State.{State, AreBytes, register_of}
pub use Rattle.v8_step.specs.declared.Ending.{Ending}
pub use Rattle.walk_counts.specs.Executions.{executions}
