-- The names that more than one proof cites, of this crate and of crates below, passed on from one place. Declares nothing.
pub use Rattle.std.proofs.Common.{[], add-one, ap, arith, Bool, cond, false, inl, inr, length, List, map, None, Option, refl, slice_index, Some, subst, suc, sym, true, zero, ℕ, ◌%◌, ◌&&◌, ◌++◌, ◌-◌, ◌/◌, ◌<◌, ◌∙◌, ◌∷◌, ◌≡◌, ◌≤◌}
pub use Rattle.cfg_blocks.specs.Blocks.{below, block_end, Blocks, is_among, last_word}
unfoldable pub use Rattle.cfg_blocks.specs.Blocks.{blocks_of, leaders}
pub use Rattle.cfg_blocks.specs.Ends.{is_transfer}
unfoldable pub use Rattle.cfg_blocks.specs.Ends.{end_at}
pub use Rattle.cfg_normal.specs.Graph.{Graph, graph_of, has_cases, lands_of}
unfoldable pub use Rattle.cfg_normal.specs.Graph.{edges_in}
pub use Rattle.cfg_normal.specs.Opens.{Open, opens_of}
pub use Rattle.cfg_walk.proofs.Cut.{cut, IsCut}
pub use Rattle.cfg_walk.proofs.Nodes.{edges_lead_in, edges_leave_in, node_in}
pub use Rattle.cfg_walk.proofs.Walks.{live_before, walks_match}
pub use Rattle.cfg_walk.specs.Matches.{AreOpen, BeginsAt, FetchesOnly, IsOnItsWay, JumpsGoByCase, MatchesBy, MatchesRun, OfEachRun}
pub use Rattle.cfg_walk.specs.Walk.{by_kind, completed, edge_along, edge_from, ends_block, gone, instr_at, landed, landing_at, leads_along as is_to, led_to, left_at, left_by, node_after, Point, point_of, slot_left, unless_ended, way_of, WayOut}
unfoldable pub use Rattle.cfg_walk.specs.Walk.{end_of_walk, walk}
pub use Rattle.eel_base.specs.Code.{IsText}
pub use Rattle.eel_base.specs.CodeText.{address_of, word_at, Words}
pub use Rattle.elf32_sparc.proofs.Accepted.{Accepted, accepted, has_text, IsFit, text_is_fit, length-words_of}
pub use Rattle.elf32_sparc.specs.FileFault.{fault}
pub use Rattle.elf32_sparc.specs.Header.{e_entry, is_text, loadable, program_headers, text_count, text_header}
pub use Rattle.elf32_sparc.specs.Image.{no_text, word_number}
unfoldable pub use Rattle.elf32_sparc.specs.Image.{image_of, text_from, text_of}
pub use Rattle.flows.specs.Flows.{count_below, Graph as PlainGraph}
pub use Rattle.flows.specs.Walks.{IsWalk}
pub use Rattle.span_tree.proofs.Connected.{number_inside}
pub use Rattle.span_tree.specs.Links.{edge_at, links_of, no_edge}
pub use Rattle.std.proofs.lemmas.Bool.{and_parts, cases_lt, cond_both, false_from_ne_true, ltb-false}
pub use Rattle.std.specs.List.{filter, find, position, slice_get}
pub use Rattle.std.specs.Option.{option_map, option_map_or, option_to_list}
pub use Rattle.v8_process.specs.Start.{program_name, stack_region, start_memory}
unfoldable pub use Rattle.v8_process.specs.Start.{start_of}
pub use Rattle.v8_step.specs.State.{AreBytes, State}
pub use Rattle.walk_counts.specs.Counts.{AreFlows, CountsAreEnough, ExecutionsAreFlows, ExecutionsOfFilesAreFlows, IsPath, LinksAreAGraph, WalksArePaths}
pub use Rattle.walk_counts.specs.Files.{graph_in, OfEachFile, OnlyTextIsFetched, WalksOfFilesMatch}
