-- The names that more than one proof cites, of this crate and of crates below, passed on from one place. Declares nothing.
pub use Rattle.std.proofs.Common.{Bool, List, Option, Some, [], ap, arith, false, get_or, inl, inr, length, map, nat_lt, refl, slice_index, suc, sym, take, zero, ℕ, ◌&&◌, ◌*◌, ◌++◌, ◌+◌, ◌-◌, ◌<◌, ◌∙◌, ◌∷◌, ◌≡◌, ◌≤◌, rules, zero-add, ◌≢◌, true, not, None, subst}
pub use Rattle.std.specs.Prelude.{◌==◌, slice_index_or, if◌then◌else◌, nat_le}
pub use Rattle.cfg_blocks.specs.Blocks.{Blocks, blocks_of, holding_of, last_word, block_end, end_of, size_of}
pub use Rattle.cfg_blocks.specs.Code.{AreFirsts}
pub use Rattle.cfg_blocks.specs.Ends.{end_by, Way, always, branch_target, number_of, way, ways_of, within}
unfoldable pub use Rattle.cfg_blocks.specs.Ends.{end_at}
unfoldable pub use Rattle.cfg_blocks.specs.Entries.{entered_of}
pub use Rattle.cfg_blocks.specs.Switches.{compare_at, last_setting, sets_codes, switches_of}
pub use Rattle.cfg_blocks.specs.declared.BlockEnd.{BlockEnd}
pub use Rattle.cfg_blocks.specs.declared.EdgeKind.{EdgeKind}
pub use Rattle.cfg_normal.specs.Graph.{Graph, node_of, edge_of, edges_in, graph_of, landing_at as landing, lands_of, runs_slot as runs_on, copied_edges, edges_of}
pub use Rattle.cfg_normal.specs.Nodes.{same_node, same_kind}
pub use Rattle.cfg_normal.specs.declared.Edge.{Edge}
pub use Rattle.cfg_normal.specs.declared.Node.{Node}
pub use Rattle.cfg_walk.proofs.Cut.{IsCut, cut, entry_leads}
pub use Rattle.cfg_walk.proofs.Holding.{ends_at_next, ends_at_words, in_held, is_held, is_last, some_words}
pub use Rattle.count_rebuild.specs.Noted.{no_edge as no_noted}
pub use Rattle.eel_base.specs.Code.{IsText}
pub use Rattle.eel_base.specs.CodeText.{Words, address_of, word_at}
pub use Rattle.eel_base.specs.declared.numbers.WordNo.{WordNo}
pub use Rattle.instr_counts.specs.Laws.{HasEach, NoneAreOpen, VisitsAreCounted, WordsAreBlocks}
pub use Rattle.instr_counts.specs.Lines.{visit_line}
pub use Rattle.instr_counts.specs.Matches.{IsNoted}
pub use Rattle.instr_counts.specs.Private.{along, as_slot, is_block}
pub use Rattle.instr_counts.specs.Visits.{AreSingle, finished, is_begun, is_slot, leads_to, one_if, runs_slot, sum_where}
pub use Rattle.notes.specs.Code.{edge_seen, notes_seen, range_seen}
pub use Rattle.span_tree.specs.Links.{edge_at, no_edge, links_of}
pub use Rattle.std.proofs.lemmas.Bool.{cases_lt, cond_both, eq-eqb, eqb-true, lt-ltb, cases_Bool, false≢true, ne_eqb, and_parts, cases_eq}
pub use Rattle.std.specs.List.{enumerate_from, sum, flat_map}
pub use Rattle.v8_decode.specs.Words.{decode_of}
pub use Rattle.v8_decode.specs.declared.Instr.{Instr}
