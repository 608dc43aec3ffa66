-- The names that more than one proof cites, of this crate and of crates below, passed on from one place. Declares nothing.
pub use Rattle.std.proofs.Common.{[], ap, arith, Bool, drop, false, get_or, length, List, map, nat_le, nat_lt, None, not, Option, refl, rules, set, Some, subst, sym, take, true, ℕ, ◌&&◌, ◌*◌, ◌++◌, ◌+◌, ◌<◌, ◌^◌, ◌||◌, ◌∙◌, ◌∷◌, ◌≡◌, ◌≤◌}
pub use Rattle.std.specs.Prelude.{IfSome, if◌then◌else◌, IsTrue, nat_abs, negsuc, pos, slice_index, ℤ, ◌==◌}
pub use Rattle.count_rebuild.specs.Code.{IsRefused}
pub use Rattle.count_rebuild.specs.Counts.{cell_counts, cell_value, counter_value, is_large, is_negative, IsFirst, IsFlowTo, StandsAt}
pub use Rattle.count_rebuild.specs.Noted.{edge_at, ends_at, has_cell, is_node, lies_at, no_edge, noted_graph}
pub use Rattle.count_rebuild.specs.Parts.{AreWhole, IsBad, IsTreeOf}
pub use Rattle.count_rebuild.specs.Private.{AreNodes, is_counted, link_of}
pub use Rattle.dump_file.specs.Code.{dump_seen}
pub use Rattle.flow_rebuild.specs.Values.{int_at}
pub use Rattle.flow_tree.specs.Tree.{edges_of, IsGrown}
pub use Rattle.flow_tree.specs.declared.Tree.{Tree}
pub use Rattle.flows.specs.Flows.{EdgeSet, Graph, IsTheFlow, NodeSet, rest}
pub use Rattle.flows.specs.Links.{graph_of, JoinsNodes, marked}
pub use Rattle.flows.specs.SpanningTrees.{IsSpanningTree}
pub use Rattle.flows.specs.Trees.{on}
pub use Rattle.flows.specs.declared.Link.{Link}
pub use Rattle.notes.proofs.Steps.{any_map}
pub use Rattle.notes.specs.Code.{edge_seen, notes_seen, range_seen, segment_seen}
pub use Rattle.notes.specs.Format.{counter_width, holds, node_at, NoteEdge, NoteRange, Notes, NoteSegment, range_at}
pub use Rattle.notes.specs.Rules.{are_edges, are_ranges, AreNotes, is_edge, is_range, with_cell}
pub use Rattle.std.proofs.Math.Bool.{or-false, or_assoc}
pub use Rattle.std.proofs.Math.ListN.{get_or-map}
pub use Rattle.std.proofs.lemmas.Bool.{and_parts, cond_both, eq-eqb, false≢true, le-leb, leb-false, leb-true, or_left, or_right}
pub use Rattle.std.proofs.lemmas.Grind.{common_steps}
pub use Rattle.std.proofs.lemmas.List.{append-nil, drop_all, length-map, take_all, take_more}
pub use Rattle.std.proofs.lemmas.List.Elements.{All-cons, All-map, All-nil}
pub use Rattle.std.proofs.lemmas.List.Folds.{list_any-append, list_any_at}
pub use Rattle.std.proofs.lemmas.Result.{err_from_is_err_and, IfErr-weaker, IfOk-weaker}
pub use Rattle.std.specs.List.{All, find, list_any, range_with_len}
pub use Rattle.std.specs.Option.{is_some, option_map, option_or}
