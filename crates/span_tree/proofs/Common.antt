-- The names that more than one proof cites, of this crate and of crates below, passed on from one place. Declares nothing.
pub use Rattle.std.proofs.Common.{[], add-one, ap, arith, Bool, cond, false, get_or, inl, inr, length, List, map, refl, rules, set, slice_index, subst, suc, sym, take, true, zero, ℕ, ◌&&◌, ◌*◌, ◌++◌, ◌+◌, ◌-◌, ◌<◌, ◌^◌, ◌∙◌, ◌∷◌, ◌≡◌, ◌≤◌, ◌⊎◌}
pub use Rattle.std.specs.Prelude.{IfSome, if◌then◌else◌, min, nat_le, None, Option, Some, unwrap_or}
pub use Rattle.cfg_blocks.proofs.Below.{get_or-below, length-below}
pub use Rattle.cfg_blocks.specs.Blocks.{below, Blocks, end_of, last_word}
pub use Rattle.cfg_normal.specs.Graph.{case_nodes, case_of, copied_edges, edges_of, Graph, has_cases, landing_at, landings_of, lands_of, once_onto}
unfoldable pub use Rattle.cfg_normal.specs.Graph.{edges_in}
pub use Rattle.cfg_normal.specs.Numbers.{is_node, node_number, node_numbers}
pub use Rattle.cfg_normal.specs.Opens.{is_copied, jumps_in, Open, targets_in}
pub use Rattle.cfg_normal.specs.declared.Edge.{Edge}
pub use Rattle.cfg_normal.specs.declared.Node.{Node}
pub use Rattle.cfg_normal.specs.declared.Node.TheVariants.{Block, Landed, X}
pub use Rattle.flow_tree.specs.Tree.{RisesWith}
pub use Rattle.flows.specs.Flows.{count_below, EdgeSet, NodeSet, weight_in}
pub use Rattle.flows.specs.Links.{graph_of, graph_of as plain_of, IsLinked, marked}
pub use Rattle.flows.specs.Trees.{IsConnected}
pub use Rattle.flows.specs.declared.Link.{Link}
pub use Rattle.span_tree.specs.Bounds.{AreBounds, sum_below}
pub use Rattle.span_tree.specs.Cells.{AreNumbered, cell_at, cell_count, cell_of, has_cell}
pub use Rattle.span_tree.specs.Links.{edge_at, links_of, no_edge}
pub use Rattle.span_tree.specs.Private.{link_of}
pub use Rattle.span_tree.specs.Ties.{rank_of, tie_by}
pub use Rattle.span_tree.specs.Weights.{branch_target, is_between, is_in_loop, loops_at, weight_from, weights_of}
pub use Rattle.std.proofs.lemmas.Bool.{cases_Bool, cases_eq, cases_lt, cond_both, false≢true, lt-ltb}
pub use Rattle.std.proofs.lemmas.Grind.{common_steps, flat_map-append}
pub use Rattle.std.proofs.lemmas.List.{get_or-map, get_or-set_other, get_or-set_same, get_or_past, get_or_read, length-append, length-map, length-set, map-append}
pub use Rattle.std.proofs.lemmas.List.Elements.{All-cons, All-from_get_or, All-get_or, All-map, All-nil, All-set, All-weaker, recursion_from_All}
pub use Rattle.std.specs.List.{All, AllByRecursion, filter, flat_map, list_any}
