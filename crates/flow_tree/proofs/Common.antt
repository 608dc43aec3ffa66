-- The names that more than one proof cites, of this crate and of crates below, passed on from one place. Declares nothing.
pub use Rattle.std.proofs.Common.{[], ap, arith, Bool, false, get_or, inl, inr, length, List, map, not, refl, rules, set, subst, suc, sym, take, true, zero, ℕ, ◌++◌, ◌+◌, ◌-◌, ◌<◌, ◌||◌, ◌∙◌, ◌∷◌, ◌≡◌, ◌≤◌, ◌⊎◌}
pub use Rattle.std.specs.Prelude.{if◌then◌else◌, replicate, ◌==◌}
pub use Rattle.flow_tree.specs.Rows.{AllBelow, HasEnds, IsAttached, Row}
pub use Rattle.flow_tree.specs.Search.{AreCandidates, candidate, IsReal, IsSearch}
pub use Rattle.flow_tree.specs.Tree.{edges_in, edges_of, IsGrown, IsHeaviestFirst, nodes_in, reached_by, RisesWith}
pub use Rattle.flow_tree.specs.declared.Join.{Join}
pub use Rattle.flow_tree.specs.declared.growth.Candidate.{Candidate}
pub use Rattle.flows.proofs.Bools.{differ_same, not_twice, true_or_false}
pub use Rattle.flows.proofs.Least.{determines_alike, ends_of, least_alike, listed_is, off_grown_determines, off_tree_least}
pub use Rattle.flows.proofs.Spanning.{all_count, AllIn, connected_ends, connected_spans, grown_count, grown_size, one_if, part_count, reached_nodes, same_set, spanning_alike, tree_if, tree_only_if}
pub use Rattle.flows.proofs.Weights.{weight_one, weight_rest}
pub use Rattle.flows.specs.Code.{IsGraph}
pub use Rattle.flows.specs.Flows.{count_below, Determines, EdgeSet, Graph, IsLeast, NodeSet, rest, weight_in}
pub use Rattle.flows.specs.Links.{graph_of, IsLinked, JoinsNodes, link_at, marked}
pub use Rattle.flows.specs.SpanningTrees.{IsSpanningTree}
pub use Rattle.flows.specs.Trees.{and_also, crosses, far_end, Grows, HasEveryEnd, IsConnected, IsHeaviest, IsWhole, joined_by, on, only}
pub use Rattle.flows.specs.declared.Link.{Link}
pub use Rattle.std.proofs.lemmas.Bool.{cases_Bool, cases_eq, eqb-true}
pub use Rattle.std.proofs.lemmas.Grind.{common_steps}
pub use Rattle.std.proofs.lemmas.List.{ext_get_or, get_or-map, get_or-replicate, get_or-set_other, get_or-set_same, get_or_past, get_or_read, length-map, length-replicate, length-set, take_all, take_more}
pub use Rattle.std.proofs.lemmas.List.Elements.{All-cons, All-contains, All-head, All-nil, All-tail, Contains-append_cases}
pub use Rattle.std.specs.BinaryHeap.{heap_items, heap_len}
pub use Rattle.std.specs.List.{All, Contains}
