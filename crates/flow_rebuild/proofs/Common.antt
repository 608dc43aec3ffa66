-- The names that more than one proof cites, of this crate and of crates below, passed on from one place. Declares nothing.
pub use Rattle.std.proofs.Common.{[], add-one, ap, arith, Bool, cond, false, get_or, inl, inr, length, List, not, refl, rules, set, suc, sym, take, true, zero, ℕ, ◌*◌, ◌++◌, ◌+◌, ◌<◌, ◌^◌, ◌∙◌, ◌∷◌, ◌≡◌, ◌≤◌, ◌⊎◌}
pub use Rattle.std.specs.Prelude.{FitsSigned, if◌then◌else◌, nat_abs, neg_ℤ, pos, replicate, ℤ, ◌+ℤ◌, ◌-ℤ◌, ◌==◌}
pub use Rattle.flow_rebuild.specs.Excess.{excess, excess_below}
pub use Rattle.flow_rebuild.specs.Private.{added, carries, other_node, passed}
pub use Rattle.flow_rebuild.specs.Values.{abs_sum, int_at}
pub use Rattle.flow_tree.proofs.Check.{linked_nodes, marked_below}
pub use Rattle.flow_tree.proofs.Steps.{edges-push, graph_ok, nodes-push, on_more}
pub use Rattle.flow_tree.specs.Tree.{edges_in, edges_of, IsGrown, nodes_in, reached_by}
pub use Rattle.flow_tree.specs.declared.Join.{Join}
pub use Rattle.flows.proofs.Bools.{differ_same, eqb_swap, not_twice, true_or_false}
pub use Rattle.flows.proofs.Least.{Ends, ends_of, far_inside, grows_keeps, off_grown_determines}
pub use Rattle.flows.proofs.Sums.{total_change, total_same, total_zero}
pub use Rattle.flows.specs.Code.{IsGraph}
pub use Rattle.flows.specs.Flows.{Graph, IsFlow, IsTheFlow, NodeSet, one_at, rest}
pub use Rattle.flows.specs.Links.{graph_of, IsLinked, link_at}
pub use Rattle.flows.specs.Trees.{and_also, crosses, differ, far_end, Grows, HasEveryEnd, IsHeaviest, joined_by, on, only}
pub use Rattle.flows.specs.declared.Link.{Link}
pub use Rattle.std.proofs.lemmas.Bool.{cases_eq, cases_lt, cond_both, eq-eqb, ne_eqb, or_left, or_parts, or_right}
pub use Rattle.std.proofs.lemmas.Int.{fits_signed_from_abs, ints, to_z-of_z}
pub use Rattle.std.proofs.lemmas.List.{get_or-replicate, get_or-set_other, get_or-set_same, get_or_past, get_or_read, length-append, length-replicate, length-set}
pub use Rattle.std.proofs.lemmas.List.Elements.{All-from_get_or, All-head, All-set, All-tail}
pub use Rattle.std.specs.Int.{w128}
pub use Rattle.std.specs.List.{All}
pub use Rattle.std.specs.Slice.Iter.{iter_rest}
