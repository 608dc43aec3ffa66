-- The names that more than one proof cites, of this crate and of crates below, passed on from one place. Declares nothing.
pub use Rattle.std.proofs.Common.{[], ap, arith, Bool, cond, false, inl, inr, List, not, refl, subst, suc, sym, true, zero, ℕ, ◌&&◌, ◌++◌, ◌+◌, ◌<◌, ◌||◌, ◌∙◌, ◌∷◌, ◌≡◌, ◌≤◌, ◌⊎◌}
pub use Rattle.std.specs.Prelude.{if◌then◌else◌, nat_abs, neg_ℤ, negsuc, pos, ℤ, ◌*ℤ◌, ◌+ℤ◌, ◌-ℤ◌, ◌==◌, ◌↔◌}
pub use Rattle.flows.specs.Code.{IsGraph}
pub use Rattle.flows.specs.Flows.{AgreeOn, count_below, Determines, EdgeSet, Graph, IsFlow, IsLeast, NodeSet, one_at, rest, sum_in, sum_out, times, total, weight_below, weight_of}
pub use Rattle.flows.specs.SpanningTrees.{IsSpanningTree, JoinsAll, NoneCrosses}
pub use Rattle.flows.specs.Trees.{and_also, crosses, differ, far_end, Grows, HasEveryEnd, IsConnected, IsHeaviest, IsWhole, on, only}
pub use Rattle.flows.specs.Walks.{HasCycle, head, IsTrail, IsWalk, Step, tail, takes}
pub use Rattle.std.proofs.Math.Bool.{and-false, and-true, or_comm}
pub use Rattle.std.proofs.lemmas.Bool.{and_left, and_parts, cases_Bool, cases_eq, cases_lt, eq-eqb, eqb-true, false_from_ne_true, ne_eqb, or_from, or_left, or_parts, or_right}
pub use Rattle.std.proofs.lemmas.Int.{ints}
