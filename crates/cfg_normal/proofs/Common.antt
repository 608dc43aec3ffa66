-- The names that more than one proof cites, of this crate and of crates below, passed on from one place. Declares nothing.
pub use Rattle.std.proofs.Common.{[], add-one, ap, arith, Bool, cond, drop, drop-cons, false, get_or, inl, inr, length, List, map, None, Option, refl, rules, slice_index, Some, subst, suc, sym, take, true, zero, ℕ, ◌*◌, ◌++◌, ◌+◌, ◌<◌, ◌||◌, ◌∙◌, ◌∷◌, ◌≡◌, ◌≤◌, ◌⊎◌}
pub use Rattle.std.specs.Prelude.{nat_le, nat_lt, not, slice_index_or, ◌%◌, ◌&&◌, ◌-◌, ◌/◌, ◌==◌}
pub use Rattle.cfg_blocks.proofs.Below.{any_below_same, get_or-below, length-below, list_any-map}
pub use Rattle.cfg_blocks.specs.Blocks.{below, Blocks, end_of, holding_of, last_word}
pub use Rattle.cfg_blocks.specs.Code.{IsBlockList}
pub use Rattle.cfg_blocks.specs.Entries.{Entered, ways_from}
pub use Rattle.cfg_blocks.specs.Private.{marked}
pub use Rattle.cfg_blocks.specs.declared.BlockEnd.{BlockEnd}
pub use Rattle.cfg_blocks.specs.declared.EdgeKind.{EdgeKind}
pub use Rattle.cfg_blocks.specs.declared.switches.Switch.{Switch}
pub use Rattle.cfg_normal.specs.Code.{AreApart, AreOne, AreOpenIn, IsEdgeIn, IsGraph, IsNodeIn, IsOpenIn, IsSlotIn, IsTableIn, jump_number}
pub use Rattle.cfg_normal.specs.Graph.{case_nodes, case_of, copied_edges, directed, edge_of, edges_of, is_compared, landing_at, landings_of, lands_of, node_of, once_onto, runs_slot, slot_behind, slot_on, ways_out}
unfoldable pub use Rattle.cfg_normal.specs.Graph.{edges_in}
pub use Rattle.cfg_normal.specs.Landings.{AreLandings, IsLanding, IsNumbered, NodeList}
pub use Rattle.cfg_normal.specs.Nodes.{same_kind, same_node}
pub use Rattle.cfg_normal.specs.Opens.{candidate_behind, candidate_into, candidate_on, compares_in, is_behind, is_candidate, is_closed, is_copied, is_tabled, jumps_in, meets_any, Open, open_by, opened, table_words, targets_in, unloaded, with_switch, words_from}
unfoldable pub use Rattle.cfg_normal.specs.Opens.{candidate, opens_of, targets_of}
pub use Rattle.cfg_normal.specs.Private.{AreTabled, AreTargetsIn, has_copy, is_from, is_jump_block, IsJumpOf, landed_once, lands_by, noted, number_in, seen_mark, unseen_case, with_compare}
pub use Rattle.cfg_normal.specs.declared.Edge.{Edge}
pub use Rattle.cfg_normal.specs.declared.Node.{Node}
pub use Rattle.cfg_normal.specs.declared.Node.TheVariants.{Block, Landed, X}
pub use Rattle.eel_base.specs.CodeText.{word_at, Words}
pub use Rattle.std.proofs.Math.Bool.{or-false, or_assoc}
pub use Rattle.std.proofs.lemmas.Bool.{and_parts, both_ways, cases_Bool, cases_eq, cases_lt, cond_both, eq-eqb, eqb-true, false_from_ne_true, ltb-true, ne_eqb, or_from, or_left, or_parts, or_right}
pub use Rattle.std.proofs.lemmas.Bool.Decides.{nat_tests}
pub use Rattle.std.proofs.lemmas.Grind.{common_steps}
pub use Rattle.std.proofs.lemmas.List.{append-nil, append_assoc, flat_map_more, get_or-map, get_or_append_left, get_or_past, get_or_push, length-append, length-map, length_push, map-append, take_more}
pub use Rattle.std.proofs.lemmas.List.Concat.{flat_map-append}
pub use Rattle.std.proofs.lemmas.List.Elements.{All-append, All-cons, All-filter, All-head, All-map, All-nil, All-push, All-tail, All-weaker, filter-append, filter_passes}
pub use Rattle.std.proofs.lemmas.List.Folds.{list_any-append, list_any_at}
pub use Rattle.std.proofs.lemmas.List.Sums.{count_by-le-length, length-filter, sum_by-cons, sum_by_push}
pub use Rattle.std.specs.List.{All, AllPairs, filter, flat_map, list_any, position, sum_by}
pub use Rattle.std.specs.Option.{is_some, option_to_list}
