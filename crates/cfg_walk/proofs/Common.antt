-- The names that more than one proof cites, of this crate and of crates below, passed on from one place. Declares nothing.
pub use Rattle.std.proofs.Common.{[], ap, append-nil, arith, Bool, cond, count_by, false, inl, inr, length, length-append, List, map, nat_le, nat_lt, None, not, Option, refl, slice_index, Some, subst, suc, sym, true, zero, ℕ, ◌%◌, ◌&&◌, ◌*◌, ◌++◌, ◌+◌, ◌-◌, ◌/◌, ◌<◌, ◌==◌, ◌^◌, ◌||◌, ◌∙◌, ◌∷◌, ◌≡◌, ◌≢◌, ◌≤◌}
pub use Rattle.std.specs.Prelude.{if◌then◌else◌, slice_index_or, ℤ, ◌⊎◌}
pub use Rattle.cfg_blocks.proofs.Targets.{IsWord, word_at-some}
pub use Rattle.cfg_blocks.specs.Blocks.{below, block_end, Blocks, end_of, follows_transfer, holding_of, is_among, is_it, last_word, leads}
unfoldable pub use Rattle.cfg_blocks.specs.Blocks.{blocks_of, leaders}
pub use Rattle.cfg_blocks.specs.Code.{AreFirsts}
pub use Rattle.cfg_blocks.specs.Ends.{always, branch_target, end_by, is_transfer, never, number_of, target_in, Way, way, ways_of, within}
unfoldable pub use Rattle.cfg_blocks.specs.Ends.{end_at}
pub use Rattle.cfg_blocks.specs.Entries.{ways_from}
pub use Rattle.cfg_blocks.specs.Switches.{is_jump}
pub use Rattle.cfg_blocks.specs.declared.BlockEnd.{BlockEnd}
pub use Rattle.cfg_blocks.specs.declared.EdgeKind.{EdgeKind}
pub use Rattle.cfg_normal.proofs.Cases.{same_itself}
pub use Rattle.cfg_normal.specs.Code.{home_of, IsEdgeIn, IsNodeIn, IsSlotIn}
pub use Rattle.cfg_normal.specs.Graph.{case_nodes, case_of, copied_edges, directed, edge_of, edges_of, Graph, graph_of, has_cases, is_compared, landing_at, landing_at as landing, landings_of, lands, lands_of, node_of, once_onto, runs_slot, slot_behind, slot_on, ways_out}
unfoldable pub use Rattle.cfg_normal.specs.Graph.{edges_in}
pub use Rattle.cfg_normal.specs.Nodes.{same_kind, same_node}
pub use Rattle.cfg_normal.specs.Opens.{compares_in, is_behind, is_copied, jumps_in, Open, targets_in}
pub use Rattle.cfg_normal.specs.declared.Edge.{Edge}
pub use Rattle.cfg_normal.specs.declared.Node.{Node}
pub use Rattle.cfg_normal.specs.declared.Node.TheVariants.{Block, Landed, X}
pub use Rattle.cfg_walk.specs.Matches.{AreOpen, Begins, BeginsAt, FetchesOnly, GoesByCase, IsCarried, IsOnItsWay, IsTarget, JumpsGoByCase, last_in, Matches, MatchesBy, MatchesRun, StepsMatch, target_along, WalksMatch, way_address}
pub use Rattle.cfg_walk.specs.Walk.{by_kind, completed, edge_along, edge_from, ends_block, goes_on_at, gone, instr_at, landed, landing_at as landing_number, leads_along as is_to, led_to, left_along, left_at, left_by, node_after, Point, point_of, slot_left, unless_ended, way_of, way_to, WayOut}
unfoldable pub use Rattle.cfg_walk.specs.Walk.{end_of_walk}
pub use Rattle.eel_base.specs.Code.{IsText}
pub use Rattle.eel_base.specs.CodeText.{address_of, numbered, target_of, word_at, Words}
pub use Rattle.eel_base.specs.declared.numbers.WordNo.{WordNo}
pub use Rattle.std.proofs.lemmas.Bool.{and_from, and_parts, cases_Bool, cases_lt, cond_both, eq-eqb, eqb-false, eqb-true, false_from_ne_true, false≢true, le-leb, lt-ltb, or_left}
pub use Rattle.std.proofs.lemmas.Bool.Decides.{nat_tests}
pub use Rattle.std.proofs.lemmas.List.Folds.{list_any-append}
pub use Rattle.std.specs.Int.{cast_unsigned, w32}
pub use Rattle.std.specs.List.{filter, flat_map, list_any, position, position_or_len, slice_get}
pub use Rattle.std.specs.Option.{option_map, option_to_list}
unfoldable pub use Rattle.v8_alu.specs.Conditions.{holds_of}
pub use Rattle.v8_alu.specs.declared.Codes.{Codes}
pub use Rattle.v8_decode.specs.Words.{decode_of}
pub use Rattle.v8_decode.specs.declared.Instr.{Instr}
pub use Rattle.v8_decode.specs.declared.Op2.{Op2}
pub use Rattle.v8_step.proofs.Live.{live_step, stays_ended}
pub use Rattle.v8_step.specs.Items.{is_transfer as transfers}
pub use Rattle.v8_step.specs.Run.{run}
pub use Rattle.v8_step.specs.State.{State, sum_of, with_register}
pub use Rattle.v8_step.specs.declared.Ending.{Ending}
pub use Rattle.v8_step.specs.declared.Slot.{Slot}
pub use Rattle.v8_step.specs.declared.Slot.TheVariants.{NoSlot, Taken, Untaken}
