-- The names of other crates, of modules that more than one proof cites, passed on from one place. Declares nothing.
pub use Rattle.cfg_blocks.proofs.Targets.{word_at-some}
pub use Rattle.cfg_blocks.specs.Blocks.{Blocks, block_end, blocks_of, end_of, holding_of, last_word}
pub use Rattle.cfg_blocks.specs.Ends.{Way, always, branch_target, end_at, is_transfer as transfers, number_of, target_in, way, ways_of, within}
pub use Rattle.cfg_blocks.specs.Switches.{is_jump}
pub use Rattle.cfg_blocks.specs.declared.BlockEnd.{BlockEnd}
pub use Rattle.cfg_blocks.specs.declared.EdgeKind.{EdgeKind}
pub use Rattle.cfg_normal.specs.Code.{IsNodeIn, home_of}
pub use Rattle.cfg_normal.specs.Graph.{Graph, directed, edge_of, graph_of, has_cases, landing_at as landing, lands_of, node_of, runs_slot}
pub use Rattle.cfg_normal.specs.Opens.{Open}
pub use Rattle.cfg_normal.specs.declared.Node.{Node}
pub use Rattle.cfg_walk.proofs.Cut.{IsCut, cut}
pub use Rattle.cfg_walk.proofs.Leaving.{end_here, end_is, ends_home, is_in, no_cases, node_is, straight_end, straight_left, transfer_ends, way_found}
pub use Rattle.cfg_walk.proofs.Points.{Stands, at, home, jumps_to, leads_second, low, next_is, second, within_some}
pub use Rattle.cfg_walk.proofs.Ways.{IsOne, fall_is_one, not_always, not_never, same_kinds, taken_is_one, untaken_is_one}
pub use Rattle.cfg_walk.specs.Matches.{AreOpen, Begins, BeginsAt, FetchesOnly, IsCarried, IsOnItsWay, JumpsGoByCase, Matches, MatchesBy}
pub use Rattle.cfg_walk.specs.Walk.{Point as RunPoint, WayOut, by_kind, completed, edge_along, edge_from, gone, gone_in, instr_at, landed, landing_at, leads_along as is_to, left_at, left_by, node_after, point_of, slot_left, way_of, way_to}
pub use Rattle.eel_base.specs.Code.{IsText}
pub use Rattle.eel_base.specs.CodeText.{Words, word_at}
pub use Rattle.liveness.specs.Live.{After, Along, At, Behind, Goes, GoesOnAt, Holds, IsFirst, IsLast, IsLive, IsLiveOn, Point, edge_at, is_call_or_jump, is_landing, is_unknown, reads_at, slot_reads, slot_writes, writes_at}
pub use Rattle.std.proofs.Common.{Bool, List, None, Option, Some, [], ap, arith, false, inl, inr, length, length-append, not, refl, slice_index, subst, suc, sym, true, zero, ℕ, ◌%◌, ◌&&◌, ◌++◌, ◌+◌, ◌-◌, ◌<◌, ◌==◌, ◌∙◌, ◌∷◌, ◌≡◌, ◌≢◌, ◌≤◌, ◌⊎◌}
pub use Rattle.std.proofs.lemmas.Bool.{cases_Bool, cases_eq, cases_lt, cond_both, eq-eqb, false≢true, le-ltb, lt-ltb, ne_eqb, or_right}
pub use Rattle.std.proofs.lemmas.Bool.Decides.{nat_tests}
pub use Rattle.std.proofs.lemmas.List.Elements.{Contains-push, Contains-push_cases}
pub use Rattle.std.proofs.lemmas.Option.{get_or_from_slice_get}
pub use Rattle.std.specs.List.{Contains, list_all}
pub use Rattle.v8_decode.proofs.Members.{has-every_part, has-members, is_same-self, same_parts}
pub use Rattle.v8_decode.specs.Effects.{read_set, reads_all, reads_of, write_set, writes_of}
pub use Rattle.v8_decode.specs.Parts.{has, is_member}
pub use Rattle.v8_decode.specs.Words.{decode_of}
pub use Rattle.v8_decode.specs.declared.Instr.{Instr}
pub use Rattle.v8_decode.specs.declared.Part.{Part}
pub use Rattle.v8_memory.specs.Regions.{fetch_of}
pub use Rattle.v8_step.specs.Items.{IsAmong, StateItem, is_transfer, item_of}
pub use Rattle.v8_step.specs.State.{State, sum_of, with_register}
pub use Rattle.v8_step.specs.declared.Slot.{Slot}
pub use Rattle.v8_step.specs.declared.Slot.TheVariants.{NoSlot, Taken, Untaken}
