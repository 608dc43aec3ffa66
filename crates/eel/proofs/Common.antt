-- The names of other crates, and of what this one states, that its proofs cite, most of them in more than one, passed on from one place. Declares nothing.
pub use Rattle.std.proofs.Common.{Bool, Err, List, None, Ok, Option, Result, Some, [], ap, arith, cond, false, get_or, if◌then◌else◌, inl, inr, length, lit≤, map, nat_lt, refl, rules, subst, suc, sym, true, zero, ℕ, ◌*◌, ◌++◌, ◌+◌, ◌-◌, ◌<◌, ◌==◌, ◌^◌, ◌∙◌, ◌∷◌, ◌≡◌, ◌≢◌, ◌≤◌, ◌⊎◌, append-nil, ◌&&◌, ◌||◌, not, nat_le, ◌%◌, vec_len}
pub use Rattle.std.specs.Prelude.{unwrap_or, slice_index, IfErr, IfOk}
pub use Rattle.cfg_normal.specs.Graph.{Graph}
pub use Rattle.cfg_normal.specs.declared.Edge.{Edge}
pub use Rattle.cfg_view.specs.Code.{view_seen}
pub use Rattle.cfg_view.specs.View.{Seen, given_in}
unfoldable pub use Rattle.cfg_view.specs.View.{view_of}
unfoldable pub use Rattle.cfg_walk.specs.Walk.{walk}
pub use Rattle.count_rebuild.specs.Answers.{AreCounts}
pub use Rattle.count_rebuild.specs.declared.fault.CountFault.{CountFault}
pub use Rattle.dump_file.specs.Code.{dump_seen}
pub use Rattle.dump_file.specs.Dump.{Dump}
pub use Rattle.edge_ring.specs.Answers.{AreLast}
pub use Rattle.edge_ring.specs.Code.{IsRefused, IsRingOf}
pub use Rattle.edge_ring.specs.declared.fault.RingFault.{RingFault}
pub use Rattle.edit_core.proofs.Originals.{image_text}
pub use Rattle.edit_core.specs.Faithful.{HasGraph, holds_cells, HasPages, IsInRoom, note_of, AreCounted}
pub use Rattle.edit_core.specs.RunsAlike.{HaveRunsAlike, IsStop, edit_of, visits_by, TellsStep, AreRunsAlike}
pub use Rattle.edit_core.specs.declared.requests.EditFault.{EditFault}
pub use Rattle.eel.specs.Answers.{IsRefusal, IsUnchanged, IsDone, IsUnrefused, HasFailed, WasWanting, meaning_of, unknown_means}
pub use Rattle.eel.specs.Answers.Dump.{Runs, ran, refused, unfed, AreMapped}
pub use Rattle.eel.specs.Answers.Edit.{edges_in, IsEditOf, plan_of}
pub use Rattle.eel.specs.Answers.ExactCounts.{IsOfRun, IsProfile, MayMiss, AreExact, AreOfWholeRuns}
pub use Rattle.eel.specs.Answers.LastEdges.{IsUntold, IsTraceOf, AreTheLast, IsOfTraced}
pub use Rattle.eel.specs.Answers.Profile.{plan_with, AsksCounters, AsksGuessed}
pub use Rattle.eel.specs.Answers.Tool.{AreMissing, Asks, edit_means, Edits, IsEditBy, IsNotEdited, Takes}
pub use Rattle.eel.specs.Code.{EditsAreProfiles, EditsAreTraces, IsMarkedProfile}
pub use Rattle.eel.specs.Private.{cells_of, guessed, IsFit, IsLastDump, IsProfileOf, IsPutAfter, kind_of, MayAsk, ops_on, plan_for, profile_plan, ProfileRefuses, Says, was_broken}
pub use Rattle.eel_base.specs.Outside.{Holding, IsMissing, Rose}
pub use Rattle.eel_reports.proofs.Later.{put-later, read-later, unread-later, rose-before, rose-after}
pub use Rattle.eel_reports.specs.Answers.Counts.{IsUncounted}
pub use Rattle.eel_reports.specs.Answers.Demo.{alone, demo_lines, demo_means, EndsAlone, IsTold, size_in, size_of, Tells, walk_alone}
pub use Rattle.eel_reports.specs.Answers.Every.{every_word, every_view}
pub use Rattle.eel_reports.specs.Answers.Lines.{lines_of}
pub use Rattle.eel_reports.specs.Answers.Noted.{IsUnnoted, AreRead, IsUndumped, dump_limit}
pub use Rattle.eel_reports.specs.Answers.Restore.{HasOriginal, original_in, restore_means}
pub use Rattle.eel_reports.specs.Answers.Run.{IsRun, HasRun, WasBroken}
pub use Rattle.eel_reports.specs.Answers.Steps.{Prints, Puts, Reads, printed, put, unmade, unread, untold, was_read, Makes, make_means}
pub use Rattle.eel_reports.specs.Answers.Trees.{AreCells}
pub use Rattle.eel_reports.specs.Answers.Visits.{IsUnvisited, HasEveryWord}
pub use Rattle.eel_reports.specs.Code.{AreLines, AreUnread, AreWithin, IsUnbegun, no_file, no_input, not_loaded, stopped_of}
pub use Rattle.eel_said.specs.Outcome.{BadCell, BadNotes, DeviceFault, Done, NoCounts, NoNotes, NoProfile, NoTrace, NotEveryWord, OutOfMemory, Outcome, Stopped, Stream, status_of, Shows, shown, failed, BadDump}
pub use Rattle.eel_said.specs.Seen.{files_seen, stream_seen, input_seen}
pub use Rattle.eel_said.specs.Shared.{Feed, HaveFailed, IsQuiet, Outside, Store, edit_limit, outside, store, with_err, written_limit, IsUnread, Meaning, files_mean, prints_mean}
pub use Rattle.eel_said.specs.declared.command.Report.{Report}
pub use Rattle.elf32_sparc.specs.FileFault.{fault, load_fault, descends_from, is_last_page, leaves_room}
pub use Rattle.elf32_sparc.specs.Image.{segment_of}
unfoldable pub use Rattle.elf32_sparc.specs.Image.{image_of}
pub use Rattle.elf32_sparc.specs.Mapping.{Mapping, mapping_of}
unfoldable pub use Rattle.elf32_sparc.specs.Mapping.{mappings}
pub use Rattle.exact_counts.proofs.Exact.{counts_are_exact, notes_of_graph, begins_live}
pub use Rattle.exact_counts.proofs.Little.{edges_few, profiles_need_little}
pub use Rattle.exact_counts.proofs.Noted.{edge_count, length_noted, AreNotesOf, edge_is}
pub use Rattle.exact_counts.specs.Laws.{IsExact, IsProfiled, MayRefuse, EndsWithStep, IsOver}
pub use Rattle.exact_counts.specs.Profiles.{CountsOffTree, counter_in, original_graph}
pub use Rattle.exact_counts.specs.Stops.{dump_at, length_told}
pub use Rattle.flows.specs.Flows.{count_below, EdgeSet, times, weight_below}
pub use Rattle.image_code.specs.Store.{Edit, snippet_on}
pub use Rattle.notes.specs.Code.{notes_seen}
pub use Rattle.notes.specs.Format.{NoteEdge, Notes, node_at, notes_of, NoteRange, holds, range_at, NoteSegment, is_version}
pub use Rattle.snippet_code.specs.Cells.{words_at, cell_at}
pub use Rattle.snippets.specs.declared.snippet.Op.{Op}
pub use Rattle.span_tree.specs.Cells.{has_cell}
pub use Rattle.span_tree.specs.Links.{edge_at as own_edge, no_edge}
pub use Rattle.std.proofs.lemmas.Bool.{and_from, and_parts, cases_lt, eq-eqb, le-leb, leb-true, ltb-false, or_parts}
pub use Rattle.std.proofs.lemmas.Bool.Decides.{nat_tests}
pub use Rattle.std.proofs.lemmas.List.{get_or-map, length-map, ext_get_or}
pub use Rattle.std.proofs.lemmas.List.Elements.{All-head, All-nil, All-tail, All-weaker}
pub use Rattle.std.proofs.lemmas.List.FromFn.{get_or-map-range_with_len, length-map-range_with_len, map-range_with_len_more}
pub use Rattle.std.proofs.lemmas.Option.{none-some, slice_get-get_or}
pub use Rattle.std.specs.List.{All, list_any, sum, find, range_with_len}
pub use Rattle.std.specs.Option.{option_map}
pub use Rattle.tool_kit.specs.Plans.{Plan, AreCounters}
pub use Rattle.tool_kit.specs.Sound.{IsSound}
pub use Rattle.two_runs.specs.Needed.{IsUntouched}
pub use Rattle.two_runs.specs.Visits.{pages_of, own_trail, page_of}
pub use Rattle.v8_process.specs.Arguments.{AreArguments}
pub use Rattle.v8_process.specs.Start.{program_name, stack_region, start_memory}
unfoldable pub use Rattle.v8_process.specs.Start.{start_of}
pub use Rattle.v8_step.specs.Run.{run}
pub use Rattle.v8_step.specs.State.{AreBytes, State}
pub use Rattle.v8_step.specs.declared.Ending.{Ending}
