-- What is rebuilt from the dump of a run, wherever it is stopped, is how often the original's run completes each edge.
use Rattle.exact_counts.proofs.Common.{pages_of, IsUntouched, ◌≡◌, ℕ, suc, ◌-◌, ◌<◌, List, length, None, refl, ap, sym, ◌∙◌, arith, pos, lt-ltb, image_of, Notes, State, start_of, IsFlow, blocks_of, entered_of, cut, Plan, links_of, executions, Edit, edit_of, visits_by, image_text, few_visits, view_graph, noted_graph, ◌^◌, inl, inr, slice_index, Option, Some, ℤ, false≢true, Ending, run, has_cell, leb-true, AreBytes, holding_of, IsStop, TellsStep, node_behind, HasGraph, tool_number, is_counter, CountsOffTree, original_graph, counter_limit, IsExact, IsProfiled, CountsAreExact, MayRefuse, length-map-range_with_len, node_at, AgreeOn, IsFlowTo, StandsAt, cell_counts, IsProfile, nat_tests}
use Rattle.elf32_sparc.proofs.Accepted.{accepted}
use Rattle.v8_process.specs.Arguments.{AreArguments}
use Rattle.v8_process.proofs.Arguments.{arguments_fit}
use Rattle.v8_process.proofs.Valid.{mappings_have_room, starts_valid}
use Rattle.cfg_view.proofs.Given.{entry_leads}
use Rattle.walk_counts.specs.Counts.{first_node}
use Rattle.walk_counts.proofs.Files.{begins, entry_is, executions_of_files_are_flows}
use Rattle.edit_core.specs.Written.{given_of}
use Rattle.exact_counts.proofs.Noted.{has_cell_is, AreNotesOf, flow_alike, graphs_alike, tree_noted, edge_count, edge_is}
use Rattle.dump_file.specs.Dump.{Dump}
use Rattle.count_rebuild.specs.declared.fault.CountFault.{CountFault}
use Rattle.count_rebuild.specs.declared.fault.CountFault.TheVariants as faults
use Rattle.count_rebuild.specs.Code.{IsRefused}
use Rattle.exact_counts.specs.Stops.{dump_at}
use Rattle.exact_counts.proofs.Gone.{executions_are_few}
use Rattle.exact_counts.proofs.Counters.{cells_count, counter_cell, limit_few, none_or_counter, small_rest}

pub begins_live : (file : List ℕ) (args : List (List ℕ)) (input : List ℕ) → (start_of file args input).ending ≡ None
unfolding start_of
begins_live file args input = refl

pub notes_of_graph : (original : List ℕ) (plan : Plan) (notes : Notes)
    → CountsOffTree notes.version (original_graph original plan) plan → HasGraph original plan notes
    → AreNotesOf (original_graph original plan) plan.snips notes
notes_of_graph original plan notes counts has = grind (arith, nat_tests)

module _ (original : List ℕ) (plan : Plan) (file : List ℕ) (notes : Notes) (args : List (List ℕ)) (input : List ℕ) (m : ℕ)
    (is : IsProfiled original plan file notes) (given : AreArguments args) (read : AreBytes input) where
  abbrev g : Edit
  g = edit_of original plan notes

  abbrev entry : ℕ
  entry = (image_of original).entry

  abbrev s0 : State
  s0 = start_of original args input

  abbrev t0 : State
  t0 = start_of file args input

  -- the original's steps, the node where their walk ends, and how often they complete each edge
  abbrev n : ℕ
  n = visits_by notes t0 m - 1

  abbrev node : ℕ
  node = node_behind g entry s0 n

  abbrev made : ℕ → ℕ
  made e = executions g.text g.graph entry s0 n e

  abbrev dump : Dump
  dump = dump_at notes t0 m

  -- ---- the notes

  are : AreNotesOf g.graph plan.snips notes
  are = notes_of_graph original plan notes is.counters is.graph

  profile : IsProfile notes
  profile = record {
    tool = is.graph.tool ∙ ap tool_number is.counters.kind;
    tree = tree_noted g.graph plan.snips notes are (rw (view_graph original plan) refl)
        (rw (view_graph original plan) (cut g.text (given_of original plan) (image_text original is.sound).some).firsts.some)
        is.counters.tree;
  }

  -- ---- the flow of the original's run, over the graph of the notes

  entry_within : entry < length g.text.words
  unfolding image_of
  entry_within = (begins original args input (entry_is original is.sound)).within

  own_flow : IsFlow (links_of g.graph) (first_node g.text g.graph entry s0 n) node (λ e. pos (made e))
  unfolding image_of entered_of
  own_flow =
      rw (view_graph original plan)
      (executions_of_files_are_flows original args input (given_of original plan) n is.sound is.bytes
      (starts_valid original args input is.bytes given.bytes read
      (mappings_have_room original (accepted original is.sound).segment_file) (arguments_fit args given))
      (entry_leads (image_of original) plan.marks entry_within))

  entry_node : first_node g.text g.graph entry s0 n ≡ holding_of g.graph.blocks entry
  unfolding blocks_of
  entry_node = rw (view_graph original plan, lt-ltb entry (length g.text.words) entry_within) refl

  flow : IsFlow (noted_graph notes) notes.entry node (λ e. pos (made e))
  flow =
      flow_alike (links_of g.graph) (noted_graph notes) (graphs_alike g.graph plan.snips notes are) notes.entry node _
      (rw (is.graph.entry, ← entry_node) own_flow)

  -- ---- what the dump tells

  module _ (untouched : IsUntouched (pages_of notes) s0 (visits_by notes t0 m)) (short : m < counter_limit notes.version) where
    stop : IsStop g entry s0 t0 m (visits_by notes t0 m)
    stop = (is.runs args input given read).stops m untouched

    -- no edge's counter has begun at 0 again
    made_few : (e : ℕ) → made e < counter_limit notes.version
    made_few e =
        omega (arith, executions_are_few g.text g.graph entry s0 n e, few_visits notes t0 (suc m), short)

    -- an edge's counter tells
    agrees : TellsStep g entry s0 t0 m n → AgreeOn (noted_graph notes) (has_cell notes) (cell_counts notes dump)
        (λ e. pos (made e))
    agrees told e l has =
        let within : e < length g.graph.edges = rw (edge_count g.graph plan.snips notes are) at l in
        elim (none_or_counter notes.version 0 plan.snips e is.counters.counters) [
          | inl none ↦
              absurd (false≢true (sym (has_cell_is g.graph plan.snips notes are e within ∙ ap is_counter none) ∙ has))
          | inr some ↦
              rw (
                edge_is g.graph plan.snips notes are e within,
                some.is,
                counter_cell notes.version some.cell,
                told.cells,
                cells_count notes.version g entry s0 n e some.cell is.counters.counters (rw is.graph.cells is.counters.below) some.is,
                small_rest notes.version (made e) (made_few e),
              ) refl
        ]

    -- the one flow is the walk's
    flow_tells : (to : ℕ) (x : ℕ → ℤ) → StandsAt notes dump to → IsFlowTo notes dump to x → (e : ℕ)
        → e < length notes.edges → x e ≡ pos (made e)
    flow_tells to x stands h e l =
        let told = stop.tells (λ none. absurd (cc (stands.at, none))) in
        let same : node ≡ to = cc (told.node, stands.at) in
        h.only (λ e. pos (made e)) (rw same at flow) (agrees told) e l

    -- between places it hasn't ended
    runs_on : node_at notes (run t0 m).pc ≡ None → (o : Option Ending) → (run t0 m).ending ≡ o → (run t0 m).ending ≡ None
    runs_on none None live = live
    runs_on none (Some d) over = absurd (stop.placed (λ live. absurd (cc)) none)

    refused_so : (fault : CountFault) → IsRefused notes dump fault → MayRefuse dump fault
    refused_so faults.NoProfile h = absurd (h profile)
    refused_so (faults.Version of wanted) h = absurd (h.differ (h.has ∙ sym h.wants))
    refused_so (faults.Other length wanted) h = absurd (h.differ (h.has ∙ rw h.wide refl ∙ sym h.wants))
    refused_so (faults.Shape cells wanted) h =
        absurd (h.differ (h.has ∙ length-map-range_with_len _ 0 notes.cells ∙ sym h.wants))
    refused_so (faults.TooLong steps) h =
        let low : m < 2 ^ 32 = rw h.narrow at short in
        absurd (omega (arith, h.made, h.long, low))
    refused_so (faults.Between pc) h = (h.at, runs_on h.between (run t0 m).ending refl)
    refused_so (faults.Negative edge value) h =
        absurd (false≢true (rw (flow_tells h.node h.flow h.stands h.is edge.0 h.first.inside) at h.first.bad))
    refused_so (faults.Large edge value) h =
        absurd (omega (
          arith,
          limit_few notes.version (made edge.0) (made_few edge.0),
          leb-true (2 ^ 64) (made edge.0) (rw (flow_tells h.node h.flow h.stands h.is edge.0 h.first.inside) at h.first.bad),
        ))
    refused_so faults.NoMemory h = tt

    exact : IsExact original plan notes s0 dump n
    exact = record {
      refused = refused_so;
      counts = λ counts h e l. cc (flow_tells h.node (λ e. pos (slice_index counts e)) h.stands h.flow e l);
    }

pub counts_are_exact : CountsAreExact
counts_are_exact = exact
