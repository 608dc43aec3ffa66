-- What the dump of a trace's run tells are the last edges of its original's walk.
use Rattle.eel.proofs.Common.{◌≡◌, ◌≢◌, ℕ, ◌-◌, ◌<◌, List, [], length, refl, ap, sym, ◌∙◌, subst, arith, ◌==◌, if◌then◌else◌, Option, Some, None, Ok, All, get_or-map-range_with_len, length-map-range_with_len, image_of, NoteEdge, Notes, node_at, notes_of, Ending, State, AreBytes, run, IsUntouched, pages_of, AreArguments, start_of, walk, Plan, Dump, Edit, HasGraph, HaveRunsAlike, IsStop, edit_of, visits_by, dump_at, RingFault, AreLast, IsRefused, view_of, All-weaker, snippet_on, TellsStep, length_noted, IsRingOf, edges_in, EditsAreTraces, IsTraceOf}
use Rattle.edit_core.proofs.Eaches.{all_each}
use Rattle.exact_counts.proofs.Gone.{walk_within}
use Rattle.edge_ring.specs.declared.fault.RingFault.TheVariants as faults
use Rattle.edge_ring.specs.Laws.{TellsTheLast}
use Rattle.edge_ring.specs.Ring.{last_of, ring_on}
use Rattle.edge_ring.specs.Traces.{IsTrace}
use Rattle.edge_ring.proofs.Stores.{stores_are_rings}
use Rattle.edge_ring.proofs.Told.{rings_tell}
use Rattle.eel.specs.Answers.Trace.{trace_plan}
use Rattle.exact_counts.specs.Clear.{AreOver, IsClear}
use Rattle.exact_counts.proofs.Clear.{ended_runs_are_whole}
use Rattle.exact_counts.proofs.Exact.{begins_live}
use Rattle.eel.proofs.ExactProfiles.{none_touched, one_notes}

-- why the last edges of a trace's run may not be told
abbrev pub MayHide : Dump → RingFault → Type 0
MayHide dump (faults.Between pc) = (pc.0 ≡ dump.pc) × (dump.ending ≡ None)
MayHide dump faults.NoMemory = Unit {0}
MayHide dump _ = ⊥

module _ (bits : ℕ) (original file : List ℕ) (notes : Notes) (trace : IsTraceOf bits original file)
    (read : notes_of file ≡ Ok notes) where
  abbrev plan : Plan
  plan = trace_plan bits original

  same : trace.faithful.notes ≡ notes
  same = one_notes file notes trace.faithful.notes read trace.faithful.whole.reads

  has : HasGraph original plan notes
  has = subst (HasGraph original plan) same trace.faithful.graph

  runs : HaveRunsAlike original plan file notes
  runs = subst (HaveRunsAlike original plan file) same trace.faithful.runs

  pub is_trace : IsTrace notes
  is_trace = record { tool = has.tool; bits = bits; some = trace.some; few = trace.few; cells = has.cells }

  edge_count : length notes.edges ≡ length (edges_in original)
  edge_count =
      ap (λ (es : List NoteEdge). length es) has.edges
      ∙ length_noted (view_of original []).graph plan.kind (edges_in original) plan.snips
      (length-map-range_with_len (ring_on bits) 0 (length (edges_in original)))

  abbrev g : Edit
  g = edit_of original plan notes

  module _ (args : List (List ℕ)) (input : List ℕ) (m : ℕ) (given : AreArguments args) (fed : AreBytes input)
      (clear : IsClear notes (start_of original args input) (start_of file args input) m) where
    abbrev entry : ℕ
    entry = (image_of original).entry

    abbrev s0 : State
    s0 = start_of original args input

    abbrev t0 : State
    t0 = start_of file args input

    abbrev steps : ℕ
    steps = visits_by notes t0 m - 1

    abbrev path : List ℕ
    path = walk (image_of original).text (view_of original []).graph entry s0 steps

    abbrev dump : Dump
    dump = dump_at notes t0 m

    untouched : IsUntouched (pages_of notes) s0 (visits_by notes t0 m)
    untouched = none_touched original plan file notes trace.faithful read args input m given fed clear

    stop : IsStop g entry s0 t0 m (visits_by notes t0 m)
    stop = (runs args input given fed).stops m untouched

    within : All (λ edge. edge < length (edges_in original)) path
    within = all_each _ path (walk_within (image_of original).text (view_of original []).graph entry s0 steps)

    -- each edge of the walk is written into the ring
    logged : All (λ edge. snippet_on plan.snips edge ≡ ring_on bits edge) path
    logged =
        All-weaker _ _
        (λ edge l. get_or-map-range_with_len (ring_on bits) 0 (length (edges_in original)) edge edge [] l (omega arith))
        path within

    ring : TellsStep g entry s0 t0 m steps → IsRingOf bits path dump.cells
    ring told =
        subst (IsRingOf bits path) (sym told.cells) (stores_are_rings bits g entry s0 steps trace.few has.cells logged)

    length_is : notes.version ≡ 2 → dump.length ≡ notes.length
    length_is two = ap (λ (b : _). if b then 0 else notes.length) (ap (λ (v : ℕ). v == 1) two)

    tells : node_at notes (run t0 m).pc ≢ None → TellsTheLast bits notes path dump
    tells placed = rings_tell bits notes path dump (record {
      trace = is_trace;
      size = has.cells;
      edges = subst (λ (count : ℕ). All (λ edge. edge < count) path) (sym edge_count) within;
      ring = ring (stop.tells placed);
      version = refl;
      length = length_is;
    })

    there : (node : ℕ) → node_at notes (run t0 m).pc ≡ Some node → node_at notes (run t0 m).pc ≢ None
    there node at = λ none. absurd (cc (at, none))

    pub last_told : (edges : List ℕ) → AreLast notes dump edges → edges ≡ last_of bits path
    last_told edges are = let placed = are.whole.placed in (tells (there placed.node placed.at)).last edges are

    pub whole_told : (n : ℕ) → AreOver s0 t0 n m → (edges : List ℕ) → AreLast notes dump edges
        → edges ≡ last_of bits (walk (image_of original).text (view_of original []).graph entry s0 n)
    whole_told n both edges are =
        let whole = ended_runs_are_whole g entry s0 t0 n m (begins_live original args input) (runs args input given fed)
        untouched both in
        last_told edges are ∙ ap (last_of bits) (sym whole.walk)

    -- between places it hasn't ended
    runs_on : node_at notes (run t0 m).pc ≡ None → (o : Option Ending) → (run t0 m).ending ≡ o
        → (run t0 m).ending ≡ None
    runs_on none None live = live
    runs_on none (Some d) over = absurd (stop.placed (λ live. absurd (cc)) none)

    pub hidden : (fault : RingFault) → IsRefused notes dump fault → MayHide dump fault
    hidden faults.NoTrace h = absurd (h is_trace)
    hidden (faults.Version of wanted) h = absurd (h.differ (h.has ∙ sym h.wants))
    hidden (faults.Other length wanted) h = absurd (h.differ (h.has ∙ length_is h.wide ∙ sym h.wants))
    hidden (faults.Shape cells wanted) h =
        absurd (h.differ (h.has ∙ length-map-range_with_len _ 0 notes.cells ∙ sym h.wants))
    hidden (faults.Between pc) h = (h.at, runs_on h.between (run t0 m).ending refl)
    hidden (faults.Entry cell value) h =
        let placed = h.placed in
        absurd ((tells (there placed.node placed.at)).refused (faults.Entry cell value) h)
    hidden faults.NoMemory h = tt

pub edits_are_traces : EditsAreTraces
edits_are_traces bits original file notes some few made read =
    let trace : IsTraceOf bits original file = record { some = some; few = few; faithful = made.faithful } in
    (trace, is_trace bits original file notes trace read)
