-- The visits of a profile with every word marked are exact.
use Rattle.eel.proofs.Common.{nat_tests, ◌≡◌, ◌≢◌, ℕ, zero, suc, ◌+◌, ◌-◌, ◌<◌, Bool, true, false, cond, List, length, refl, ap, sym, ◌∙◌, arith, Option, Some, None, Ok, unwrap_or, list_any, image_of, Notes, node_at, notes_of, State, run, start_of, Graph, view_of, Plan, Dump, AreCounts, IsStop, edit_of, visits_by, image_text, IsProfiled, original_graph, notes_of_graph, edge_count, every_word, IsOfRun, slice_index, NoteRange, holds, range_at, weight_below, times, own_trail, given_in, own_edge, AreNotesOf, edge_is, every_view, original_in, HasEveryWord}
use Rattle.eel_base.specs.CodeText.{Words, address_of}
use Rattle.cfg_blocks.specs.Entries.{entered_of}
use Rattle.walk_counts.specs.Executions.{executions}
use Rattle.walk_counts.specs.Counts.{last_node}
use Rattle.instr_counts.specs.Answers.{AreVisits, begun_in}
use Rattle.instr_counts.specs.Laws.{AreVisited, HasEach}
use Rattle.instr_counts.specs.Matches.{AreNoted, Matches}
use Rattle.instr_counts.specs.Visits.{finished, is_begun, leads_to, one_if, runs_slot}
use Rattle.instr_counts.proofs.Counted.{visits_are_counted}
use Rattle.instr_counts.proofs.Single.{words_are_blocks}
use Rattle.eel_reports.proofs.Marked.{leads_marked}
use Rattle.exact_counts.proofs.Clear.{ended_runs_are_whole}
use Rattle.exact_counts.proofs.Exact.{begins_live}
use Rattle.eel.specs.Answers.ExactVisits.{AreExactVisits, AreOwnVisits, AreVisitsOfWholeRuns}
use Rattle.eel.proofs.ExactProfiles.{are_exact, is_profiled, none_touched, one_notes}

-- ---- sums of the same counts

same_weights : (n : ℕ) (one other : ℕ → ℕ) (s : ℕ → Bool) → ((e : ℕ) → e < n → one e ≡ other e)
    → weight_below n one s ≡ weight_below n other s
same_weights zero one other s same = refl
same_weights (suc n) one other s same =
    rw (same n (omega arith), same_weights n one other s (λ e l. same e (omega (arith, l)))) refl

same_finished : (graph : Graph) (entry : ℕ) (one other : ℕ → ℕ) (word : ℕ)
    → ((e : ℕ) → e < length graph.edges → one e ≡ other e)
    → finished graph entry one word ≡ finished graph entry other word
same_finished graph entry one other word same =
    rw (
      same_weights (length graph.edges) one other (λ e. leads_to graph.blocks word (own_edge graph e)) same,
      same_weights (length graph.edges) one other (λ e. runs_slot word (own_edge graph e)) same,
    ) refl

-- ---- notes of a profile

module _ (original : List ℕ) (plan : Plan) (file : List ℕ) (notes : Notes) (is : IsProfiled original plan file notes) where
  abbrev graph : Graph
  graph = original_graph original plan

  abbrev text : Words
  text = (image_of original).text

  abbrev entry : ℕ
  entry = (image_of original).entry

  noted : AreNotesOf graph plan.snips notes
  noted = notes_of_graph original plan notes is.counters is.graph

  edges_noted : AreNoted graph notes.edges graph.edges
  edges_noted = record {
    count = edge_count graph plan.snips notes noted;
    each = λ e l. rw (edge_is graph plan.snips notes noted e l) (record { kind = refl; from = refl; to = refl });
  }

  -- where each word leads
  module _ (each : HasEach text (given_in (image_of original) plan.marks)) where
    matches : Matches (view_of original plan.marks) notes
    unfolding view_of entered_of
    matches = record {
      single = words_are_blocks text (given_in (image_of original) plan.marks) (image_text original is.sound) each;
      start = is.graph.start;
      words = is.graph.words;
      entry = is.graph.entry;
      blocks = is.graph.blocks;
      edges = edges_noted;
    }

    -- ---- the visits of the original's run

    module _ (args : List (List ℕ)) (input : List ℕ) (n : ℕ) where
      abbrev s0 : State
      s0 = start_of original args input

      visited : AreVisited text graph entry s0 n
      unfolding image_of view_of entered_of
      visited =
          visits_are_counted original args input (given_in (image_of original) plan.marks) n is.sound is.bytes each

      -- by where the written file's run stands
      module _ (pc : ℕ) (node : node_at notes pc ≡ Some (last_node text graph entry s0 n))
          (address : (r : NoteRange) → range_at notes pc ≡ Some r → r.address ≡ (run s0 n).pc) where
        -- outside the pages it stands at no block
        behind : (in_page : Bool) → cond in_page None (Some (length notes.blocks)) ≡ Some (last_node text graph entry s0 n)
            → last_node text graph entry s0 n ≡ length graph.blocks.firsts
        behind true same = absurd cc
        behind false same =
            ap (λ o. unwrap_or o 0) (sym same) ∙ ap (λ (firsts : List ℕ). length firsts) is.graph.blocks

        begun : (word : ℕ) (place : Option NoteRange) → range_at notes pc ≡ place
            → begun_in text graph.blocks place word
            ≡ one_if (is_begun text graph.blocks (run s0 n).pc (last_node text graph entry s0 n) word)
        begun word None none =
            let last = last_node text graph entry s0 n in
            let at = behind (list_any (holds pc (pc + 1)) notes.segments) (rw none at node) in
            grind (arith, nat_tests, at)
        begun word (Some r) found =
            let last = last_node text graph entry s0 n in
            let at : Some r.node ≡ Some last = rw found at node in
            let same : r.node ≡ last = cc at in
            rw (address r found, same) refl

        visits_are : (dump : Dump) (counts visits : List ℕ) → dump.pc ≡ pc
            → AreVisits (view_of original plan.marks) notes dump counts visits
            → ((e : ℕ) → e < length notes.edges → slice_index counts e ≡ executions text graph entry s0 n e)
            → (run s0 n).ending ≡ None → (word : ℕ) → word < length text.words
            → slice_index visits word ≡ times (own_trail s0 (suc n)) (address_of text word)
        unfolding view_of
        visits_are dump counts visits at are exact lives word l =
            let size = edge_count graph plan.snips notes noted in
            let len = are.len in
            are.each word (omega (arith, l, len))
            ∙ rw (
              same_finished graph entry (slice_index counts) (executions text graph entry s0 n) word
                  (λ e inside. exact e (omega (arith, inside, size))),
              at,
              begun word (range_at notes pc) refl,
            ) (sym (visited lives word l))

-- ---- so they are of each file and its dump

module _ (file : List ℕ) (notes : Notes) (dump : Dump) (read : notes_of file ≡ Ok notes) (original : List ℕ)
    (args : List (List ℕ)) (input : List ℕ) (m : ℕ) (made : IsOfRun original file notes dump args input m) where
  profiled : IsProfiled original made.plan file notes
  profiled = is_profiled original made.plan file notes made.profile made.bytes read

  stands : original_in file notes ≡ original
  stands =
      let faithful = made.profile.faithful in
      rw (one_notes file notes faithful.notes read faithful.whole.reads) at faithful.whole.holds

  pub has_every_word : made.plan.marks ≡ every_word original → HasEveryWord file notes
  has_every_word marked = record {
    sound = rw stands profiled.sound;
    matches = rw (stands, ← marked)
        (matches original made.plan file notes profiled (leads_marked original made.plan.marks marked));
  }

pub exact_visits : (file : List ℕ) (notes : Notes) (dump : Dump) (counts visits : List ℕ) → notes_of file ≡ Ok notes
    → AreCounts notes dump counts → AreVisits (every_view (original_in file notes)) notes dump counts visits
    → AreExactVisits file notes dump visits
unfolding view_of
exact_visits file notes dump counts visits read flow are = λ original args input m made marked.
    let is = profiled file notes dump read original args input m made in
    let plan : Plan = made.plan in
    let t0 : State = start_of file args input in
    let s0 : State = start_of original args input in
    let v : ℕ = visits_by notes t0 m in
    let stands = stands file notes dump read original args input m made in
    let own : AreVisits (view_of original plan.marks) notes dump counts visits = rw marked (rw stands at are) in
    let pc : dump.pc ≡ (run t0 m).pc = ap (λ (d : Dump). d.pc) made.is in
    let at : node_at notes (run t0 m).pc ≡ Some flow.node = rw pc at flow.stands.at in
    let placed : node_at notes (run t0 m).pc ≢ None = λ none. cc in
    let stop : IsStop (edit_of original plan notes) (image_of original).entry s0 t0 m v =
    (is.runs args input made.arguments made.given).stops m
    (none_touched original plan file notes made.profile.faithful read args input m made.arguments made.given made.clear) in
    let some : 0 < v = stop.some placed in
    let tells = stop.tells placed in
    let count : suc (v - 1) ≡ v = omega (arith, some) in
    record {
      stands = stands;
      len = own.len;
      each = λ word l.
          visits_are original plan file notes is (leads_marked original plan.marks marked) args input (v - 1) (run t0 m).pc
          tells.node tells.address dump counts visits pc own
          (are_exact file notes dump counts read flow original args input m made) (stop.lives placed) word l
          ∙ ap (λ (k : ℕ). times (own_trail s0 k) (address_of (image_of original).text word)) count;
    }

pub whole_visits : (file : List ℕ) (notes : Notes) (dump : Dump) (counts visits : List ℕ) → notes_of file ≡ Ok notes
    → AreCounts notes dump counts → AreVisits (every_view (original_in file notes)) notes dump counts visits
    → AreVisitsOfWholeRuns file notes dump visits
whole_visits file notes dump counts visits read flow are = λ original args input n m made marked both.
    let is = profiled file notes dump read original args input m made in
    let own = exact_visits file notes dump counts visits read flow are original args input m made marked in
    let whole = ended_runs_are_whole (edit_of original made.plan notes) (image_of original).entry
    (start_of original args input) (start_of file args input) n m (begins_live original args input)
    (is.runs args input made.arguments made.given)
    (none_touched original made.plan file notes made.profile.faithful read args input m made.arguments made.given made.clear)
    both in
    record {
      stands = own.stands;
      len = own.len;
      each = λ word l.
          own.each word l
          ∙ ap (λ (trail : List ℕ). times trail (address_of (image_of original).text word)) (sym whole.trail);
    }
