-- Of a tame file a profile is made, and its run ends, and tells how often edges are completed.
use Rattle.eel.proofs.Common.{◌≡◌, ℕ, suc, ◌+◌, ◌-◌, ◌*◌, ◌^◌, ◌<◌, ◌≤◌, inl, inr, List, [], ◌∷◌, ◌++◌, length, map, Some, None, Ok, refl, ap, sym, ◌∙◌, subst, arith, All, sum, image_of, Notes, notes_of, Ending, State, run, IsUntouched, pages_of, AreArguments, walk, has_cell, Dump, Plan, CountFault, AreCounts, EditFault, edit_of, visits_by, Edit, IsProfiled, IsExact, MayRefuse, original_graph, dump_at, counts_are_exact, notes_of_graph, edge_count, nat_tests, none-some, append-nil, cases_lt, All-head, All-nil, All-tail, Mapping, NoteSegment, page_of, HasPages, IsInRoom, note_of, AreRunsAlike, EndsWithStep, IsOver, begins_live, profiles_need_little, EndsAlone, alone, walk_alone, IsLastDump, IsProfileOf, ProfileRefuses, guessed, profile_plan}
use Rattle.span_tree.proofs.LoopBounds.{counted_few}
use Rattle.count_rebuild.specs.declared.fault.CountFault.TheVariants as count_faults
use Rattle.count_rebuild.specs.Code.{IsRefused}
use Rattle.edit_core.specs.declared.requests.EditFault.TheVariants as faults
use Rattle.edit_core.specs.Cost.{TakesFewSteps}
use Rattle.exact_counts.specs.Sizes.{HasEndedBy}
use Rattle.exact_counts.proofs.Ends.{ended_runs_tell}
use Rattle.exact_counts.proofs.Soon.{profiles_end_soon}
use Rattle.exact_counts.proofs.Totals.{executions_add_up}
use Rattle.eel_reports.specs.Tame.{AreAbove, EndsWithin, IsTame}
use Rattle.eel.proofs.ExactProfiles.{edit_is_profiled, one_notes}

-- of a run that has ended only want of memory refuses the counts
only_memory : (dump : Dump) (fault : CountFault) → (dump.ending ≡ None → ⊥) → MayRefuse dump fault
    → fault ≡ count_faults.NoMemory
only_memory dump (count_faults.Between pc) ended may = absurd (ended may.1)
only_memory dump count_faults.NoMemory ended may = refl
only_memory dump _ ended may = absurd may

-- ---- the edit

-- nothing but want of memory refuses a profile
pub profiled_or_wanting : (file : List ℕ) → IsTame file → (fault : EditFault)
    → ProfileRefuses (guessed file) file fault
    → fault ≡ faults.NoMemory
profiled_or_wanting file tame (faults.File first) is = absurd (cc (tame.sound, is))
profiled_or_wanting file tame (faults.Room needed had) (cells, are, cramped) =
    let size = are.size in
    let counted = counted_few (length cells) (has_cell cells) in
    let little = profiles_need_little file (profile_plan cells) tame.sound refl (omega (arith, size, counted)) in
    let room = tame.room in
    let needs = cramped.needed_is in
    let has = cramped.had_is in
    let less = cramped.less in
    absurd (omega (arith, little, room, needs, has, less))
profiled_or_wanting file tame faults.NoMemory is = refl

-- ---- pages of notes

low_base : (file : List ℕ) → 1 ≤ (image_of file).room → (image_of file).base ≤ 0x80000000
unfolding image_of
low_base file some = omega (arith, some)

room_above : (base : ℕ) (file : List ℕ) (room : List Mapping) (editor : Mapping)
    → (image_of file).base ≡ base → All (IsInRoom file) room → base ≤ editor.start
    → AreAbove base (map page_of (map note_of (room ++ editor ∷ [])))
room_above base file [] editor same inside last = (last, tt)
room_above base file (m ∷ room) editor same inside last =
    let first = (All-head (IsInRoom file) m room inside).0 in (
      omega (arith, first, same),
      room_above base file room editor same (All-tail (IsInRoom file) m room inside) last,
    )

no_arguments : AreArguments []
no_arguments = record { few = omega arith; short = omega arith; bytes = All-nil _ }

-- ---- the profile of a tame file, with its notes

module _ (file written : List ℕ) (tame : IsTame file) (profile : IsProfileOf (guessed file) file written) (notes : Notes)
    (reads : notes_of written ≡ Ok notes) where
  abbrev plan : Plan
  plan = profile_plan profile.cells

  is : IsProfiled file plan written notes
  is = edit_is_profiled (guessed file) file written notes profile tame.bytes reads

  same : profile.made.faithful.notes ≡ notes
  same =
      let faithful = profile.made.faithful in one_notes written notes faithful.notes reads faithful.whole.reads

  pages : HasPages file written notes
  pages = subst (HasPages file written) same profile.made.faithful.pages

  above : AreAbove (image_of file).base (pages_of notes)
  above =
      let room = tame.room in
      let low = low_base file (omega (arith, room)) in
      let own = pages.own.0 in
      subst (λ (segments : List NoteSegment). AreAbove (image_of file).base (map page_of segments)) pages.noted
      (room_above (image_of file).base file pages.room pages.editor refl pages.inside (omega (arith, low, own)))

  untouched : (n : ℕ) → IsUntouched (pages_of notes) (alone file) n
  untouched n = tame.untouched (pages_of notes) above n

  abbrev g : Edit
  g = edit_of file plan notes

  abbrev entry : ℕ
  entry = (image_of file).entry

  abbrev s0 : State
  s0 = alone file

  abbrev t0 : State
  t0 = alone written

  alike : AreRunsAlike g entry s0 t0
  alike = is.runs [] [] no_arguments (All-nil _)

  few_steps : TakesFewSteps g entry s0 t0
  few_steps =
      subst (λ (n : Notes). TakesFewSteps (edit_of file plan n) entry s0 t0) same
      (profile.made.cost.steps [] [] no_arguments (All-nil _))

  soon : HasEndedBy t0 (64 + 128 * tame.steps)
  soon =
      profiles_end_soon notes.version g entry s0 t0 tame.steps is.counters.counters alike few_steps
      (λ none. none-some tame.ending (sym none ∙ tame.ran.ends)) (untouched tame.steps)

  pub ends : EndsWithin t0 (2 ^ 32)
  ends =
      let few = soon.few in
      let most = tame.few in
      record { steps = soon.steps; few = omega (arith, few, most); ended = soon.ended }

  -- ---- the dump of its run

  module _ (dump : Dump) (last : IsLastDump written notes dump) where
    abbrev m : ℕ
    m = last.steps

    over : IsOver notes s0 t0 m
    over = record { ended = last.ended; untouched = untouched (visits_by notes t0 m) }

    short : m < 2 ^ 32
    short = elim (cases_lt ends.steps m) [
      | inl before ↦ absurd (ends.ended (last.made ends.steps before))
      | inr after ↦ (let few = ends.few in omega (arith, few, after))
    ]

    abbrev v : ℕ
    v = visits_by notes t0 m

    exact : IsExact file plan notes s0 (dump_at notes t0 m) (v - 1)
    exact =
        let few = short in
        counts_are_exact file plan written notes [] [] m is no_arguments (All-nil _) (untouched v)
        (grind (arith, nat_tests, few))

    pub tells : (fault : CountFault) → IsRefused notes dump fault → fault ≡ count_faults.NoMemory
    tells fault refused =
        only_memory (dump_at notes t0 m) fault last.ended
        (exact.refused fault (subst (λ (d : Dump). IsRefused notes d fault) last.is refused))

    told : EndsWithStep g entry s0 t0 m v
    told = ended_runs_tell g entry s0 t0 m (begins_live file [] []) alike over

    -- the original's run ends with its last visit
    last_visit : (ending : Ending) (steps : ℕ) → EndsAlone file ending steps → v ≡ steps
    last_visit ending steps ran = elim (cases_lt v steps) [
      | inl before ↦ absurd (last.ended (sym told.ending ∙ ran.made v before))
      | inr below ↦ elim (cases_lt steps v) [
        | inl after ↦ absurd (none-some ending (sym (told.before steps after) ∙ ran.ends))
        | inr above ↦ omega (arith, below, above)
      ]
    ]

    -- which completes no edge
    no_more : (ending : Ending) (steps n : ℕ) → EndsAlone file ending steps → steps ≡ suc n
        → walk_alone file steps ≡ walk_alone file n
    unfolding walk
    no_more ending steps n ran one =
        let over : (run s0 (suc n)).ending ≡ Some ending = rw one at ran.ends in
        ap (walk_alone file) one ∙ rw over (append-nil (walk_alone file n))

    pub adds_up : (counts : List ℕ) → AreCounts notes dump counts → (ending : Ending) (steps : ℕ)
        → EndsAlone file ending steps → sum counts ≡ length (walk_alone file steps)
    adds_up counts are ending steps ran =
        let visits = last_visit ending steps ran in
        let some = told.some in
        let given = subst (λ (d : Dump). AreCounts notes d counts) last.is are in
        let len = are.len in
        executions_add_up (image_of file).text (original_graph file plan) entry s0 (v - 1) counts
        (len ∙ edge_count (original_graph file plan) plan.snips notes (notes_of_graph file plan notes is.counters is.graph))
        (λ e inside. exact.counts counts given e (omega (arith, inside, len)))
        ∙ ap length (sym (no_more ending steps (v - 1) ran (omega (arith, visits, some))))
