-- Of a faithful edit all can be seen from outside that its original shows.
use Rattle.edit_core.proofs.Common.{◌≡◌, ℕ, zero, suc, ◌+◌, ◌&&◌, not, ◌≤◌, ◌⊎◌, inl, inr, cases_Bool, false≢true, true, false, List, [], ◌∷◌, ◌++◌, length, map, Some, None, refl, ap, sym, ◌∙◌, arith, append-nil, list_any, and_parts, or_parts, nat_tests, map-append, map-map, Notes, ProgramHeader, loadable, program_headers, mapping_of, mappings, kept, region_of, Span, IsApart, IsApartFromAll, AllApart, State, AreBytes, run, run_puts, puts_nothing, stays_ended, pages_of, own_trail, trail_of, IsUntouched, AreArguments, program_name, stack_region, start_memory, start_of, Plan, append_assoc, has_memory_outside_a_run, is_last_page, leaves_room, load_fault, loadable_file, are_apart, heap_span, is_apart, is_apart_from, span_of, span_of_mapping, page_of, lived_to, HasPages, IsFaithful, IsMatched, note_of, EditsAreUntouched, EditsCrashAlike, EditsDoTheSame, GrantedRunsAreAlike}
use Rattle.v8_step.specs.declared.Ending.TheVariants.{Exit}
use Rattle.two_runs.specs.Needed.{instr_at, judged_in}
use Rattle.two_runs.specs.Refused.{NoBufferRefused, IsFaulted, IsGranted, IsRefused, above_first_page, is_refusal}
use Rattle.two_runs.specs.Code.{IsUnmapped}
use Rattle.two_runs.proofs.Unmapped.{after_run, granted_is_untouched, judges, refusal_stays, unmapped_is_untouched}
use Rattle.v8_process.proofs.Loading.{mapped_apart}
use Rattle.edit_core.specs.Code.{CrashesAreUntouched}
use Rattle.image_code.specs.Store.{Edit}
use Rattle.edit_core.specs.Outwardly.{LooksAs}
use Rattle.edit_core.proofs.Trails.{few_visits, from_on, over_or_not, own_live, stays}

-- ---- spans of which no two have a common address

beside : (x : Span) (xs ys zs : List Span) → is_apart_from x (xs ++ (ys ++ zs)) ≡ true → IsApartFromAll ys x
beside x (w ∷ xs) ys zs h = beside x xs ys zs (and_parts (is_apart x w) (is_apart_from x (xs ++ (ys ++ zs))) h).1
beside x [] [] zs h = tt
beside x [] (y ∷ ys) zs h =
    let parts = and_parts (is_apart x y) (is_apart_from x (ys ++ zs)) h in
    (grind (arith, nat_tests, parts.0), beside x [] ys zs parts.1)

between : (xs ys : List Span) (z : Span) → are_apart (xs ++ (ys ++ z ∷ [])) ≡ true → AllApart ys (xs ++ z ∷ [])
between (x ∷ xs) ys z h =
    let parts = and_parts (is_apart_from x (xs ++ (ys ++ z ∷ []))) (are_apart (xs ++ (ys ++ z ∷ []))) h in
    (beside x xs ys (z ∷ []) parts.0, between xs ys z parts.1)
between [] [] z h = (tt, tt)
between [] (y ∷ ys) z h =
    let parts = and_parts (is_apart_from y (ys ++ z ∷ [])) (are_apart (ys ++ z ∷ [])) h in
    let last = beside y ys (z ∷ []) [] parts.0 in
    ((grind (arith, last.0), (between [] ys z parts.1).0), tt)

-- ---- what is added lies behind the first page

-- what is apart from all addresses behind that page is apart from all that is mapped
lower : (file : List ℕ) (hs : List ProgramHeader) (y : Span)
    → list_any (λ h. leaves_room h && not (is_last_page h)) hs ≡ false → IsApart above_first_page y
    → IsApartFromAll (map span_of_mapping (map (mapping_of file) hs)) y
lower file [] y none apart = tt
lower file (h ∷ hs) y none apart =
    let parts = or_parts (leaves_room h && not (is_last_page h)) _ none in
    (grind (arith, nat_tests, parts.0, apart), lower file hs y parts.1 apart)

rest : (xs ys : List Span) (y : Span) → IsApartFromAll (xs ++ ys) y → IsApartFromAll ys y
rest [] ys y apart = apart
rest (x ∷ xs) ys y apart = rest xs ys y apart.1

module _ (original file : List ℕ) (notes : Notes) (has : HasPages original file notes) (loads : load_fault file ≡ None)
  where
    abbrev olds : List Span
    olds = map span_of_mapping (map kept (mappings original))

    spans : map span_of_mapping (mappings file) ≡ olds ++ pages_of notes
    spans =
        rw (has.mapped, map-append span_of_mapping (map kept (mappings original)), ← has.noted)
        (ap (λ z. olds ++ z) (sym (map-map page_of note_of (has.room ++ has.editor ∷ []))))

    -- what is added isn't mapped by the original
    unmapped : (texts : List (List ℕ)) → IsUnmapped (pages_of notes) (start_memory original texts)
    unmapped texts =
        let all = mapped_apart file (stack_region texts).bytes loads in
        let apart = between (heap_span ∷ olds) (pages_of notes) (span_of (stack_region texts))
        (rw (map-append span_of_mapping (mappings file), spans, append_assoc) at all) in
        let same : map span_of (map region_of (mappings original)) ≡ olds =
        map-map span_of region_of (mappings original) ∙ sym (map-map span_of_mapping kept (mappings original)) in
        let more = map-append span_of (map region_of (mappings original)) in
        record { start = refl; room = omega arith; apart = rw (more, same) apart }

    pages_high : (y : Span) → IsApart above_first_page y → IsApartFromAll (pages_of notes) y
    unfolding mappings has_memory_outside_a_run
    pages_high y apart =
        let all : IsApartFromAll (map span_of_mapping (mappings file)) y =
        lower file (loadable (program_headers file)) y (loadable_file file loads).segment_room apart in
        rest olds (pages_of notes) y (rw spans at all)

    all_high : (ys : List Span) → AllApart (above_first_page ∷ []) ys → AllApart (pages_of notes) ys
    all_high [] apart = tt
    all_high (y ∷ ys) apart = (pages_high y apart.0.0, all_high ys apart.1)

-- ---- runs

-- what matches shows what the original shows
shown : (e : Edit) (entry : ℕ) (s0 t0 : State) (n : ℕ) → IsMatched e entry s0 t0 n → (m : ℕ) × LooksAs s0 t0 n m
shown e entry s0 t0 n h = elim (over_or_not (run s0 n).ending) [
  | inl live ↦
      let same : length (trail_of e.notes t0 h.moment) ≡ length (own_trail s0 n) =
      ap (λ (l : List ℕ). length l) h.trail in
      let looks : LooksAs s0 t0 n h.moment =
      record {
        later = omega (arith, same, own_live s0 n live, few_visits e.notes t0 h.moment);
        ending = h.ends.ending;
        output = λ descriptor. sym (h.ends.world.output descriptor);
      } in
      (h.moment, looks)
  | inr over ↦
      let m = h.moment in
      let still : (k : ℕ) → m ≤ k → (run t0 k).ending ≡ (run t0 m).ending =
      λ k least. ap (λ (t : State). t.ending) (stays t0 m k over.0 least (h.ends.ending ∙ over.1)) in
      let looks : LooksAs s0 t0 n (n + m) =
      record {
        later = omega arith;
        ending = still (n + m) (omega arith) ∙ h.ends.ending;
        output = λ descriptor. from_on (λ k. run_puts t0 k descriptor ≡ run_puts t0 m descriptor) m refl
            (λ k least same. ap (λ (more : List ℕ). run_puts t0 k descriptor ++ more)
            (puts_nothing (run t0 k) over.0 descriptor (still k least ∙ h.ends.ending ∙ over.1)) ∙ append-nil _ ∙ same)
            (n + m) (omega arith) ∙ sym (h.ends.world.output descriptor);
      } in
      (n + m, looks)
]

-- a run that has ended by `exit` is granted its accesses
pub exit_granted : (s0 : State) (n status : ℕ) → NoBufferRefused s0 n → (run s0 n).ending ≡ Some (Exit status)
    → IsGranted s0 n
exit_granted s0 n status buffers over =
    let last : (run s0 (suc n)).ending ≡ Some (Exit status) =
    ap (λ (t : State). t.ending) (stays_ended (run s0 n) (Exit status) over) ∙ over in
    record { accesses = ap is_refusal over; fetch = λ trapped. absurd (cc); buffers = buffers }

-- what isn't refused by step n + 1 is granted by step n
granted_before : (s0 : State) (n : ℕ) → NoBufferRefused s0 (suc n) → is_refusal (run s0 (suc n)).ending ≡ false
    → IsGranted s0 n
granted_before s0 n buffers fine = record {
  accesses = elim (cases_Bool (is_refusal (run s0 n).ending)) [
    | inl is ↦ absurd (false≢true (sym fine ∙ refusal_stays (run s0 n) is))
    | inr is ↦ is
  ];
  fetch = λ trapped. absurd (false≢true (sym fine ∙ ap is_refusal trapped));
  buffers = λ k below. buffers k (omega (arith, below));
}

pub edits_are_untouched : EditsAreUntouched
unfolding start_of
edits_are_untouched original plan file faithful args input n granted =
    granted_is_untouched (pages_of faithful.notes) (start_of original args input) n refl
    (unmapped original file faithful.notes faithful.pages faithful.whole.loads (program_name ∷ args))
    (pages_high original file faithful.notes faithful.pages faithful.whole.loads) granted

pub crashes_are_untouched : CrashesAreUntouched
unfolding start_of
crashes_are_untouched original plan file faithful args input n refused =
    let pages = faithful.pages in
    let loads = faithful.whole.loads in
    unmapped_is_untouched (pages_of faithful.notes) (start_of original args input) n refl
    (unmapped original file faithful.notes pages loads (program_name ∷ args)) (record {
      outside = λ k below live none. pages_high original file _ pages loads _ (refused.outside k below live none).0;
      unjudged = λ k below is. all_high original file _ pages loads _ (refused.unjudged k below is);
    })

module _ (original : List ℕ) (plan : Plan) (file : List ℕ) (faithful : IsFaithful original plan file)
    (args : List (List ℕ)) (input : List ℕ) (given : AreArguments args) (read : AreBytes input) where
  abbrev s0 : State
  s0 = start_of original args input

  abbrev t0 : State
  t0 = start_of file args input

  abbrev pages : List Span
  pages = pages_of faithful.notes

  -- behind a step of which nothing is refused, or what is judges no byte of the pages
  comes_on : (k : ℕ) → IsUntouched pages s0 k
      → (IsRefused (run s0 k) → AllApart pages (judged_in (run s0 k) (instr_at (run s0 k))))
      → (m : ℕ) × LooksAs s0 t0 (suc k) m
  unfolding start_of
  comes_on k untouched clear =
      let loads = faithful.whole.loads in
      let none = unmapped original file faithful.notes faithful.pages loads (program_name ∷ args) in
      shown _ _ _ _ (suc k) ((faithful.runs args input given read).leads k untouched
      (judges pages (run s0 k) (after_run pages s0 k none) clear))

  -- where nothing is refused, wherever the original then stands
  stands : (n : ℕ) → NoBufferRefused s0 n → is_refusal (run s0 n).ending ≡ false → (m : ℕ) × LooksAs s0 t0 n m
  unfolding start_of
  stands zero buffers fine = (0, record { later = omega arith; ending = refl; output = λ descriptor. refl })
  stands (suc k) buffers fine =
      comes_on k (edits_are_untouched original plan file faithful args input k (granted_before s0 k buffers fine))
      (λ refused. absurd (none_refused refused.1))
    where
      none_refused : (is_refusal (run s0 (suc k)).ending ≡ true) ⊎ IsFaulted (run s0 k) → ⊥
      none_refused (inl is) = false≢true (sym fine ∙ is)
      none_refused (inr fault) = buffers k (omega arith) fault

pub does_the_same : EditsDoTheSame
does_the_same original plan file faithful args input given read =
    let s0 = start_of original args input in
    let t0 = start_of file args input in
    let standing = stands original plan file faithful args input given read in
    record {
      exits = λ n status buffers over. standing n buffers (ap is_refusal over);
      endless = λ buffers live.
          let all = λ (n : ℕ). standing n (buffers n) (ap is_refusal (live n)) in
          (λ m. lived_to t0 m (all m).0 (all m).1.later ((all m).1.ending ∙ live m), all);
      stands = standing;
    }

pub granted_runs_are_alike : GrantedRunsAreAlike
granted_runs_are_alike original plan file is args input given read =
    let its = is.faithful.runs args input given read in
    let untouched = edits_are_untouched original plan file is.faithful args input in
    record {
      answered = λ n granted. its.answered n (untouched n granted);
      bounded = λ n granted. (is.cost.steps args input given read).bounded n (untouched (suc n) granted);
      stops = λ m granted. its.stops m (untouched _ granted);
    }

pub crash_alike : EditsCrashAlike
crash_alike original plan file faithful args input given read n refused clear =
    comes_on original plan file faithful args input given read n
    (crashes_are_untouched original plan file faithful args input n refused)
    (λ is. all_high original file faithful.notes faithful.pages faithful.whole.loads _ (clear is))
