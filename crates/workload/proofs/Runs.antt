-- The run of the generated file.
use Rattle.workload.proofs.Common.{◌≡◌, ℕ, zero, suc, ◌+◌, ◌-◌, ◌*◌, ◌%◌, ◌≤◌, false, inl, inr, List, [], ◌∷◌, length, map, refl, ap, sym, ◌∙◌, arith, cases_lt, fetch_of, sum_by, sum_by-cons, judged_in, instr_at, run, State, Exit, word_of, Codes, start_memory, routines_from, code_of, file_of, generated, IsTextWord, routine_steps, routine_sum, Routine, drawn, subst, mul-le-mul, decoded, step_of, first_state, stays_ended, start_of, first_sp, program_name, first, step_count, text_span, total, GeneratedRunsEnd}
use Rattle.v8_memory.specs.Spans.{Span, IsApart, IsApartFromAll}
use Rattle.workload.proofs.Made.{length-routines, word_count}
use Rattle.workload.proofs.Headers.{header_facts}
use Rattle.workload.proofs.Ways.{IsDrawn, AreDrawn, Ends, later, whole_run}
use Rattle.workload.proofs.Texts.{are_drawn, text_stands}

-- what each routine has at most, all have at most as many times
at_most : (f : Routine → ℕ) (most : ℕ) → ((r : Routine) → IsDrawn r → f r ≤ most) → (rs : List Routine) → AreDrawn rs
    → sum_by f rs ≤ most * length rs
at_most f most each [] d = omega arith
at_most f most each (r ∷ rs) d =
    let more : most * suc (length rs) ≡ most + most * length rs = omega arith in
    omega (arith, each r d.0, at_most f most each rs d.1, sum_by-cons f r rs, more)

-- a routine adds less than 1,024
small_sum : (r : Routine) → IsDrawn r → routine_sum r ≤ 1024
small_sum r d =
    let most : r.turns ≤ 16 = omega (arith, d.turns, d.few) in
    let below : r.amount ≤ 64 = omega (arith, d.small) in
    mul-le-mul most below

few_steps : (r : Routine) → IsDrawn r → routine_steps r ≤ 67
few_steps r d = omega (arith, d.turns, d.few)

module _ (number count : ℕ) (some : 1 ≤ count) (few : count ≤ 100000) where
  abbrev rs : List Routine
  rs = routines_from count number

  abbrev clear : Codes
  clear = record { n = false; z = false; v = false; c = false }

  ends : Ends count (first number count) (total number count) (step_count number count)
  unfolding start_of generated
  ends =
      let drawn = are_drawn count number in
      let words = word_count number count in
      let size = length-routines count number in
      let sums = at_most routine_sum 1024 small_sum rs drawn in
      let ws = map word_of (code_of rs count) in
      let sp = first_sp (program_name ∷ []) in
      let m = start_memory (file_of ws) (program_name ∷ []) in
      subst (λ (s : State). Ends count s (total number count) (step_count number count))
      (sym (ap (λ entry. first_state m entry sp []) (header_facts ws (omega (arith, words))).entry))
      (whole_run count m sp rs clear drawn size few
      (text_stands rs count (program_name ∷ []) drawn some few words) (omega (arith, sums, size)))

-- ---- what is true of each of its states

module _ (count : ℕ) (s : State) (sum k : ℕ) (e : Ends count s sum k) where
  over : (n : ℕ) → k ≤ n → run s n ≡ e.last
  over n late = later count e.way n late ∙ stays (n - k)
    where
      stays : (n : ℕ) → run e.last n ≡ e.last
      stays zero = refl
      stays (suc n) = ap step_of (stays n) ∙ stays_ended e.last (Exit (sum % 256)) e.ending

  in_text : (n : ℕ) → IsTextWord count (run s n).pc
  in_text n = elim (cases_lt n k) [
    | inl early ↦ (e.way.during n early).inside
    | inr late ↦ rw (over n late) e.inside
  ]

  judges_none : (n : ℕ) → judged_in (run s n) (instr_at (run s n)) ≡ []
  judges_none n = elim (cases_lt n k) [
    | inl early ↦ (e.way.during n early).judges_none
    | inr late ↦ rw (over n late) (ap (λ x. judged_in e.last (decoded x (fetch_of e.last.memory e.last.pc))) e.ending)
  ]

all_apart : (count pc : ℕ) → IsTextWord count pc → (pages : List Span) → IsApartFromAll pages (text_span count)
    → IsApartFromAll pages (record { from = pc; count = 1 })
all_apart count pc at [] all = tt
all_apart count pc at (page ∷ pages) all = (apart all.0, all_apart count pc at pages all.1)
  where
    apart : IsApart page (text_span count) → IsApart page (record { from = pc; count = 1 })
    apart (inl before) = let above = at.above in inl (omega arith)
    apart (inr after) = let below = at.below in inr (omega arith)

pub generated_runs_end : GeneratedRunsEnd
generated_runs_end number count some few =
    let s = first number count in
    let e = ends number count some few in
    let rs = routines_from count number in
    let stands = in_text count s (total number count) (step_count number count) e in
    let none = judges_none count s (total number count) (step_count number count) e in
    record {
      few = omega (arith, at_most routine_steps 67 few_steps rs (are_drawn count number), length-routines count number);
      goes_on = λ n early. (e.way.during n early).live;
      holds = rw (e.way.arrives) e.holds;
      exits = rw (e.way.arrives) e.ending;
      in_text = stands;
      judges_none = none;
      untouched = λ pages all n. record {
        outside = λ j l. all_apart count (run s j).pc (stands j) pages all;
        unjudged = λ j l. rw (none j) tt;
      };
    }
