-- The laws of the generated file.
use Rattle.std.specs.Prelude.{◌≡◌, ℕ, ◌+◌, ◌*◌, ◌%◌, ◌<◌, ◌≤◌, List, [], length, map, Some, None}
use Rattle.std.specs.List.{sum_by}
use Rattle.elf32_sparc.specs.FileFault.{fault, load_fault}
use Rattle.elf32_sparc.specs.Image.{image_of}
use Rattle.v8_encode.specs.Encoding.{word_of}
use Rattle.v8_memory.specs.Spans.{Span, IsApartFromAll}
use Rattle.v8_step.specs.declared.Ending.TheVariants.{Exit}
use Rattle.v8_step.specs.State.{State, register_of}
use Rattle.v8_step.specs.Run.{run}
use Rattle.two_runs.specs.Needed.{instr_at, judged_in, IsUntouched}
use Rattle.v8_process.specs.Start.{start_of}
use Rattle.workload.specs.declared.draws.Routine.{Routine}
use Rattle.workload.specs.Generated.{routines_from, code_of, generated}

-- nothing keeps it from being edited, or from being run
abbrev pub HasNoFault : Type 0
HasNoFault =
    (number count : ℕ) → 1 ≤ count → count ≤ 100000
    → (fault (generated number count) ≡ None) × (load_fault (generated number count) ≡ None)

-- its text is the program's words, nine for each routine and two
pub record HoldsItsCode (number count : ℕ) : Type 0 where
  pub text : (image_of (generated number count)).text
      ≡ record { start = 0x10054; words = map word_of (code_of (routines_from count number) count) }
  pub size : length (image_of (generated number count)).text.words ≡ 9 * count + 2

abbrev pub GeneratedHoldsItsCode : Type 0
GeneratedHoldsItsCode = (number count : ℕ) → 1 ≤ count → count ≤ 100000 → HoldsItsCode number count

-- ---- its run

-- the state in which it starts, without arguments and input
abbrev pub first : ℕ → ℕ → State
first number count = start_of (generated number count) [] []

-- what a routine takes of steps, and what it adds
abbrev pub routine_steps : Routine → ℕ
routine_steps r = 4 * r.turns + 3

abbrev pub routine_sum : Routine → ℕ
routine_sum r = r.turns * r.amount

-- two steps for each call, two for the exit, and those of the routines
abbrev pub step_count : ℕ → ℕ → ℕ
step_count number count = 2 * count + 2 + sum_by routine_steps (routines_from count number)

-- what %o0 holds at the end
abbrev pub total : ℕ → ℕ → ℕ
total number count = sum_by routine_sum (routines_from count number)

-- the text
abbrev pub text_span : ℕ → Span
text_span count = record { from = 0x10054; count = 4 * (9 * count + 2) }

pub record IsTextWord (count pc : ℕ) : Type 0 where
  pub aligned : pc % 4 ≡ 0
  pub above : 0x10054 ≤ pc
  pub below : pc < 0x10054 + 4 * (9 * count + 2)

-- The run goes on for exactly so many steps, at most 69 for each routine and two, and exits with the low byte of what
-- %o0 holds. It stays at words of the text, judges no byte of memory, and so touches no pages apart from the text.
pub record RunsToItsExit (number count : ℕ) : Type 0 where
  pub goes_on : (n : ℕ) → n < step_count number count → (run (first number count) n).ending ≡ None
  pub exits : (run (first number count) (step_count number count)).ending ≡ Some (Exit (total number count % 256))
  pub holds : register_of (run (first number count) (step_count number count)) 8 ≡ total number count
  pub few : step_count number count ≤ 69 * count + 2
  pub in_text : (n : ℕ) → IsTextWord count (run (first number count) n).pc
  pub judges_none : (n : ℕ)
      → judged_in (run (first number count) n) (instr_at (run (first number count) n)) ≡ []
  pub untouched : (pages : List Span) → IsApartFromAll pages (text_span count) → (n : ℕ)
      → IsUntouched pages (first number count) n

abbrev pub GeneratedRunsEnd : Type 0
GeneratedRunsEnd = (number count : ℕ) → 1 ≤ count → count ≤ 100000 → RunsToItsExit number count
