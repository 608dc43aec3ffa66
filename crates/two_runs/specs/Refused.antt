-- Accesses that the machine refuses, and memory that a run can't touch without one.
use Rattle.std.specs.Prelude.{◌≡◌, ◌≢◌, ℕ, suc, ◌-◌, ◌^◌, ◌<◌, ◌≤◌, ◌⊎◌, Bool, true, false, ◌&&◌, ◌||◌, ◌==◌, List, Option, Some, None}
use Rattle.v8_decode.specs.declared.Instr.{Instr}
use Rattle.v8_decode.specs.declared.Instr.TheVariants as i
use Rattle.v8_decode.specs.Words.{decode_of}
use Rattle.v8_memory.specs.Regions.{Memory, byte_at, fetch_of}
use Rattle.v8_memory.specs.Spans.{Span, AllApart, IsApartFromAll}
use Rattle.v8_alu.specs.Conditions.{holds_of}
use Rattle.v8_step.specs.declared.Ending.{Ending}
use Rattle.v8_step.specs.declared.Ending.TheVariants.{Trap, Window}
use Rattle.v8_step.specs.State.{State}
use Rattle.v8_step.specs.Traps.{instruction_access_exception, data_access_exception, call_system, EFAULT}
use Rattle.v8_step.specs.Calls.{refuses}
use Rattle.v8_step.specs.Step.{step_of, trap_number}
use Rattle.v8_step.specs.Run.{run}
use Rattle.two_runs.specs.Needed.{instr_at, judged_in}

-- a run ended by a fetch, by a load or store, or by a window's frame that was refused
abbrev pub is_refusal : Option Ending → Bool
is_refusal (Some (Trap number)) = (number == instruction_access_exception) || (number == data_access_exception)
is_refusal (Some Window) = true
is_refusal _ = false

-- the next step is a system call
abbrev pub calls_by : State → Instr → Bool
calls_by s (i.Ticc cond rs1 op2) = holds_of cond s.codes && (trap_number s rs1 op2 == call_system)
calls_by s _ = false

abbrev pub calls_on_word : State → Option ℕ → Bool
calls_on_word s None = false
calls_on_word s (Some word) = calls_by s (decode_of word)

-- the next step is a system call that answers EFAULT, so that its buffer is refused
abbrev pub IsFaulted : State → Type 0
IsFaulted s = (calls_on_word s (fetch_of s.memory s.pc) ≡ true) × (step_of s ≡ refuses EFAULT s)

-- ---- runs of which nothing is refused

-- none of the first n steps is a system call that answers EFAULT
abbrev pub NoBufferRefused : State → ℕ → Type 0
NoBufferRefused s0 n = (k : ℕ) → k < n → ¬ IsFaulted (run s0 k)

-- Here no page can be added: memory has a byte there, or the address lies below 4096.
abbrev pub IsNoRoom : Memory → ℕ → Type 0
IsNoRoom m address = (address < 0x1000) ⊎ (byte_at m address ≢ None)

-- Of the first n steps no access is refused, nor the fetch of the next, unless it is one of memory that isn't code, or of
-- the first 4096 bytes.
pub record IsGranted (s0 : State) (n : ℕ) : Type 0 where
  pub accesses : is_refusal (run s0 n).ending ≡ false
  pub fetch : (run s0 (suc n)).ending ≡ Some (Trap instruction_access_exception)
      → IsNoRoom (run s0 n).memory (run s0 n).pc
  pub buffers : NoBufferRefused s0 n

-- ---- runs of which nothing is refused in some pages

-- an access of a live state's next step is refused
abbrev pub IsRefused : State → Type 0
IsRefused s = (s.ending ≡ None) × ((is_refusal (step_of s).ending ≡ true) ⊎ IsFaulted s)

-- of the first n steps no fetch that is refused, and no byte that a refused step judges, lies in the pages
pub record IsUntouchedWhereRefused (pages : List Span) (s0 : State) (n : ℕ) : Type 0 where
  pub outside : (k : ℕ) → k ≤ n → (run s0 k).ending ≡ None → fetch_of (run s0 k).memory (run s0 k).pc ≡ None
      → IsApartFromAll pages (record { from = (run s0 k).pc; count = 1 })
  pub unjudged : (k : ℕ) → k < n → IsRefused (run s0 k)
      → AllApart pages (judged_in (run s0 k) (instr_at (run s0 k)))

-- all addresses from 4096 on
abbrev pub above_first_page : Span
above_first_page = record { from = 0x1000; count = 2 ^ 32 - 0x1000 }
