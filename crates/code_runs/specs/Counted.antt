-- How often the steps of a run store at certain addresses. A store counts once, where any of its bytes is at one of
-- them. A store that ends the run stores nothing.
use Rattle.std.specs.Prelude.{ℕ, zero, suc, ◌+◌, Bool, Option, Some, None, if◌then◌else◌}
use Rattle.std.specs.Int.{byte_len, w8, w32}
use Rattle.std.specs.List.{list_any, range_with_len}
use Rattle.v8_decode.specs.declared.Instr.{Instr}
use Rattle.v8_decode.specs.declared.Instr.TheVariants as i
use Rattle.v8_decode.specs.Words.{decode_of}
use Rattle.v8_memory.specs.Regions.{fetch_of}
use Rattle.v8_memory.specs.Spans.{Span}
use Rattle.v8_step.specs.Accesses.{store_size}
use Rattle.v8_step.specs.declared.Ending.{Ending}
use Rattle.v8_step.specs.State.{State, sum_of}
use Rattle.v8_step.specs.Step.{step_of}
use Rattle.v8_step.specs.Run.{run}

-- the bytes that an instruction stores, if it stores any (B.4, B.7, B.8)
abbrev pub stores_at : State → Instr → Option Span
stores_at s (i.Store kind rd rs1 op2) = Some (record { from = sum_of s rs1 op2; count = store_size kind })
stores_at s (i.Ldstub rd rs1 op2) = Some (record { from = sum_of s rs1 op2; count = byte_len w8 })
stores_at s (i.Swap rd rs1 op2) = Some (record { from = sum_of s rs1 op2; count = byte_len w32 })
stores_at s _ = None

-- some byte of a span is at such an address
unfoldable pub any_byte : (ℕ → Bool) → Span → Bool
any_byte counted span = list_any counted (range_with_len span.from span.count)

abbrev pub one_if : (ℕ → Bool) → Option Span → ℕ
one_if counted None = 0
one_if counted (Some span) = if any_byte counted span then 1 else 0

abbrev pub on_fetched : (ℕ → Bool) → State → Option ℕ → ℕ
on_fetched counted s None = 0
on_fetched counted s (Some word) = one_if counted (stores_at s (decode_of word))

abbrev pub unless_over : Option Ending → ℕ → ℕ
unless_over None n = n
unless_over (Some ending) n = 0

-- one where the step of this state is a store at such an address
unfoldable pub stores_in_step : (ℕ → Bool) → State → ℕ
stores_in_step counted s =
    unless_over s.ending (unless_over (step_of s).ending (on_fetched counted s (fetch_of s.memory s.pc)))

-- how many of the first n steps are
abbrev pub count_stores : (ℕ → Bool) → State → ℕ → ℕ
count_stores counted s zero = 0
count_stores counted s (suc n) = count_stores counted s n + stores_in_step counted (run s n)
