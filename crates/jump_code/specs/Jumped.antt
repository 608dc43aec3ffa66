-- What a JMPL and a CALL do at the original's address; the image of a CALL against that.
use Rattle.std.specs.Prelude.{◌≡◌, ℕ, ◌+◌, Bool, length, None, ℤ}
use Rattle.v8_decode.specs.declared.Op2.{Op2}
use Rattle.v8_decode.specs.declared.Instr.TheVariants as i
use Rattle.v8_alu.specs.Numbers.{wrapped}
use Rattle.v8_step.specs.declared.Slot.TheVariants.{NoSlot}
use Rattle.v8_step.specs.State.{State}
use Rattle.v8_step.specs.Step.{act}
use Rattle.code_runs.specs.Counted.{count_stores}
use Rattle.code_runs.specs.Leads.{Leads, IsBetween, IsSilent}
use Rattle.code_runs.specs.Points.{moved}
use Rattle.jump_code.specs.Links.{link, past, IsAboutToCall}
use Rattle.jump_code.specs.PageWords.{IsPageWord}

-- the original after its JMPL
abbrev pub jumped : ℕ → ℕ → ℕ → Op2 → State → State
jumped address rd rs1 op2 s = act (moved address (wrapped (address + 4)) NoSlot s) (i.Jmpl rd rs1 op2)

-- the original after a CALL
abbrev pub called : ℕ → ℤ → State → State
called address disp30 s = act (moved address (wrapped (address + 4)) NoSlot s) (i.Call disp30)

-- It goes on, and the image's words lead to their end, where the machine is the original but for the place. They store
-- nothing.
pub record CallComesToEnd (address : ℕ) (disp30 : ℤ) (s : State) (count : ℕ) : Type 0 where
  pub live : (called address disp30 s).ending ≡ None
  pub path : Leads (IsBetween s count IsPageWord) s (past s count s.memory (called address disp30 s)) count
  pub silent : IsSilent s count
  pub memory : (called address disp30 s).memory ≡ s.memory
  pub stored : (counted : ℕ → Bool) → count_stores counted s count ≡ 0

abbrev pub CallsSimulate : Type 0
CallsSimulate =
    (address : ℕ) (disp30 : ℤ) (s : State) → IsAboutToCall address s
    → CallComesToEnd address disp30 s (length (link 15 address))
