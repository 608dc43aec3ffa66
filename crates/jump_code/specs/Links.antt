-- The link of a transfer: the address at which the original has it.
use Rattle.std.specs.Prelude.{ℕ, zero, suc, ◌+◌, ◌*◌, ◌/◌, ◌%◌, ◌^◌, ◌<◌, ◌-◌, false, List, [], ◌∷◌, length, pos}
use Rattle.v8_decode.specs.declared.Op2.TheVariants.{Imm}
use Rattle.v8_decode.specs.declared.AluOp.TheVariants as ops
use Rattle.v8_decode.specs.declared.Instr.{Instr}
use Rattle.v8_decode.specs.declared.Instr.TheVariants as i
use Rattle.v8_memory.specs.Regions.{Memory, code_of}
use Rattle.v8_step.specs.declared.Slot.TheVariants.{NoSlot}
use Rattle.v8_step.specs.State.{State, with_register}
use Rattle.v8_step.specs.Valid.{IsValid}
use Rattle.code_runs.specs.Leads.{Leads, IsBetween, IsSilent}
use Rattle.code_runs.specs.Straight.{StandIn, IsReady}
use Rattle.jump_code.specs.PageWords.{IsPageWord}

-- a register takes an address: its high part, and then its low one
abbrev pub address_into : ℕ → ℕ → List Instr
address_into rd address =
    i.Sethi rd (address / 1024) ∷ i.Alu ops.ADD false rd rd (Imm (pos (address % 1024))) ∷ []

-- %g0 takes no link
abbrev pub link : ℕ → ℕ → List Instr
link zero address = []
link (suc r) address = address_into (suc r) address

-- v, past so many words that begin where s stands, with another memory
abbrev pub past : State → ℕ → Memory → State → State
past s count m v = record v { pc = s.pc + 4 * count; npc = s.pc + 4 * count + 4; slot = NoSlot; memory = m }

-- A CALL is the link alone, in %o7: the way to its slot's copy is that of its edge.
pub record IsAboutToCall (address : ℕ) (s : State) : Type 0 where
  pub valid : IsValid s
  pub ready : IsReady s
  pub low : s.pc + 4 * length (link 15 address) < 2 ^ 32 - 4
  pub words : StandIn (code_of s.memory) s.pc (link 15 address)
  pub short : address < 2 ^ 32

abbrev pub CallsAct : Type 0
CallsAct =
    (address : ℕ) (s : State) → IsAboutToCall address s
    → let count = length (link 15 address) in
    Leads (IsBetween s count IsPageWord) s (past s count s.memory (with_register s 15 address)) count × IsSilent s count
