-- Before the load of a switch, the words that keep its address until the jump.
use Rattle.std.specs.Prelude.{◌≡◌, ℕ, ◌+◌, ◌-◌, ◌*◌, ◌^◌, ◌<◌, Bool, false, List, [], ◌∷◌, length}
use Rattle.v8_decode.specs.declared.Op2.{Op2}
use Rattle.v8_decode.specs.declared.AluOp.TheVariants as ops
use Rattle.v8_decode.specs.declared.Instr.{Instr}
use Rattle.v8_decode.specs.declared.Instr.TheVariants as i
use Rattle.v8_decode.specs.declared.StoreKind.TheVariants as stores
use Rattle.v8_memory.specs.Regions.{Memory, code_of}
use Rattle.v8_step.specs.State.{State, register_of, sum_of}
use Rattle.v8_step.specs.Valid.{IsValid}
use Rattle.code_runs.specs.Counted.{count_stores}
use Rattle.code_runs.specs.Leads.{Leads, IsBetween, IsSilent}
use Rattle.code_runs.specs.LongJump.{IsFirstWord}
use Rattle.code_runs.specs.Page.{page_word}
use Rattle.code_runs.specs.StoredWords.{memory_word}
use Rattle.code_runs.specs.Straight.{StandIn, IsReady}
use Rattle.code_runs.specs.Code.{of_page, store_word, any_of_word, Stores}
use Rattle.jump_code.specs.FreeRegister.{second_register}
use Rattle.jump_code.specs.Links.{past}
use Rattle.jump_code.specs.PageWords.{HasPage}

-- %g1 waits in the word where the address is to go, takes the address, and is exchanged with the word. So no register
-- is changed, whichever ones the load names.
abbrev pub save_load_address : ℕ → Op2 → List Instr
save_load_address rs1 op2 =
    i.Store stores.ST 1 0 (of_page 0)
    ∷ i.Alu ops.ADD false 1 rs1 op2
    ∷ i.Swap 1 0 (of_page 0)
    ∷ []

pub record IsAboutToSave (rs1 : ℕ) (op2 : Op2) (s : State) : Type 0 where
  pub valid : IsValid s
  pub ready : IsReady s
  pub low : s.pc + 4 * length (save_load_address rs1 op2) < 2 ^ 32 - 4
  pub words : StandIn (code_of s.memory) s.pc (save_load_address rs1 op2)
  pub rs1_below : rs1 < 32
  pub op2_below : second_register op2 < 32
  pub page : HasPage 1 s.memory

-- memory once the address is kept
abbrev pub kept_memory : State → ℕ → Op2 → Memory
kept_memory s rs1 op2 =
    store_word (store_word s.memory (page_word 0) (register_of s 1)) (page_word 0) (sum_of s rs1 op2)

-- All is as it was but word 0, which has the address. Nothing is stored anywhere else.
pub record SavesLoadAddress (rs1 : ℕ) (op2 : Op2) (s : State) (count : ℕ) : Type 0 where
  pub path : Leads (IsBetween s count IsFirstWord) s (past s count (kept_memory s rs1 op2) s) count
  pub silent : IsSilent s count
  pub stores : Stores IsFirstWord s.memory (kept_memory s rs1 op2)
  pub kept : memory_word (kept_memory s rs1 op2) (page_word 0) ≡ sum_of s rs1 op2
  pub elsewhere : (counted : ℕ → Bool) → any_of_word counted (page_word 0) ≡ false → count_stores counted s count ≡ 0

abbrev pub AddressesAreSaved : Type 0
AddressesAreSaved =
    (rs1 : ℕ) (op2 : Op2) (s : State) → IsAboutToSave rs1 op2 s → SavesLoadAddress rs1 op2 s (length (save_load_address rs1 op2))
