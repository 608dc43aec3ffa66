-- The words of a JMPL, which look its target up before the slot, and the words that jump behind the slot's copy.
use Rattle.std.specs.Prelude.{◌≡◌, ◌≢◌, ℕ, ◌+◌, ◌*◌, ◌/◌, ◌-◌, ◌%◌, ◌^◌, ◌<◌, false, List, [], ◌∷◌, ◌++◌, length, Some, None, pos, slice_index}
use Rattle.v8_decode.specs.declared.Op2.{Op2}
use Rattle.v8_decode.specs.declared.Op2.TheVariants.{Reg, Imm}
use Rattle.v8_decode.specs.declared.AluOp.TheVariants as ops
use Rattle.v8_decode.specs.declared.Instr.{Instr}
use Rattle.v8_decode.specs.declared.Instr.TheVariants as i
use Rattle.v8_decode.specs.declared.LoadKind.TheVariants as loads
use Rattle.v8_decode.specs.declared.StoreKind.TheVariants as stores
use Rattle.v8_memory.specs.Regions.{Memory, code_of}
use Rattle.v8_windows.specs.Registers.{place_of}
use Rattle.v8_step.specs.declared.Ending.{Ending}
use Rattle.v8_step.specs.declared.Ending.TheVariants.{Trap}
use Rattle.v8_step.specs.State.{State, register_of, with_register, sum_of}
use Rattle.v8_step.specs.Run.{run}
use Rattle.v8_step.specs.Traps.{mem_address_not_aligned}
use Rattle.v8_step.specs.Valid.{IsValid}
use Rattle.code_runs.specs.Hops.{Hops}
use Rattle.code_runs.specs.Leads.{Leads, IsBetween, IsSilent}
use Rattle.code_runs.specs.Page.{page_word}
use Rattle.code_runs.specs.StoredWords.{memory_word}
use Rattle.code_runs.specs.Straight.{StandIn, IsReady}
use Rattle.code_runs.specs.Code.{of_page, store_word, Stores}
use Rattle.addr_translate.specs.Lookup.{TableAt}
use Rattle.addr_translate.specs.Halves.{IsTwoLevel, found_in}
use Rattle.addr_translate.specs.Translator.{StandsAt}
use Rattle.jump_code.specs.Jumped.{jumped}
use Rattle.jump_code.specs.FreeRegister.{IsApart}
use Rattle.jump_code.specs.Links.{link, past}
use Rattle.jump_code.specs.PageWords.{IsPageWord, HasPage, found_there}

-- Registers x and y wait in words 7 and 2, and the target goes into word 1. From the word of its high half the target
-- leads to its entry, which is misaligned where the target is: that load then ends the run as the JMPL does. What was
-- found and register x are exchanged, and both registers are as they were.
abbrev pub find_words : ℕ → ℕ → ℕ → Op2 → ℕ → List Instr
find_words x y rs1 op2 table =
    i.Store stores.ST x 0 (of_page 7)
    ∷ i.Store stores.ST y 0 (of_page 2)
    ∷ i.Alu ops.ADD false x rs1 op2
    ∷ i.Store stores.ST x 0 (of_page 1)
    ∷ i.Alu ops.SRL false y x (Imm (pos 16))
    ∷ i.Alu ops.SLL false y y (Imm (pos 2))
    ∷ i.Sethi x (table / 1024)
    ∷ i.Load loads.LD y x (Reg y)
    ∷ i.Alu ops.ADD false x rs1 op2
    ∷ i.Load loads.LD x y (Reg x)
    ∷ i.Swap x 0 (of_page 7)
    ∷ i.Load loads.LD y 0 (of_page 2)
    ∷ []

-- all of the JMPL at an address, in one Mark
abbrev pub translate_target : ℕ → ℕ → ℕ → ℕ → Op2 → ℕ → ℕ → List Instr
translate_target x y rd rs1 op2 table address = find_words x y rs1 op2 table ++ link rd address

pub record IsAboutToFind (x y rd rs1 : ℕ) (op2 : Op2) (address : ℕ) (t : TableAt) (s : State) : Type 0 where
  pub valid : IsValid s
  pub ready : IsReady s
  pub low : s.pc + 4 * 14 < 2 ^ 32 - 4
  pub apart : IsApart x rd rs1 op2
  pub other : IsApart y rd rs1 op2
  pub differ : x ≢ y
  pub words : StandIn (code_of s.memory) s.pc (translate_target x y rd rs1 op2 t.base address)
  pub short : address < 2 ^ 32
  pub page : HasPage 8 s.memory
  pub table : IsTwoLevel t
  pub stands : StandsAt s.memory t

-- memory once the target is kept, and once it is found
abbrev pub sought_memory : State → ℕ → ℕ → ℕ → Op2 → Memory
sought_memory s x y rs1 op2 =
    store_word (store_word (store_word s.memory (page_word 7) (register_of s x)) (page_word 2) (register_of s y))
    (page_word 1) (sum_of s rs1 op2)

abbrev pub found_memory : State → ℕ → ℕ → ℕ → Op2 → TableAt → Memory
found_memory s x y rs1 op2 t =
    store_word (sought_memory s x y rs1 op2) (page_word 7) (found_in t (sum_of s rs1 op2))

-- An aligned target: the words are carried out, the link is written, and every other register is as it was. The page
-- has the target, and what the table has for it.
pub record FindsIt (s : State) (x y rd rs1 : ℕ) (op2 : Op2) (address : ℕ) (t : TableAt) (count : ℕ) : Type 0 where
  pub path : Leads (IsBetween s count IsPageWord) s
      (past s count (found_memory s x y rs1 op2 t) (with_register s rd address)) count
  pub silent : IsSilent s count
  pub stores : Stores IsPageWord s.memory (found_memory s x y rs1 op2 t)
  pub target : memory_word (found_memory s x y rs1 op2 t) (page_word 1) ≡ sum_of s rs1 op2
  pub found : memory_word (found_memory s x y rs1 op2 t) (page_word 7) ≡ found_in t (sum_of s rs1 op2)

-- A misaligned one: the tenth word ends the run, with the trap of a misaligned address. All but the two registers and
-- words of the page is as it was.
pub record TrapsFinding (s : State) (x y : ℕ) : Type 0 where
  pub after : State
  pub path : Leads (IsBetween s 10 IsPageWord) s after 10
  pub live : (run s 9).ending ≡ None
  pub silent : IsSilent s 10
  pub ending : after.ending ≡ Some (Trap mem_address_not_aligned)
  pub pc : after.pc ≡ s.pc + 36
  pub window : after.window ≡ s.window
  pub valid : after.valid ≡ s.valid
  pub codes : after.codes ≡ s.codes
  pub y_register : after.y ≡ s.y
  pub registers : length after.registers ≡ length s.registers
  pub others : (place : ℕ) → place ≢ place_of s.window x → place ≢ place_of s.window y
      → slice_index after.registers place ≡ slice_index s.registers place
  pub input : after.input ≡ s.input
  pub stores : Stores IsPageWord s.memory after.memory

abbrev pub LooksUp : Type 0
LooksUp =
    (x y rd rs1 : ℕ) (op2 : Op2) (address : ℕ) (t : TableAt) (s : State)
    → IsAboutToFind x y rd rs1 op2 address t s
    → (sum_of s rs1 op2 % 4 ≡ 0
    → FindsIt s x y rd rs1 op2 address t (length (translate_target x y rd rs1 op2 t.base address)))
    × (sum_of s rs1 op2 % 4 ≢ 0 → TrapsFinding s x y)

-- ---- against the original's step

-- Where the original goes on, the image's words lead to their end: there the machine is the original but for the place
-- and for words of the page.
pub record ComesFound (x y rd rs1 : ℕ) (op2 : Op2) (address : ℕ) (t : TableAt) (s : State) (count : ℕ) : Type 0 where
  pub path : Leads (IsBetween s count IsPageWord) s
      (past s count (found_memory s x y rs1 op2 t) (jumped address rd rs1 op2 s)) count
  pub silent : IsSilent s count
  pub stores : Stores IsPageWord (jumped address rd rs1 op2 s).memory (found_memory s x y rs1 op2 t)
  pub waits : memory_word (found_memory s x y rs1 op2 t) (page_word 1) ≡ (jumped address rd rs1 op2 s).npc
  pub found : memory_word (found_memory s x y rs1 op2 t) (page_word 7) ≡ found_in t (jumped address rd rs1 op2 s).npc

pub record EndsFinding (x y : ℕ) (s : State) (ending : Ending) : Type 0 where
  pub traps : TrapsFinding s x y
  pub same : traps.after.ending ≡ Some ending

abbrev pub LookUpSimulates : Type 0
LookUpSimulates =
    (x y rd rs1 : ℕ) (op2 : Op2) (address : ℕ) (t : TableAt) (s : State)
    → IsAboutToFind x y rd rs1 op2 address t s
    → ((jumped address rd rs1 op2 s).ending ≡ None
    → ComesFound x y rd rs1 op2 address t s (length (translate_target x y rd rs1 op2 t.base address)))
    × ((ending : Ending) → (jumped address rd rs1 op2 s).ending ≡ Some ending → EndsFinding x y s ending)

-- ---- behind the slot's copy and the snippet: any register and what was found are exchanged, and the register comes back
-- in the jump's slot

abbrev pub jump_translated : ℕ → List Instr
jump_translated x = i.Swap x 0 (of_page 7) ∷ i.Jmpl 0 x (Imm (pos 0)) ∷ i.Load loads.LD x 0 (of_page 7) ∷ []

pub record IsAboutToGoOn (x : ℕ) (s : State) : Type 0 where
  pub valid : IsValid s
  pub ready : IsReady s
  pub low : s.pc + 4 * length (jump_translated x) < 2 ^ 32 - 4
  pub some : 0 < x
  pub below : x < 32
  pub words : StandIn (code_of s.memory) s.pc (jump_translated x)
  pub page : HasPage 8 s.memory
  pub aligned : found_there s % 4 ≡ 0

-- every register is as it was
abbrev pub ResumeHops : Type 0
ResumeHops =
    (x : ℕ) (s : State) → IsAboutToGoOn x s
    → Hops s (length (jump_translated x)) IsPageWord (found_there s) (store_word s.memory (page_word 7) (register_of s x))
