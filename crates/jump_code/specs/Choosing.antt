-- The words of a switch's JMPL, which choose the piece of its edge: they find its address among words that stand as the
-- table's entries do, by the address of the entry that was kept at the load.
use Rattle.std.specs.Prelude.{◌≡◌, ℕ, ◌+◌, ◌-◌, ◌*◌, ◌/◌, ◌%◌, ◌^◌, ◌<◌, ◌≤◌, false, List, [], ◌∷◌, ◌++◌, length, None, pos}
use Rattle.v8_decode.specs.declared.Op2.{Op2}
use Rattle.v8_decode.specs.declared.Op2.TheVariants.{Reg, Imm}
use Rattle.v8_decode.specs.declared.AluOp.TheVariants as ops
use Rattle.v8_decode.specs.declared.Instr.{Instr}
use Rattle.v8_decode.specs.declared.Instr.TheVariants as i
use Rattle.v8_decode.specs.declared.LoadKind.TheVariants as loads
use Rattle.v8_decode.specs.declared.StoreKind.TheVariants as stores
use Rattle.v8_alu.specs.Numbers.{wrapped}
use Rattle.v8_memory.specs.Regions.{Memory, code_of}
use Rattle.v8_step.specs.State.{State, register_of}
use Rattle.v8_step.specs.Valid.{IsValid}
use Rattle.code_runs.specs.Hops.{Hops, hopped}
use Rattle.code_runs.specs.Leads.{Leads, IsBetween, IsSilent}
use Rattle.code_runs.specs.Page.{page_word}
use Rattle.code_runs.specs.StoredWords.{memory_word}
use Rattle.code_runs.specs.Straight.{StandIn, IsReady}
use Rattle.code_runs.specs.Code.{of_page, CanLoad, store_word, Stores}
use Rattle.jump_code.specs.Jumped.{jumped}
use Rattle.jump_code.specs.Links.{link}
use Rattle.jump_code.specs.PageWords.{IsPageWord, HasPage, saved_address}

-- %g1 and %g2 wait in words 2 and 7. %g1 takes the kept address, and %g2 how far from it the word stands that has the
-- piece's address; there the machine goes on, with both registers back.
abbrev pub jump_by_case : ℕ → List Instr
jump_by_case distance =
    i.Store stores.ST 1 0 (of_page 2)
    ∷ i.Store stores.ST 2 0 (of_page 7)
    ∷ i.Load loads.LD 1 0 (of_page 0)
    ∷ i.Sethi 2 (distance / 1024)
    ∷ i.Alu ops.ADD false 2 2 (Imm (pos (distance % 1024)))
    ∷ i.Load loads.LD 1 1 (Reg 2)
    ∷ i.Load loads.LD 2 0 (of_page 7)
    ∷ i.Jmpl 0 1 (Imm (pos 0))
    ∷ i.Load loads.LD 1 0 (of_page 2)
    ∷ []

-- all of the JMPL at an address, in one Mark: its link comes first, so that it doesn't matter which registers it names
abbrev pub switch_jump : ℕ → ℕ → ℕ → List Instr
switch_jump rd address distance = link rd address ++ jump_by_case distance

-- where the word stands that has the piece's address, and that address
abbrev pub choice_at : ℕ → State → ℕ
choice_at distance s = wrapped (saved_address s + distance)

abbrev pub chosen : ℕ → State → ℕ
chosen distance s = memory_word s.memory (choice_at distance s)

-- The word can be loaded, stands below the page, and has the address of a word.
pub record HasChoice (distance : ℕ) (s : State) : Type 0 where
  pub aligned : choice_at distance s % 4 ≡ 0
  pub below : choice_at distance s + 4 ≤ 2 ^ 31
  pub loads : CanLoad s.memory (choice_at distance s)
  pub target : chosen distance s % 4 ≡ 0

-- memory once it is chosen
abbrev pub chosen_memory : State → Memory
chosen_memory s = store_word (store_word s.memory (page_word 2) (register_of s 1)) (page_word 7) (register_of s 2)

pub record IsAboutToGo (distance : ℕ) (s : State) : Type 0 where
  pub valid : IsValid s
  pub ready : IsReady s
  pub low : s.pc + 4 * length (jump_by_case distance) < 2 ^ 32 - 4
  pub words : StandIn (code_of s.memory) s.pc (jump_by_case distance)
  pub near : distance < 2 ^ 32
  pub page : HasPage 8 s.memory
  pub choice : HasChoice distance s

-- every register is as it was
abbrev pub ChoicesHop : Type 0
ChoicesHop =
    (distance : ℕ) (s : State) → IsAboutToGo distance s
    → Hops s (length (jump_by_case distance)) IsPageWord (chosen distance s) (chosen_memory s)

-- ---- against the original's step

pub record IsAboutToChoose (rd address distance : ℕ) (s : State) : Type 0 where
  pub valid : IsValid s
  pub ready : IsReady s
  pub low : s.pc + 4 * 11 < 2 ^ 32 - 4
  pub words : StandIn (code_of s.memory) s.pc (switch_jump rd address distance)
  pub register : rd < 32
  pub short : address < 2 ^ 32
  pub near : distance < 2 ^ 32
  pub page : HasPage 8 s.memory
  pub choice : HasChoice distance s

-- The image's words lead to the chosen piece: there the machine is the original v after its JMPL, but for the place and
-- for words of the page.
pub record ComesToCase (distance : ℕ) (s v : State) (count : ℕ) : Type 0 where
  pub memory : Memory
  pub path : Leads (IsBetween s count IsPageWord) s (hopped v (chosen distance s) memory) count
  pub silent : IsSilent s count
  pub stores : Stores IsPageWord s.memory memory
  pub same : v.memory ≡ s.memory

abbrev pub ChoicesSimulate : Type 0
ChoicesSimulate =
    (rd rs1 : ℕ) (op2 : Op2) (address distance : ℕ) (s : State) → IsAboutToChoose rd address distance s
    → (jumped address rd rs1 op2 s).ending ≡ None
    → ComesToCase distance s (jumped address rd rs1 op2 s) (length (switch_jump rd address distance))
