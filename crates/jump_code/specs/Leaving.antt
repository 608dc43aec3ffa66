-- Ways out of the text, to addresses of the original that stay what they are.
use Rattle.std.specs.Prelude.{◌≡◌, ℕ, ◌+◌, ◌*◌, ◌-◌, ◌%◌, ◌^◌, ◌<◌, List, [], ◌∷◌, length, pos}
use Rattle.v8_decode.specs.declared.Op2.TheVariants.{Imm}
use Rattle.v8_decode.specs.declared.Instr.{Instr}
use Rattle.v8_decode.specs.declared.Instr.TheVariants as i
use Rattle.v8_decode.specs.declared.LoadKind.TheVariants as loads
use Rattle.v8_decode.specs.declared.StoreKind.TheVariants as stores
use Rattle.v8_memory.specs.Regions.{code_of}
use Rattle.v8_step.specs.State.{State, register_of}
use Rattle.v8_step.specs.Valid.{IsValid}
use Rattle.code_runs.specs.Hops.{Hops}
use Rattle.code_runs.specs.LongJump.{long_jump}
use Rattle.code_runs.specs.Page.{page_word}
use Rattle.code_runs.specs.Straight.{StandIn, IsReady}
use Rattle.code_runs.specs.Code.{of_page, store_word}
use Rattle.jump_code.specs.PageWords.{IsPageWord, HasPage, waiting}

-- The foreign piece, to which the table leads every address outside the text: the machine goes on at the address that
-- waits in word 1, and %g1 waits in word 2 meanwhile.
abbrev pub foreign : List Instr
foreign =
    i.Store stores.ST 1 0 (of_page 2)
    ∷ i.Load loads.LD 1 0 (of_page 1)
    ∷ i.Jmpl 0 1 (Imm (pos 0))
    ∷ i.Load loads.LD 1 0 (of_page 2)
    ∷ []

pub record IsAboutToLeave (s : State) : Type 0 where
  pub valid : IsValid s
  pub ready : IsReady s
  pub low : s.pc + 4 * length foreign < 2 ^ 32 - 4
  pub words : StandIn (code_of s.memory) s.pc foreign
  pub page : HasPage 3 s.memory
  pub aligned : waiting s % 4 ≡ 0

-- The machine goes on at that address itself, with every register as it was.
abbrev pub ForeignLeaves : Type 0
ForeignLeaves =
    (s : State) → IsAboutToLeave s
    → Hops s (length foreign) IsPageWord (waiting s) (store_word s.memory (page_word 2) (register_of s 1))

-- An address outside the text that is known when the code is made: a long jump leads there.
pub record IsAboutToGoFar (to : ℕ) (s : State) : Type 0 where
  pub valid : IsValid s
  pub ready : IsReady s
  pub low : s.pc + 4 * length (long_jump to) < 2 ^ 32 - 4
  pub words : StandIn (code_of s.memory) s.pc (long_jump to)
  pub page : HasPage 1 s.memory
  pub short : to < 2 ^ 32
  pub aligned : to % 4 ≡ 0

abbrev pub FarGoes : Type 0
FarGoes =
    (to : ℕ) (s : State) → IsAboutToGoFar to s
    → Hops s (length (long_jump to)) IsPageWord to (store_word s.memory (page_word 0) (register_of s 1))
