-- A jump to any address, through a register that waits in the editor's page meanwhile.
use Rattle.std.specs.Prelude.{◌≡◌, ℕ, ◌+◌, ◌-◌, ◌/◌, ◌%◌, ◌^◌, ◌<◌, Bool, false, List, [], ◌∷◌, pos}
use Rattle.v8_decode.specs.declared.Op2.TheVariants.{Imm}
use Rattle.v8_decode.specs.declared.Instr.{Instr}
use Rattle.v8_decode.specs.declared.Instr.TheVariants as i
use Rattle.v8_decode.specs.declared.LoadKind.TheVariants as loads
use Rattle.v8_decode.specs.declared.StoreKind.TheVariants as stores
use Rattle.v8_memory.specs.Regions.{code_of}
use Rattle.v8_step.specs.State.{State, register_of}
use Rattle.v8_step.specs.Valid.{IsValid}
use Rattle.code_runs.specs.Counted.{count_stores}
use Rattle.code_runs.specs.Hops.{Hops}
use Rattle.code_runs.specs.Page.{page_word}
use Rattle.code_runs.specs.Straight.{IsReady, StandIn}
use Rattle.code_runs.specs.Code.{of_page, CanStore, store_word, any_of_word}

-- %g1 goes into word 0 of the page, takes the address, and is loaded again in the slot of the jump.
abbrev pub long_jump : ℕ → List Instr
long_jump to =
    i.Store stores.ST 1 0 (of_page 0) ∷ i.Sethi 1 (to / 1024) ∷ i.Jmpl 0 1 (Imm (pos (to % 1024)))
    ∷ i.Load loads.LD 1 0 (of_page 0) ∷ []

-- word 0 of the page
abbrev pub IsFirstWord : ℕ → Type 0
IsFirstWord address = address ≡ page_word 0

-- It leads there in its four words, with all as it was but word 0 of the page.
abbrev pub LongJumpsHop : Type 0
LongJumpsHop =
    (to : ℕ) (s : State) → IsValid s → IsReady s → s.pc + 16 < 2 ^ 32 - 4 → CanStore s.memory (page_word 0)
    → StandIn (code_of s.memory) s.pc (long_jump to) → to < 2 ^ 32 → to % 4 ≡ 0
    → Hops s 4 IsFirstWord to (store_word s.memory (page_word 0) (register_of s 1))

-- It stores nothing anywhere else.
abbrev pub LongJumpsStore : Type 0
LongJumpsStore =
    (to : ℕ) (s : State) → IsValid s → IsReady s → s.pc + 16 < 2 ^ 32 - 4 → CanStore s.memory (page_word 0)
    → StandIn (code_of s.memory) s.pc (long_jump to) → to < 2 ^ 32 → to % 4 ≡ 0
    → (counted : ℕ → Bool) → any_of_word counted (page_word 0) ≡ false → count_stores counted s 4 ≡ 0
