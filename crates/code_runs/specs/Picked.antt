-- Code that works in a few picked registers and stores words, and where so many of its words lead.
use Rattle.std.specs.Prelude.{◌≡◌, ◌≢◌, ℕ, zero, suc, ◌+◌, ◌*◌, ◌<◌, ◌≤◌, ◌⊎◌, List, length, slice_index, Option, None}
use Rattle.v8_alu.specs.declared.Codes.{Codes}
use Rattle.v8_memory.specs.Regions.{Memory, code_of}
use Rattle.v8_windows.specs.Registers.{place_of, register_in}
use Rattle.v8_step.specs.declared.Ending.{Ending}
use Rattle.v8_step.specs.declared.Slot.TheVariants.{NoSlot}
use Rattle.v8_step.specs.State.{State}
use Rattle.code_runs.specs.Leads.{Leads, IsBetween, IsSilent}
use Rattle.code_runs.specs.Code.{Stores}

-- what no word of such code changes
pub record IsSameBeside (s : State) (ending : Option Ending) (current windows : ℕ) (left : List ℕ) (y : ℕ) : Type 0 where
  pub live : ending ≡ None
  pub window : current ≡ s.window
  pub valid : windows ≡ s.valid
  pub input : left ≡ s.input
  pub y_register : y ≡ s.y

-- registers r 0, r 1, .. of the first `want` hold f 0, f 1, .., and the others what they held
pub record AreHeld (s : State) (r : ℕ → ℕ) (want : ℕ) (f : ℕ → ℕ) (registers : List ℕ) (window : ℕ) : Type 0 where
  pub count : length registers ≡ 136
  pub picked : (k : ℕ) → k < want → register_in registers window (r k) ≡ f k
  pub others : (p : ℕ) → ((k : ℕ) → k < want → p ≢ place_of s.window (r k))
      → slice_index registers p ≡ slice_index s.registers p

-- u is s but for these registers, the codes, memory, of which HasMemory says what is known, and where it stands
pub record IsAlike (s : State) (r : ℕ → ℕ) (want : ℕ) (HasMemory : Memory → Type 0) (codes : Codes) (f : ℕ → ℕ)
    (u : State) : Type 0 where
  pub same : IsSameBeside s u.ending u.window u.valid u.input u.y
  pub codes_are : u.codes ≡ codes
  pub held : AreHeld s r want f u.registers u.window
  pub memory : HasMemory u.memory

-- Where n of `count` words lead, in k steps: to a state like s, with words stored at some addresses, none of them code.
pub record Works (s : State) (count : ℕ) (May : ℕ → Type 0) (r : ℕ → ℕ) (want k n : ℕ) (HasMemory : Memory → Type 0)
    (codes : Codes) (f : ℕ → ℕ) : Type 0 where
  pub after : State
  pub few : k ≤ n
  pub path : Leads (IsBetween s count May) s after k
  pub silent : IsSilent s k
  pub pc : after.pc ≡ s.pc + 4 * n
  pub npc : after.npc ≡ s.pc + 4 * n + 4
  pub slot : (s.slot ≡ NoSlot) ⊎ (0 < n) → after.slot ≡ NoSlot
  pub alike : IsAlike s r want HasMemory codes f after
  pub stores : Stores May s.memory after.memory
  pub code : code_of after.memory ≡ code_of s.memory

-- ---- two registers

abbrev pub pair : ℕ → ℕ → ℕ → ℕ
pair a b zero = a
pair a b (suc k) = b

abbrev pub Is : Memory → Memory → Type 0
Is m memory = memory ≡ m

-- Where n words lead that have no transfer: memory is m, registers a and b hold x and y, and the codes are as they were.
abbrev pub WorksInTwo : State → ℕ → (ℕ → Type 0) → ℕ → ℕ → ℕ → Memory → ℕ → ℕ → Type 0
WorksInTwo s count May a b n m x y = Works s count May (pair a b) 2 n n (Is m) s.codes (pair x y)
