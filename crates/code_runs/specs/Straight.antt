-- Code without transfers, as the list of its instructions.
use Rattle.std.specs.Prelude.{◌≡◌, ℕ, ◌+◌, List, [], ◌∷◌, Some, None}
use Rattle.v8_decode.specs.declared.Instr.{Instr}
use Rattle.v8_decode.specs.Words.{decode_of}
use Rattle.v8_memory.specs.Regions.{Region, fetch_from}
use Rattle.v8_step.specs.State.{State}

-- the word at an address of these regions says this instruction
pub record Says (code : List Region) (a : ℕ) (x : Instr) : Type 0 where
  pub word : ℕ
  pub fetched : fetch_from code a ≡ Some word
  pub decodes : decode_of word ≡ x

-- the words from an address on say these instructions
abbrev pub StandIn : List Region → ℕ → List Instr → Type 0
StandIn code a [] = Unit {0}
StandIn code a (x ∷ xs) = Says code a x × StandIn code (a + 4) xs

-- the machine is about to go on in order
pub record IsReady (s : State) : Type 0 where
  pub live : s.ending ≡ None
  pub npc : s.npc ≡ s.pc + 4

-- these words stand in the code from an address on
abbrev pub HasWords : List Region → ℕ → List ℕ → Type 0
HasWords code a [] = Unit {0}
HasWords code a (w ∷ ws) = (fetch_from code a ≡ Some w) × HasWords code (a + 4) ws
