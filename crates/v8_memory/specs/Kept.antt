-- What a memory keeps of the words that can be executed.
use Rattle.std.specs.Prelude.{◌≡◌, ℕ, ◌+◌, ◌%◌, ◌^◌, ◌⊎◌, List, [], ◌∷◌, Option, Some, None}
use Rattle.v8_decode.specs.Words.{decode_of}
use Rattle.v8_memory.specs.declared.ops.Predecoded.{Predecoded}
use Rattle.v8_memory.specs.declared.ops.OpCode.TheVariants.{Other}
use Rattle.v8_memory.specs.Ops.{IsSum, Stands}
use Rattle.v8_memory.specs.Regions.{Region, fetch_from}

-- a record of what a word says that was fetched
abbrev pub StandsFor : Predecoded → Option ℕ → Type 0
StandsFor x None = ⊥
StandsFor x (Some word) = Stands x (decode_of word)

-- a record that says nothing, or what the word at an address says
abbrev pub IsKept : List Region → ℕ → Predecoded → Type 0
IsKept code address x = IsSum x.rs2 x.imm × ((x.code ≡ Other) ⊎ StandsFor x (fetch_from code address))

-- records of the words from an address on
abbrev pub AreKept : List Region → ℕ → List Predecoded → Type 0
AreKept code address [] = Unit {0}
AreKept code address (x ∷ kept) = IsKept code (address % 2 ^ 32) x × AreKept code (address + 4) kept
