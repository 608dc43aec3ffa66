-- The code that translates an address, and what it does. Its instructions are those of appendix B of The SPARC
-- Architecture Manual, Version 8.
use Rattle.std.specs.Prelude.{◌≡◌, ℕ, ◌+◌, ◌-◌, ◌/◌, ◌%◌, ◌^◌, ◌<◌, ◌≤◌, true, false, List, [], ◌∷◌, length, Some, pos}
use Rattle.v8_decode.specs.declared.Op2.TheVariants.{Reg, Imm}
use Rattle.v8_decode.specs.declared.AluOp.TheVariants as ops
use Rattle.v8_decode.specs.declared.Instr.{Instr}
use Rattle.v8_decode.specs.declared.Instr.TheVariants as i
use Rattle.v8_decode.specs.declared.LoadKind.TheVariants as loads
use Rattle.v8_decode.specs.declared.StoreKind.TheVariants as stores
use Rattle.v8_memory.specs.Regions.{Memory, Region, code_of, region_at}
use Rattle.v8_step.specs.State.{State, register_of}
use Rattle.v8_step.specs.Valid.{IsValid}
use Rattle.code_runs.specs.Page.{page_word}
use Rattle.code_runs.specs.StoredWords.{memory_word}
use Rattle.code_runs.specs.Straight.{HasWords, IsReady}
use Rattle.code_runs.specs.Picked.{WorksInTwo}
use Rattle.code_runs.specs.Code.{of_page, CanLoad, CanStore, store_word}
use Rattle.addr_translate.specs.Lookup.{TableAt, IsTable, looked_up, table_word, third_block}

-- Word 1 of the editor's page keeps the address. For each level, register a takes where the entry stands in its
-- block, and b the block.
abbrev pub translator : ℕ → ℕ → ℕ → List Instr
translator base a b =
    i.Store stores.ST a 0 (of_page 1)
    ∷ i.Alu ops.SRL false a a (Imm (pos 20))
    ∷ i.Alu ops.AND false a a (Imm (pos 0xffc))
    ∷ i.Sethi b (base / 1024)
    ∷ i.Load loads.LD b b (Reg a)
    ∷ i.Load loads.LD a 0 (of_page 1)
    ∷ i.Alu ops.SRL false a a (Imm (pos 10))
    ∷ i.Alu ops.AND false a a (Imm (pos 0xffc))
    ∷ i.Load loads.LD b b (Reg a)
    ∷ i.Load loads.LD a 0 (of_page 1)
    ∷ i.Alu ops.AND false a a (Imm (pos 0xffc))
    ∷ i.Load loads.LD a b (Reg a)
    ∷ []

-- the only word that is stored
abbrev pub IsSecondWord : ℕ → Type 0
IsSecondWord address = address ≡ page_word 1

-- the table stands in memory, and each of its words may be read
pub record StandsAt (m : Memory) (t : TableAt) : Type 0 where
  pub readable : (a : ℕ) → t.base ≤ a → a + 4 ≤ t.base + length t.bytes → a % 4 ≡ 0 → CanLoad m a
  pub same : (a : ℕ) → t.base ≤ a → a + 4 ≤ t.base + length t.bytes → a % 4 ≡ 0 → memory_word m a ≡ table_word t a

-- A machine that runs these words next, with a table in its memory, and word 1 of the editor's page.
pub record IsAboutToTranslate (words : List ℕ) (t : TableAt) (s : State) : Type 0 where
  pub valid : IsValid s
  pub ready : IsReady s
  pub low : s.pc + 48 < 2 ^ 32 - 4
  pub stand : HasWords (code_of s.memory) s.pc words
  pub table : IsTable t
  pub stands : StandsAt s.memory t
  pub page : CanStore s.memory (page_word 1)

-- From each such state with a table at `base` twelve steps lead just past the words, and put nothing out. Then a has
-- what the table has for the address that it had, b has the block of the third level, and word 1 of the page has the
-- address; all else is as it was.
abbrev pub Translates : List ℕ → ℕ → ℕ → ℕ → Type 0
Translates words base a b = (t : TableAt) (s : State) → t.base ≡ base → IsAboutToTranslate words t s
    → WorksInTwo s 12 IsSecondWord a b 12 (store_word s.memory (page_word 1) (register_of s a))
    (looked_up t (register_of s a)) (third_block t (register_of s a))

-- A table stands where a region that may be read has its bytes from its base on, and is the first that has each word.
abbrev pub RegionsStand : Type 0
RegionsStand = (m : Memory) (t : TableAt) (r : Region) → r.start ≡ t.base → r.bytes ≡ t.bytes → r.readable ≡ true
    → ((a : ℕ) → t.base ≤ a → a + 4 ≤ t.base + length t.bytes → region_at m a 4 ≡ Some r) → StandsAt m t
