-- What a snippet makes of the cells: words of 32 bits, which it changes one operation after the other. Registers are
-- those of the current window, as they are when the snippet runs.
use Rattle.std.specs.Prelude.{ℕ, ◌+◌, ◌*◌, ◌/◌, ◌%◌, ◌^◌, ◌≤◌, max, List, [], ◌∷◌, get_or, set, All}
use Rattle.v8_decode.specs.declared.Part.{Part}
use Rattle.v8_decode.specs.declared.Part.TheVariants.{Reg}
use Rattle.v8_decode.specs.Parts.{set_of}
use Rattle.snippets.specs.declared.snippet.Op.{Op}
use Rattle.snippets.specs.declared.snippet.Op.TheVariants.{Add, Put, Keep, Top, Count, Log}
use Rattle.snippets.specs.Ops.{cells_end}

-- what is made of the value of a cell
abbrev pub changed : List ℕ → ℕ → (ℕ → ℕ) → List ℕ
changed cells cell f = set cells cell (f (get_or cells cell 0))

-- a number of 64 bits in a cell, which has its high word, and the next one
abbrev pub wide_at : List ℕ → ℕ → ℕ
wide_at cells cell = 2 ^ 32 * get_or cells cell 0 + get_or cells (cell + 1) 0

abbrev pub with_wide : List ℕ → ℕ → ℕ → List ℕ
with_wide cells cell number = set (set cells cell (number / 2 ^ 32)) (cell + 1) (number % 2 ^ 32)

-- the place of a ring behind its cell that comes next
abbrev pub place_in : List ℕ → ℕ → ℕ → ℕ
place_in cells cell bits = cell + 1 + get_or cells cell 0 % 2 ^ bits

-- the cells after an operation
abbrev pub updated_by : (ℕ → ℕ) → Op → List ℕ → List ℕ
updated_by registers (Add cell amount) cells = changed cells cell (λ value. (value + amount) % 2 ^ 32)
updated_by registers (Put cell new) cells = changed cells cell (λ value. new)
updated_by registers (Keep cell reg) cells = changed cells cell (λ value. registers reg)
updated_by registers (Top cell reg) cells = changed cells cell (λ value. max value (registers reg))
updated_by registers (Count cell) cells = with_wide cells cell ((wide_at cells cell + 1) % 2 ^ 64)
updated_by registers (Log cell bits value) cells =
    changed (set cells (place_in cells cell bits) value) cell (λ place. (place + 1) % 2 ^ 32)

-- the cells after a snippet
abbrev pub update : (ℕ → ℕ) → List Op → List ℕ → List ℕ
update registers [] cells = cells
update registers (op ∷ ops) cells = update registers ops (updated_by registers op cells)

-- It works on cells below a number, and a ring has 1 to 16 bits.
abbrev pub WorksIn : ℕ → Op → Type 0
WorksIn cells (Log cell bits value) = (1 ≤ bits) × (bits ≤ 16) × (cells_end (Log cell bits value) ≤ cells)
WorksIn cells op = cells_end op ≤ cells

abbrev pub WorksBelow : ℕ → List Op → Type 0
WorksBelow cells ops = All (WorksIn cells) ops

-- the registers that it reads, without %g0
abbrev pub read_by : List Op → List Part
read_by [] = []
read_by (Keep cell reg ∷ ops) = Reg reg ∷ read_by ops
read_by (Top cell reg ∷ ops) = Reg reg ∷ read_by ops
read_by (_ ∷ ops) = read_by ops

abbrev pub named_by : List Op → List Part
named_by ops = set_of (read_by ops)
