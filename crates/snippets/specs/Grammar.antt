-- Scripts, by how they are spelled. A line is one of
--
--   edge N add CELL AMOUNT
--   edge N put CELL VALUE
--   edge N keep CELL REG
--   edge N top CELL REG
--   edge N count CELL
--
-- with one space between words. Numbers are decimal, below 2^32, and have no needless zero in front. REG is %g0 to
-- %g7, %o0 to %o7, %l0 to %l7 or %i0 to %i7. A line that is empty or begins with `#` says nothing.
use Rattle.std.specs.Prelude.{◌≡◌, ◌<◌, ◌≤◌, ℕ, ◌^◌, ◌==◌, List, [], ◌∷◌, codes, decimal}
use Rattle.std.specs.List.{slice_split, join_with_byte}
use Rattle.line_words.specs.Registers.{register_text}
use Rattle.snippets.specs.declared.snippet.Op.{Op}
use Rattle.snippets.specs.declared.snippet.Op.TheVariants.{Add, Put, Keep, Top, Count, Log}
use Rattle.snippets.specs.declared.line.Said.{Said}
use Rattle.snippets.specs.declared.line.Said.TheVariants.{Nothing, Does, Wrong}

-- The lines of a text end with a newline each, which the last one may lack.
abbrev pub lines_of : List ℕ → List (List ℕ)
lines_of bytes = slice_split (λ byte. byte == 10) bytes

abbrev pub op_text : Op → List (List ℕ)
op_text (Add cell amount) = codes "add" ∷ decimal cell ∷ decimal amount ∷ []
op_text (Put cell value) = codes "put" ∷ decimal cell ∷ decimal value ∷ []
op_text (Keep cell reg) = codes "keep" ∷ decimal cell ∷ register_text reg ∷ []
op_text (Top cell reg) = codes "top" ∷ decimal cell ∷ register_text reg ∷ []
op_text (Count cell) = codes "count" ∷ decimal cell ∷ []
op_text (Log cell bits value) = []

-- the line that does an operation on an edge
abbrev pub line_text : ℕ → Op → List ℕ
line_text edge op = join_with_byte 32 (codes "edge" ∷ decimal edge ∷ op_text op)

-- its numbers have their sizes
abbrev pub IsOp : Op → Type 0
IsOp (Add cell amount) = (cell < 2 ^ 32) × (amount < 2 ^ 32)
IsOp (Put cell value) = (cell < 2 ^ 32) × (value < 2 ^ 32)
IsOp (Keep cell reg) = (cell < 2 ^ 32) × (reg < 32)
IsOp (Top cell reg) = (cell < 2 ^ 32) × (reg < 32)
IsOp (Count cell) = cell < 2 ^ 32
IsOp (Log cell bits value) = (cell < 2 ^ 32) × ((1 ≤ bits) × (bits ≤ 16)) × (value < 2 ^ 32)

-- scripts have no rings
abbrev pub IsSpelled : Op → Type 0
IsSpelled (Log cell bits value) = ⊥
IsSpelled op = IsOp op

-- The line is this one.
pub record IsLine (line : List ℕ) (edge : ℕ) (op : Op) : Type 0 where
  pub text : line ≡ line_text edge op
  pub edge_fits : edge < 2 ^ 32
  pub op_fits : IsSpelled op

abbrev pub IsSilent : List ℕ → Type 0
IsSilent [] = Unit {0}
IsSilent (byte ∷ bytes) = byte ≡ 35

-- What a line says: nothing, an operation on an edge, or what is outside the grammar.
abbrev pub Says : List ℕ → Said → Type 0
Says line Nothing = IsSilent line
Says line (Does edge op) = IsLine line edge op
Says line Wrong = (¬ IsSilent line) × ((edge : ℕ) (op : Op) → ¬ IsLine line edge op)

-- what each line says, in order
abbrev pub AllSay : List (List ℕ) → List Said → Type 0
AllSay [] [] = Unit {0}
AllSay [] (said ∷ others) = ⊥
AllSay (line ∷ lines) [] = ⊥
AllSay (line ∷ lines) (said ∷ others) = Says line said × AllSay lines others
