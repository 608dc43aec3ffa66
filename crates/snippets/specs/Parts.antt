-- The parts of which reading a script is made.
use Rattle.std.specs.Prelude.{◌≡◌, ℕ, ◌+◌, ◌-◌, ◌^◌, ◌||◌, ◌==◌, nat_le, nat_lt, max, if◌then◌else◌, List, [], ◌∷◌, ◌++◌, length, get_or, slice_index, slice_set, replicate, codes, Option, Some, None}
use Rattle.std.specs.Option.{option_map, option_or}
use Rattle.std.specs.Str.{bytes_eq}
use Rattle.snippets.specs.declared.snippet.Op.{Op}
use Rattle.snippets.specs.declared.snippet.Op.TheVariants.{Add, Put, Keep, Top, Count}
use Rattle.snippets.specs.declared.script.ScriptFault.{ScriptFault}
use Rattle.snippets.specs.declared.script.ScriptFault.TheVariants as faults
use Rattle.snippets.specs.Ops.{cells_end}
unfoldable pub use Rattle.line_words.specs.Words.{number_of, register_of, split_at}
use Rattle.line_words.specs.Words.{◌>>=◌}
use Rattle.snippets.specs.declared.line.Said.{Said}
use Rattle.snippets.specs.declared.line.Said.TheVariants.{Does, Wrong, Nothing}

-- What a line says.

unfoldable pub op_of : List ℕ → ℕ → List ℕ → Option Op
op_of kind cell operand =
    if bytes_eq kind (codes "add") then option_map (Add cell) (number_of operand) else
    (if bytes_eq kind (codes "put") then option_map (Put cell) (number_of operand) else
    (if bytes_eq kind (codes "keep") then option_map (Keep cell) (register_of operand) else
    (if bytes_eq kind (codes "top") then option_map (Top cell) (register_of operand) else None)))

-- what is left where the word `edge` stands first
abbrev pub after_edge : List ℕ × List ℕ → Option (List ℕ)
after_edge parts = if bytes_eq parts.0 (codes "edge") then Some parts.1 else None

-- an operation of a kind and a cell alone, as the words behind the kind say it
unfoldable pub bare_of : List ℕ → List ℕ → Option Op
bare_of kind words = if bytes_eq kind (codes "count") then option_map Count (number_of words) else None

-- an operation of a kind, a cell and an operand
unfoldable pub full_of : List ℕ → List ℕ → Option Op
full_of kind words = do
  parts ← split_at 32 words
  cell ← number_of parts.0
  op_of kind cell parts.1

unfoldable pub operation_of : List ℕ → Option (ℕ × Op)
operation_of line = do
  first ← split_at 32 line
  rest ← after_edge first
  second ← split_at 32 rest
  edge ← number_of second.0
  third ← split_at 32 second.1
  op ← option_or (bare_of third.0 third.1) (full_of third.0 third.1)
  Some (edge, op)

abbrev pub said_by : Option (ℕ × Op) → Said
said_by (Some found) = Does found.0 found.1
said_by None = Wrong

unfoldable pub said_of : List ℕ → Said
said_of line =
    if (length line == 0) || (slice_index line 0 == 35) then Nothing else said_by (operation_of line)

-- What a line does to the snippets so far.

-- snippets for so many edges at least
abbrev pub padded : ℕ → List (List Op) → List (List Op)
padded count snips = snips ++ replicate (count - length snips) []

-- the operations on an edge
abbrev pub ops_at : ℕ → List (List Op) → List Op
ops_at edge snips = get_or snips edge []

abbrev pub with_op : ℕ → Op → List (List Op) → List (List Op)
with_op edge op snips = slice_set (padded (edge + 1) snips) edge (ops_at edge snips ++ op ∷ [])

abbrev pub snips_after : Said → List (List Op) → List (List Op)
snips_after Nothing snips = snips
snips_after (Does edge op) snips = with_op edge op snips
snips_after Wrong snips = snips

abbrev pub cells_after : Said → ℕ → ℕ
cells_after Nothing cells = cells
cells_after (Does edge op) cells = max cells (cells_end op)
cells_after Wrong cells = cells

-- why the line with this number is bad
abbrev pub fault_in : ℕ → ℕ → List (List Op) → Said → Option ScriptFault
fault_in edges number snips Nothing = None
fault_in edges number snips Wrong = Some (faults.Line number)
fault_in edges number snips (Does edge op) =
    if nat_le edges edge then Some (faults.Edge number) else
    (if nat_lt (2 ^ 22) (cells_end op) then Some (faults.Cell number) else
    (if nat_le 8 (length (ops_at edge snips)) then Some (faults.Ops number) else None))

-- it is bad for this cause; want of memory is told of a line that isn't bad
abbrev pub IsCause : ScriptFault → Option ScriptFault → Type 0
IsCause (faults.Line number) cause = cause ≡ Some (faults.Line number)
IsCause (faults.Edge number) cause = cause ≡ Some (faults.Edge number)
IsCause (faults.Cell number) cause = cause ≡ Some (faults.Cell number)
IsCause (faults.Ops number) cause = cause ≡ Some (faults.Ops number)
IsCause faults.NoMemory cause = cause ≡ None
