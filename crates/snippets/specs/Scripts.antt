-- What a script comes to, by what its lines say.
use Rattle.std.specs.Prelude.{◌≡◌, ◌<◌, ℕ, ◌+◌, ◌^◌, ◌==◌, nat_le, nat_lt, max, if◌then◌else◌, List, [], ◌∷◌, length, take, get_or, map, Option, Some, None}
use Rattle.std.specs.List.{flat_map, range_with_len}
use Rattle.snippets.specs.declared.snippet.Op.{Op}
use Rattle.snippets.specs.declared.script.ScriptFault.{ScriptFault}
use Rattle.snippets.specs.declared.script.ScriptFault.TheVariants as faults
use Rattle.snippets.specs.Ops.{cells_end}
use Rattle.snippets.specs.declared.line.Said.{Said}
use Rattle.snippets.specs.declared.line.Said.TheVariants.{Nothing, Does, Wrong}

abbrev pub on_edge : ℕ → Said → List Op
on_edge edge Nothing = []
on_edge edge (Does other op) = if other == edge then op ∷ [] else []
on_edge edge Wrong = []

-- the operations on an edge, in the order of the lines
abbrev pub ops_on : ℕ → List Said → List Op
ops_on edge said = flat_map (on_edge edge) said

-- one more than the greatest number that a line has, or 0
abbrev pub end_of : (Said → ℕ) → List Said → ℕ
end_of end [] = 0
end_of end (line ∷ lines) = max (end line) (end_of end lines)

abbrev pub edge_end : Said → ℕ
edge_end Nothing = 0
edge_end (Does edge op) = edge + 1
edge_end Wrong = 0

abbrev pub cell_end : Said → ℕ
cell_end Nothing = 0
cell_end (Does edge op) = cells_end op
cell_end Wrong = 0

-- a snippet for each edge, up to the last one that is named
abbrev pub snips_of : List Said → List (List Op)
snips_of said = map (λ edge. ops_on edge said) (range_with_len 0 (end_of edge_end said))

-- Why a line is bad after the lines before it, with its number from 1 on.
abbrev pub fault_of : ℕ → List Said → Said → Option ScriptFault
fault_of edges before Nothing = None
fault_of edges before Wrong = Some (faults.Line (length before + 1))
fault_of edges before (Does edge op) =
    if nat_le edges edge then Some (faults.Edge (length before + 1)) else
    (if nat_lt (2 ^ 22) (cells_end op) then Some (faults.Cell (length before + 1)) else
    (if nat_le 8 (length (ops_on edge before)) then Some (faults.Ops (length before + 1)) else None))

-- the same of the line at a place
abbrev pub fault_at : ℕ → List Said → ℕ → Option ScriptFault
fault_at edges said k = fault_of edges (take k said) (get_or said k Nothing)

-- No line is bad.
abbrev pub IsGood : ℕ → List Said → Type 0
IsGood edges said = (k : ℕ) → k < length said → fault_at edges said k ≡ None

-- The fault is that of the first bad line.
pub record IsFirstFault (edges : ℕ) (said : List Said) (fault : ScriptFault) : Type 0 where
  pub place : ℕ
  pub within : place < length said
  pub is : fault_at edges said place ≡ Some fault
  pub first : (k : ℕ) → k < place → fault_at edges said k ≡ None
