-- How often each edge was completed, by the cells of a dump and where the run stands.
use Rattle.std.specs.Prelude.{◌≡◌, ℕ, ◌+◌, ◌*◌, ◌<◌, ◌^◌, ◌==◌, nat_le, if◌then◌else◌, Bool, true, false, List, slice_index_or, Option, Some, None, ℤ, pos, negsuc}
use Rattle.notes.specs.Format.{Notes, node_at}
use Rattle.flows.specs.Flows.{IsTheFlow}
use Rattle.dump_file.specs.Dump.{Dump}
use Rattle.count_rebuild.specs.Dumps.{IsTheirs}
use Rattle.count_rebuild.specs.Noted.{edge_at, has_cell, noted_graph, IsProfile}

-- what a counter holds: a cell in version 1, and in version 2 a cell and the next one, the high word first
abbrev pub counter_value : ℕ → List ℕ → ℕ → ℕ
counter_value version cells cell =
    let first = slice_index_or cells cell 0 in
    if version == 1 then first else 2 ^ 32 * first + slice_index_or cells (cell + 1) 0

abbrev pub cell_value : ℕ → List ℕ → Option ℕ → ℤ
cell_value version cells None = pos 0
cell_value version cells (Some cell) = pos (counter_value version cells cell)

-- the counts of the edges that have a cell
abbrev pub cell_counts : Notes → Dump → ℕ → ℤ
cell_counts notes dump e = cell_value notes.version dump.cells (edge_at notes e).cell

-- The flow with these counts, from the block at which the program is entered to a node. There is one at most, in whole
-- numbers that may be below 0.
abbrev pub IsFlowTo : Notes → Dump → ℕ → (ℕ → ℤ) → Type 0
IsFlowTo notes dump node flow =
    IsTheFlow (noted_graph notes) (has_cell notes) notes.entry node (cell_counts notes dump) flow

-- ---- which dumps have one

-- no counter can have begun at 0 again
pub record IsShort (notes : Notes) (dump : Dump) : Type 0 where
  pub theirs : IsTheirs IsProfile notes dump
  pub steps : notes.version ≡ 1 → dump.steps < 2 ^ 32

-- the run stands at a node
pub record StandsAt (notes : Notes) (dump : Dump) (node : ℕ) : Type 0 where
  pub short : IsShort notes dump
  pub at : node_at notes dump.pc ≡ Some node

-- ---- counts below 0, and those of 2^64 or more

abbrev pub is_negative : ℤ → Bool
is_negative (pos n) = false
is_negative (negsuc n) = true

abbrev pub is_large : ℤ → Bool
is_large (pos n) = nat_le (2 ^ 64) n
is_large (negsuc n) = false

-- the first edge whose count is bad in some way, and its count
pub record IsFirst (is_bad : ℤ → Bool) (edges : ℕ) (flow : ℕ → ℤ) (edge : ℕ) (value : ℤ) : Type 0 where
  pub inside : edge < edges
  pub is : value ≡ flow edge
  pub bad : is_bad (flow edge) ≡ true
  pub first : (e : ℕ) → e < edge → is_bad (flow e) ≡ false
