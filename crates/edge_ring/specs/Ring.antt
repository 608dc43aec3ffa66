-- The last edges of a walk, in a ring of cells: cell 0 counts the edges, and behind it stand 2^bits places, into which
-- the edges go in turn. A place holds 0 while it is empty, and then an edge's number and one.
use Rattle.std.specs.Prelude.{ℕ, zero, suc, ◌+◌, ◌-◌, ◌%◌, ◌^◌, List, [], ◌∷◌, ◌++◌, length, take, drop, get_or, Option, Some, None}
use Rattle.std.specs.List.{filter_map}
use Rattle.snippets.specs.declared.snippet.Op.{Op}
use Rattle.snippets.specs.declared.snippet.Op.TheVariants.{Log}

-- the snippet on an edge
abbrev pub ring_on : ℕ → ℕ → List Op
ring_on bits edge = Log 0 bits (edge + 1) ∷ []

-- ---- a walk's last edges: as many as the ring has places, or all, where there are fewer
abbrev pub last_of : ℕ → List ℕ → List ℕ
last_of bits walk = drop (length walk - 2 ^ bits) walk

-- ---- the edges that cells hold

-- places from this one on, and round to it
abbrev pub round_from : ℕ → List ℕ → List ℕ
round_from place places = drop place places ++ take place places

-- the place that comes next, which holds the oldest edge where all are full
abbrev pub next_place : ℕ → List ℕ → ℕ
next_place bits cells = get_or cells 0 0 % 2 ^ bits

-- the edge in a place
abbrev pub edge_in : ℕ → Option ℕ
edge_in zero = None
edge_in (suc edge) = Some edge

-- those of the places that aren't empty, the oldest first
abbrev pub edges_in : ℕ → List ℕ → List ℕ
edges_in bits cells = filter_map edge_in (round_from (next_place bits cells) (drop 1 cells))
