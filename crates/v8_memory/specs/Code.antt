-- What contracts of this crate's code and laws cite beyond the statement.
use Rattle.std.specs.Prelude.{◌+◌, Bool, ◌||◌, nat_le, true, ◌&&◌, List, [], ◌∷◌, map, false, ◌≡◌, Option, Some, None, ℕ, ◌<◌}
use Rattle.std.specs.List.{find}
use Rattle.elf32_sparc.specs.Mapping.{Mapping}
use Rattle.v8_memory.specs.Spans.{Span, IsApartFromAll}
use Rattle.v8_memory.specs.Segments.{heap_start, heap_room}
use Rattle.v8_memory.specs.Regions.{Region, Memory, covers}

-- the same as tests: two spans without a common address, one and some others, and spans of which no two have one
abbrev pub is_apart : Span → Span → Bool
is_apart x y = nat_le (x.from + x.count) y.from || nat_le (y.from + y.count) x.from

abbrev pub is_apart_from : Span → List Span → Bool
is_apart_from x [] = true
is_apart_from x (y ∷ ys) = is_apart x y && is_apart_from x ys

abbrev pub are_apart : List Span → Bool
are_apart [] = true
are_apart (x ∷ xs) = is_apart_from x xs && are_apart xs

-- all that the heap may take, and what is mapped besides
abbrev pub heap_span : Span
heap_span = record { from = heap_start; count = heap_room }

abbrev pub span_of : Region → Span
span_of r = record { from = r.start; count = r.size }

abbrev pub span_of_mapping : Mapping → Span
span_of_mapping m = record { from = m.start; count = m.length }

-- regions of which no two have a common address, and none one that the heap may take
abbrev pub regions_apart : List Region → Bool
regions_apart regions = are_apart (heap_span ∷ map span_of regions)

-- what is to be mapped, likewise
abbrev pub mappings_apart : List Mapping → Bool
mappings_apart mapped = are_apart (heap_span ∷ map span_of_mapping mapped)

-- a region without permission to be executed
abbrev pub without_execution : Region → Region
without_execution r = record r { executable = false }

-- regions that differ at most in their permission to be executed
abbrev pub IsSameRegion : Option Region → Option Region → Type 0
IsSameRegion None None = Unit {0}
IsSameRegion (Some r) (Some q) = without_execution r ≡ without_execution q
IsSameRegion None (Some q) = ⊥
IsSameRegion (Some r) None = ⊥

-- The same memory outside some pages: the heap, its end and all of its bytes, and for every span outside the
-- pages the region that has it, except for its permission to be executed.
pub record IsSameOutside (pages : List Span) (m n : Memory) : Type 0 where
  pub heap : m.heap ≡ n.heap
  pub outside : (address count : ℕ) → 0 < count → IsApartFromAll pages (record { from = address; count = count })
      → IsSameRegion (find (covers address count) m.regions) (find (covers address count) n.regions)
