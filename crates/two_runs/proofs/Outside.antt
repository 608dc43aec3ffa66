-- Addresses outside the pages: their bytes, and the end of the heap, are the same in memories that are the
-- same outside.
use Rattle.two_runs.proofs.Common.{◌≡◌, ℕ, ◌+◌, false, Option, Some, None, List, [], ◌∷◌, map, refl, ap, arith, list_any, option_map, or_parts, nat_tests, Notes, NoteSegment, holds, Memory, Region, part_of, region_at, byte_at, heap_end_of, Span, IsApart, IsApartFromAll, IsSameRegion, IsSameOutside, same_region, page_of, pages_of, in_pages}

apart_one : (address : ℕ) (segment : NoteSegment) → holds address (address + 1) segment ≡ false
    → IsApart (page_of segment) (record { from = address; count = 1 })
apart_one address segment h = grind (arith, nat_tests)

apart_all : (address : ℕ) (segments : List NoteSegment)
    → list_any (holds address (address + 1)) segments ≡ false
    → IsApartFromAll (map page_of segments) (record { from = address; count = 1 })
apart_all address [] h = tt
apart_all address (segment ∷ segments) h =
    let parts = or_parts (holds address (address + 1) segment) _ h in
    (apart_one address segment parts.0, apart_all address segments parts.1)

pub apart_outside : (notes : Notes) (address : ℕ) → in_pages notes address ≡ false
    → IsApartFromAll (pages_of notes) (record { from = address; count = 1 })
apart_outside notes address h = apart_all address notes.segments h

byte_same : (address : ℕ) (x y : Option Region) → IsSameRegion x y
    → option_map (λ r. part_of r address 1) x ≡ option_map (λ r. part_of r address 1) y
byte_same address None None h = refl
byte_same address (Some r) (Some q) h = ap (λ (z : Region). Some (part_of z address 1)) h
byte_same address x y h = absurd h

pub byte_outside : (notes : Notes) (m n : Memory) (address : ℕ) → IsSameOutside (pages_of notes) m n
    → in_pages notes address ≡ false → byte_at m address ≡ byte_at n address
byte_outside notes m n address h outside =
    byte_same address (region_at m address 1) (region_at n address 1)
    (same_region (pages_of notes) m n address 1 h (omega arith) (apart_outside notes address outside))

pub heap_end_same : (pages : List Span) (m n : Memory) → IsSameOutside pages m n
    → heap_end_of m ≡ heap_end_of n
heap_end_same pages m n h = ap (λ (z : Region). z.start + z.size) h.heap
