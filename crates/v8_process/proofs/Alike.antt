-- Files that map the same outside some pages start with the same memory there.
use Rattle.v8_process.proofs.Common.{◌≡◌, ℕ, ◌<◌, false, Option, Some, None, List, [], ◌∷◌, ◌++◌, map, refl, ap, arith, nat_tests, find, Mapping, mappings, Region, covers, region_of, IsApart, IsApartFromAll, without_execution, IsSameRegion, stack_region}
use Rattle.v8_memory.proofs.Same.{chosen}
use Rattle.v8_process.specs.Alike.{IsSameMapping, AreSameMappings, span_of, StartsAlike}
pub use Rattle.v8_process.proofs.Programs.{without_arguments}

-- ---- a page, and a span apart from it

uncovered : (page : Mapping) (address count : ℕ) → 0 < count
    → IsApart (span_of page) (record { from = address; count = count })
    → covers address count (region_of page) ≡ false
uncovered page address count some apart = grind (arith, nat_tests)

pages_passed : (pages : List Mapping) (rest : List Region) (address count : ℕ) → 0 < count
    → IsApartFromAll (map span_of pages) (record { from = address; count = count })
    → find (covers address count) (map region_of pages ++ rest) ≡ find (covers address count) rest
pages_passed [] rest address count some apart = refl
pages_passed (page ∷ pages) rest address count some (first, others) =
    rw (uncovered page address count some first) (pages_passed pages rest address count some others)

-- ---- mappings that are kept

same_region_of : (m n : Mapping) → IsSameMapping m n
    → without_execution (region_of m) ≡ without_execution (region_of n)
same_region_of m n h = rw (h.start, h.length, h.readable, h.writable, h.first)

same_as_itself : (x : Option Region) → IsSameRegion x x
same_as_itself None = tt
same_as_itself (Some r) = refl

found_alike : (ms ns pages : List Mapping) (rest : List Region) (address count : ℕ) → AreSameMappings ms ns
    → 0 < count → IsApartFromAll (map span_of pages) (record { from = address; count = count })
    → IsSameRegion (find (covers address count) (map region_of ms ++ rest))
    (find (covers address count) (map region_of (ns ++ pages) ++ rest))
found_alike [] [] pages rest address count same some apart =
    rw (pages_passed pages rest address count some apart) (same_as_itself (find (covers address count) rest))
found_alike (m ∷ ms) (n ∷ ns) pages rest address count (first, others) some apart =
    chosen (covers address count (region_of m)) (covers address count (region_of n)) (region_of m) (region_of n)
    _ _
    (ap (covers address count) (same_region_of m n first)) (same_region_of m n first)
    (found_alike ms ns pages rest address count others some apart)
found_alike ms ns pages rest address count same some apart = absurd same

-- ---- the memory in which a file starts

pub starts_alike : StartsAlike
starts_alike original file kept pages is same texts = record {
  heap = refl;
  outside = λ address count some apart.
      rw is (found_alike (mappings original) kept pages (stack_region texts ∷ []) address count same some apart);
}
