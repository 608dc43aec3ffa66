-- Writes and moves of the heap's end keep memory valid, and reads give bytes.
use Rattle.v8_step.proofs.Common.{◌≡◌, ℕ, ◌+◌, ◌-◌, ◌<◌, ◌≤◌, Bool, true, false, ◌&&◌, List, [], ◌∷◌, ◌++◌, length, take, drop, All, Option, Some, None, IfSome, ◌∙◌, arith, length-append, length-take, length-drop, find, leb-true, and_parts, cond_both, All-cons, All-head, All-tail, All-append, All-take, All-drop, All-map, All-weaker, Region, Memory, covers, region_at, part_of, if_allowed, read_region, bytes_at, changed, written, all_written, write_region, with_bytes, with_heap_end, heap_room, AreBytes, IsValidRegion, IsValidHeap, IsValidMemory}

-- ---- reading

pub find-holds : {A : Type 0} (P : A → Type 0) (p : A → Bool) (xs : List A) → All P xs → IfSome (find p xs) P
find-holds P p [] h = tt
find-holds P p (x ∷ xs) h =
    cond_both (p x) (Some x) (find p xs) (λ o. IfSome o P) (λ _. All-head P x xs h)
    (λ _. find-holds P p xs (All-tail P x xs h))

part_of-bytes : (r : Region) (address count : ℕ) → AreBytes r.bytes → AreBytes (part_of r address count)
part_of-bytes r address count h =
    All-take (λ b. b < 256) count _ (All-drop (λ b. b < 256) (address - r.start) r.bytes h)

pub bytes_at-bytes : (m : Memory) (address count : ℕ) → IsValidMemory m → IfSome (bytes_at m address count) AreBytes
unfolding bytes_at
bytes_at-bytes m address count h =
    go (region_at m address count)
    (find-holds (λ r. AreBytes r.bytes) (covers address count) (m.heap ∷ m.regions)
    (All-cons (λ r. AreBytes r.bytes) m.heap m.regions h.heap.bytes
    (All-weaker IsValidRegion (λ r. AreBytes r.bytes) (λ r k. k.bytes) m.regions h.regions)))
  where
    allowed : (b : Bool) (bytes : List ℕ) → AreBytes bytes → IfSome (if_allowed b bytes) AreBytes
    allowed true bytes k = k
    allowed false bytes k = tt

    go : (x : Option Region) → IfSome x (λ r. AreBytes r.bytes) → IfSome (read_region address count x) AreBytes
    go None k = tt
    go (Some r) k = allowed r.readable _ (part_of-bytes r address count k)

-- ---- writing

changed-bytes : (address : ℕ) (bytes : List ℕ) (r : Region) → AreBytes bytes → AreBytes r.bytes
    → AreBytes (changed address bytes r).bytes
changed-bytes address bytes r h k =
    All-append (λ b. b < 256) (take (address - r.start) r.bytes ++ bytes) _
    (All-append (λ b. b < 256) (take (address - r.start) r.bytes) bytes (All-take (λ b. b < 256) _ r.bytes k) h)
    (All-drop (λ b. b < 256) (address - r.start + length bytes) r.bytes k)

length-pasted : (at : ℕ) (bytes old : List ℕ) → at + length bytes ≤ length old
    → length (take at old ++ bytes ++ drop (at + length bytes) old) ≡ length old
length-pasted at bytes old fits = simp (length-append, length-take, length-drop) (omega arith)

length-changed : (address : ℕ) (bytes : List ℕ) (r : Region) → r.start ≤ address
    → address + length bytes ≤ r.start + r.size → r.size ≤ length r.bytes
    → length (changed address bytes r).bytes ≡ length r.bytes
length-changed address bytes r low high room = length-pasted (address - r.start) bytes r.bytes (omega arith)

-- what holds of a changed region that is mapped there, and of the region itself
either : (P : Region → Type 0) (address : ℕ) (bytes : List ℕ) (r : Region) → P r
    → (r.start ≤ address → address + length bytes ≤ r.start + r.size → P (changed address bytes r))
    → P (written address bytes r)
either P address bytes r h k = cond_both (covers address (length bytes) r && r.writable) _ _ P
    (λ e.
    let parts = and_parts _ _ (and_parts _ r.writable e).0 in k (leb-true _ _ parts.0) (leb-true _ _ parts.1))
    (λ e. h)

region_written : (address : ℕ) (bytes : List ℕ) (r : Region) → AreBytes bytes → IsValidRegion r
    → IsValidRegion (written address bytes r)
region_written address bytes r k h =
    either IsValidRegion address bytes r h (λ low high. record {
      count = length-changed address bytes r low high (omega (arith, h.count)) ∙ h.count;
      bytes = changed-bytes address bytes r k h.bytes;
    })

heap_written : (address : ℕ) (bytes : List ℕ) (r : Region) → AreBytes bytes → IsValidHeap r
    → IsValidHeap (written address bytes r)
heap_written address bytes r k h =
    either IsValidHeap address bytes r h (λ low high. record {
      start = h.start;
      size = h.size;
      count = length-changed address bytes r low high (omega (arith, h.count, h.size)) ∙ h.count;
      bytes = changed-bytes address bytes r k h.bytes;
    })

all_written-valid : (address : ℕ) (bytes : List ℕ) (m : Memory) → AreBytes bytes → IsValidMemory m
    → IsValidMemory (all_written address bytes m)
all_written-valid address bytes m k h = record {
  heap = heap_written address bytes m.heap k h.heap;
  regions =
      All-map IsValidRegion (written address bytes) m.regions
      (All-weaker IsValidRegion (λ r. IsValidRegion (written address bytes r))
      (λ r. region_written address bytes r k) m.regions h.regions);
}

pub with_bytes-valid : (m : Memory) (address : ℕ) (bytes : List ℕ) → AreBytes bytes → IsValidMemory m
    → IfSome (with_bytes m address bytes) IsValidMemory
unfolding with_bytes
with_bytes-valid m address bytes k h = go (region_at m address (length bytes))
  where
    allowed : (b : Bool) → IfSome (if_allowed b (all_written address bytes m)) IsValidMemory
    allowed true = all_written-valid address bytes m k h
    allowed false = tt

    go : (x : Option Region) → IfSome (write_region address bytes m x) IsValidMemory
    go None = tt
    go (Some r) = allowed r.writable

-- ---- the heap

pub with_heap_end-valid : (m : Memory) (end : ℕ) → end ≤ 0x81000000 → IsValidMemory m
    → IsValidMemory (with_heap_end m end)
with_heap_end-valid m end high h =
    let size : end - m.heap.start ≤ heap_room = omega (arith, h.heap.start) in assumption
