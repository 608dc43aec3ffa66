-- Where regions are apart, one of them at most has given bytes.
use Rattle.v8_memory.proofs.Common.{◌≡◌, ℕ, zero, suc, ◌+◌, ◌<◌, ◌≤◌, inl, inr, Bool, true, false, ◌&&◌, Option, Some, None, List, [], ◌∷◌, length, map, take, drop, ◌++◌, get_or, slice_set, refl, ap, sym, ◌∙◌, arith, if◌then◌else◌, filter, find, option_map, and_parts, and_right, cases_Bool, cond_both, cond-true, false_from_ne_true, both_ways, drop_all, Predecoded, Fills, AreKept, Memory, Region, covers, changed, written, all_written, write_region, with_bytes, if_allowed, is_code, region_at, Mapping, heap_start, heap_room, region_of, Span, is_apart, is_apart_from, are_apart, heap_span, span_of, span_of_mapping, regions_apart, mappings_apart}
use Rattle.std.proofs.lemmas.Bool.Decides.{nat_tests}
use Rattle.v8_memory.proofs.Kept.{kept_written, written_through}

-- a region that lies in a span has no byte of what is apart from it
pub not_both : (address count : ℕ) (x : Span) (r q : Region) → 0 < count → is_apart x (span_of q) ≡ true
    → x.from ≤ r.start → r.start + r.size ≤ x.from + x.count → covers address count r ≡ true
    → covers address count q ≡ false
not_both address count x r q some apart low high has = grind (arith, nat_tests)

-- a region that hasn't all of the bytes stays
stays : (address : ℕ) (bytes : List ℕ) (q : Region) → covers address (length bytes) q ≡ false → written address bytes q ≡ q
stays address bytes q none = rw none

-- and so does one that may not be written
refuses : (address : ℕ) (bytes : List ℕ) (q : Region) → q.writable ≡ false → written address bytes q ≡ q
refuses address bytes q no_leave = rw (and_right (covers address (length bytes) q) q.writable no_leave)

-- where a region in a span has the bytes, those apart from the span stay
others_stay : (address : ℕ) (bytes : List ℕ) (x : Span) (r : Region) (rs : List Region) → 0 < length bytes
    → is_apart_from x (map span_of rs) ≡ true → x.from ≤ r.start → r.start + r.size ≤ x.from + x.count
    → covers address (length bytes) r ≡ true → map (written address bytes) rs ≡ rs
others_stay address bytes x r [] some apart low high has = refl
others_stay address bytes x r (q ∷ rs) some apart low high has =
    let parts = and_parts (is_apart x (span_of q)) (is_apart_from x (map span_of rs)) apart in
    rw (
      stays address bytes q (not_both address (length bytes) x r q some parts.0 low high has),
      others_stay address bytes x r rs some parts.1 low high has,
    )

-- and the heap's span has none of them where a region has
apart_at : (x : Span) (rs : List Region) (i : ℕ) (d : Region) → is_apart_from x (map span_of rs) ≡ true → i < length rs
    → is_apart x (span_of (get_or rs i d)) ≡ true
apart_at x [] i d apart within = absurd (omega arith)
apart_at x (q ∷ rs) zero d apart within = (and_parts (is_apart x (span_of q)) (is_apart_from x (map span_of rs)) apart).0
apart_at x (q ∷ rs) (suc i) d apart within =
    apart_at x rs i d (and_parts (is_apart x (span_of q)) (is_apart_from x (map span_of rs)) apart).1 (omega arith)

apart_sym : (x y : Span) → is_apart x y ≡ true → is_apart y x ≡ true
apart_sym x y h = grind (arith, nat_tests)

-- the region that has the bytes is written, and no other
pub write_once : (address : ℕ) (bytes : List ℕ) (rs : List Region) (i : ℕ) (d : Region) → 0 < length bytes
    → are_apart (map span_of rs) ≡ true → i < length rs → covers address (length bytes) (get_or rs i d) ≡ true
    → slice_set rs i (written address bytes (get_or rs i d)) ≡ map (written address bytes) rs
write_once address bytes [] i d some apart within has = absurd (omega arith)
write_once address bytes (r ∷ rs) zero d some apart within has =
    let parts = and_parts (is_apart_from (span_of r) (map span_of rs)) (are_apart (map span_of rs)) apart in
    rw (others_stay address bytes (span_of r) r rs some parts.0 (omega arith) (omega arith) has)
write_once address bytes (r ∷ rs) (suc i) d some apart within has =
    let parts = and_parts (is_apart_from (span_of r) (map span_of rs)) (are_apart (map span_of rs)) apart in
    let q : Region = get_or rs i d in
    let away : is_apart (span_of q) (span_of r) ≡ true =
    apart_sym (span_of r) (span_of q) (apart_at (span_of r) rs i d parts.0 (omega arith)) in
    rw (
      write_once address bytes rs i d some parts.1 (omega arith) has,
      stays address bytes r (not_both address (length bytes) (span_of q) q r some away (omega arith) (omega arith) has),
    )

-- of regions that are apart, any one that has the bytes is the one that is found
pub found_any : (address count : ℕ) (rs : List Region) (i : ℕ) (d : Region) → 0 < count
    → are_apart (map span_of rs) ≡ true → i < length rs → covers address count (get_or rs i d) ≡ true
    → find (covers address count) rs ≡ Some (get_or rs i d)
found_any address count [] i d some apart within has = absurd (omega arith)
found_any address count (r ∷ rs) zero d some apart within has = rw has
found_any address count (r ∷ rs) (suc i) d some apart within has =
    let parts = and_parts (is_apart_from (span_of r) (map span_of rs)) (are_apart (map span_of rs)) apart in
    let q : Region = get_or rs i d in
    let away : is_apart (span_of q) (span_of r) ≡ true =
    apart_sym (span_of r) (span_of q) (apart_at (span_of r) rs i d parts.0 (omega arith)) in
    rw (not_both address count (span_of q) q r some away (omega arith) (omega arith) has)
    (found_any address count rs i d some parts.1 (omega arith) has)

-- where none has the bytes, none is written
none_written : (address : ℕ) (bytes : List ℕ) (rs : List Region) → find (covers address (length bytes)) rs ≡ None
    → map (written address bytes) rs ≡ rs
none_written address bytes [] none = refl
none_written address bytes (r ∷ rs) none = elim (cases_Bool (covers address (length bytes) r)) [
  | inl has ↦ absurd (cc (rw has at none))
  | inr has ↦ rw (stays address bytes r has, none_written address bytes rs (rw has at none))
]

-- where the one that has them may not be written, none is
none_changed : (address : ℕ) (bytes : List ℕ) (rs : List Region) (q : Region) → 0 < length bytes
    → are_apart (map span_of rs) ≡ true → find (covers address (length bytes)) rs ≡ Some q → q.writable ≡ false
    → map (written address bytes) rs ≡ rs
none_changed address bytes [] q some apart is no_leave = absurd (cc)
none_changed address bytes (r ∷ rs) q some apart is no_leave =
    let parts = and_parts (is_apart_from (span_of r) (map span_of rs)) (are_apart (map span_of rs)) apart in
    elim (cases_Bool (covers address (length bytes) r)) [
      | inl has ↦
          let same : Some r ≡ Some q = rw has at is in
          rw (refuses address bytes r (cc), others_stay address bytes (span_of r) r rs some parts.0 (omega arith) (omega arith) has)
      | inr has ↦ rw (stays address bytes r has, none_changed address bytes rs q some parts.1 (rw has at is) no_leave)
    ]

-- a region that is found has the bytes, and the heap hasn't
found_apart : (address count : ℕ) (heap : Region) (rs : List Region) (q : Region) → 0 < count
    → is_apart_from heap_span (map span_of rs) ≡ true → heap.start ≡ heap_start → heap.size ≤ heap_room
    → find (covers address count) rs ≡ Some q → covers address count heap ≡ false
found_apart address count heap [] q some apart start room is = absurd (cc)
found_apart address count heap (r ∷ rs) q some apart start room is =
    let parts = and_parts (is_apart heap_span (span_of r)) (is_apart_from heap_span (map span_of rs)) apart in
    elim (cases_Bool (covers address count r)) [
      | inl has ↦ false_from_ne_true _ (λ h. both_ways _
          (not_both address count heap_span heap r some parts.0 (omega (arith, start)) (omega (arith, start, room)) h) has)
      | inr has ↦ found_apart address count heap rs q some parts.1 start room (rw has at is)
    ]

-- the heap may be asked last
pub heap_last : (m : Memory) (address count : ℕ) (q : Region) → 0 < count → regions_apart m.regions ≡ true
    → m.heap.start ≡ heap_start → m.heap.size ≤ heap_room → find (covers address count) m.regions ≡ Some q
    → region_at m address count ≡ Some q
heap_last m address count q some apart start room is =
    let parts = and_parts (is_apart_from heap_span (map span_of m.regions)) (are_apart (map span_of m.regions)) apart in
    rw (found_apart address count m.heap m.regions q some parts.0 start room is) is

pub heap_or_none : (m : Memory) (address count : ℕ) → find (covers address count) m.regions ≡ None
    → region_at m address count ≡ (if covers address count m.heap then Some m.heap else None)
heap_or_none m address count none = rw none

-- regions that are written stay where they are
pub spans_stay : (address : ℕ) (bytes : List ℕ) (rs : List Region) → map span_of (map (written address bytes) rs) ≡ map span_of rs
spans_stay address bytes [] = refl
spans_stay address bytes (r ∷ rs) =
    ap (λ z. z ∷ map span_of (map (written address bytes) rs))
    (cond_both (covers address (length bytes) r && r.writable) (changed address bytes r) r (λ z. span_of z ≡ span_of r)
    (λ _. refl) (λ _. refl))
    ∙ ap (λ z. span_of r ∷ z) (spans_stay address bytes rs)

apart_written : (address : ℕ) (bytes : List ℕ) (old new : List Region) → new ≡ map (written address bytes) old
    → regions_apart old ≡ true → regions_apart new ≡ true
apart_written address bytes old new is h =
    rw (is, spans_stay address bytes old) h

-- what a memory's invariant says of its regions stays where one of them is written in its place
pub stay_at : (address : ℕ) (bytes : List ℕ) (items new : List Region) (first : ℕ) (kept : List Predecoded)
    → new ≡ map (written address bytes) items → regions_apart items ≡ true → AreKept (filter is_code items) first kept
    → (regions_apart new ≡ true) × AreKept (filter is_code new) first kept
stay_at address bytes items new first kept is apart are =
    (apart_written address bytes items new is apart, kept_written address bytes items new first kept is are)

-- and where they are written through a slice of them all
pub all_stay : (address : ℕ) (bytes : List ℕ) (count : ℕ) (items slice new : List Region) (first : ℕ) (kept : List Predecoded)
    → length items ≡ count → slice ≡ items → new ≡ map (written address bytes) slice → regions_apart items ≡ true
    → AreKept (filter is_code items) first kept
    → (regions_apart (take count (new ++ drop (length new) items)) ≡ true)
    × AreKept (filter is_code (take count (new ++ drop (length new) items))) first kept
all_stay address bytes count items slice new first kept whole same is =
    stay_at address bytes items _ first kept (written_through (written address bytes) count items slice new whole same is)

-- the region in a place that has the bytes is found, and no other
pub found_at : (address count : ℕ) (rs : List Region) (i : ℕ) (q : Region) → 0 < count → regions_apart rs ≡ true
    → i < length rs → covers address count (get_or rs i q) ≡ true → q ≡ get_or rs i q
    → find (covers address count) rs ≡ Some q
found_at address count rs i q some apart within has item =
    found_any address count rs i q some
    (and_parts (is_apart_from heap_span (map span_of rs)) (are_apart (map span_of rs)) apart).1 within has
    ∙ ap (λ (r : Region). Some r) (sym item)

pub covers_at : (address count : ℕ) (rs : List Region) (i : ℕ) (q : Region)
    → covers address count (get_or rs i q) ≡ true → q ≡ get_or rs i q → covers address count q ≡ true
covers_at address count rs i q has item = ap (covers address count) item ∙ has

-- the region in a place that has the bytes is written, and no other
pub written_at : (address : ℕ) (bytes : List ℕ) (rs : List Region) (i : ℕ) (old new : Region) → 0 < length bytes
    → regions_apart rs ≡ true → i < length rs → covers address (length bytes) (get_or rs i old) ≡ true
    → old ≡ get_or rs i old → new ≡ written address bytes old → slice_set rs i new ≡ map (written address bytes) rs
written_at address bytes rs i old new some apart within has item is =
    ap (λ z. slice_set rs i z) (is ∙ ap (written address bytes) item)
    ∙ write_once address bytes rs i old some
    (and_parts (is_apart_from heap_span (map span_of rs)) (are_apart (map span_of rs)) apart).1 within has

-- and it is the one that is found
pub may_at : (address : ℕ) (bytes : List ℕ) (rs : List Region) (i : ℕ) (old : Region) (done : Bool) → 0 < length bytes
    → regions_apart rs ≡ true → i < length rs → covers address (length bytes) (get_or rs i old) ≡ true
    → old ≡ get_or rs i old → done ≡ old.writable
    → Some done ≡ option_map (λ (r : Region). r.writable) (find (covers address (length bytes)) rs)
may_at address bytes rs i old done some apart within has item may =
    ap Some (may ∙ ap (λ (r : Region). r.writable) item)
    ∙ sym (ap (option_map (λ (r : Region). r.writable))
    (found_any address (length bytes) rs i old some
    (and_parts (is_apart_from heap_span (map span_of rs)) (are_apart (map span_of rs)) apart).1 within has))

-- the regions of plans that are apart
spans_planned : (planned : List Mapping) → map span_of (map region_of planned) ≡ map span_of_mapping planned
spans_planned [] = refl
spans_planned (m ∷ planned) = ap (λ z. span_of_mapping m ∷ z) (spans_planned planned)

pub planned_apart : (planned : List Mapping) → mappings_apart planned ≡ true
    → regions_apart (map region_of planned) ≡ true
planned_apart planned h = ap (λ z. are_apart (heap_span ∷ z)) (spans_planned planned) ∙ h

-- the first region from here on
pub found_here : (address count : ℕ) (rs : List Region) (i : ℕ) (r d : Region) → i < length rs → r ≡ get_or rs i d
    → covers address count r ≡ true → find (covers address count) (drop i rs) ≡ Some r
found_here address count [] i r d within is has = absurd (omega arith)
found_here address count (q ∷ rs) zero r d within is has =
    rw (is, rw is at has)
found_here address count (q ∷ rs) (suc i) r d within is has = found_here address count rs i r d (omega arith) is has

-- where no region is found, none is written
pub none_written_here : (address : ℕ) (bytes : List ℕ) (rs : List Region) (i : ℕ) → length rs ≤ i
    → find (covers address (length bytes)) rs ≡ find (covers address (length bytes)) (drop i rs)
    → rs ≡ map (written address bytes) rs
none_written_here address bytes rs i past left =
    sym (none_written address bytes rs (rw (drop_all i rs past) at left))

-- ---- a write as it is made

abbrev memory_with : Region → List Region → Memory
memory_with heap regions = record { heap = heap; regions = regions }

memory_is : (m n : Memory) → n.heap ≡ m.heap → n.regions ≡ m.regions → n ≡ m
memory_is m n heap regions = ap (λ h. memory_with h n.regions) heap ∙ ap (memory_with m.heap) regions

-- a region has the bytes
pub write_region_done : (m n : Memory) (address : ℕ) (bytes : List ℕ) (done : Bool) → 0 < length bytes
    → regions_apart m.regions ≡ true → m.heap.start ≡ heap_start → m.heap.size ≤ heap_room
    → n.heap ≡ m.heap → n.regions ≡ map (written address bytes) m.regions
    → Some done ≡ option_map (λ (r : Region). r.writable) (find (covers address (length bytes)) m.regions)
    → Fills (with_bytes m address bytes) m n done
unfolding with_bytes
write_region_done m n address bytes done some apart start room same is was =
    go (find (covers address (length bytes)) m.regions) refl was
  where
    parts : (is_apart_from heap_span (map span_of m.regions) ≡ true) × (are_apart (map span_of m.regions) ≡ true)
    parts = and_parts (is_apart_from heap_span (map span_of m.regions)) (are_apart (map span_of m.regions)) apart

    heap_is : (q : Region) → find (covers address (length bytes)) m.regions ≡ Some q → written address bytes m.heap ≡ m.heap
    heap_is q e =
        stays address bytes m.heap
        (found_apart address (length bytes) m.heap m.regions q some parts.0 start room e)

    made : (q : Region) (b : Bool) → find (covers address (length bytes)) m.regions ≡ Some q → q.writable ≡ b
        → done ≡ b → Fills (if_allowed b (all_written address bytes m)) m n done
    made q true e may d = (d, memory_is (all_written address bytes m) n (same ∙ sym (heap_is q e)) is)
    made q false e may d =
        (d, memory_is m n same (is ∙ none_changed address bytes m.regions q some parts.1 e may))

    go : (x : Option Region) → find (covers address (length bytes)) m.regions ≡ x
        → Some done ≡ option_map (λ (r : Region). r.writable) x → Fills (with_bytes m address bytes) m n done
    go None e w = absurd (cc)
    go (Some q) e w =
        let d : done ≡ q.writable = cc in
        rw (heap_last m address (length bytes) q some apart start room e) (made q q.writable e refl d)

-- the heap has them
pub write_heap_first : (m n : Memory) (address : ℕ) (bytes : List ℕ) (done : Bool) → 0 < length bytes
    → regions_apart m.regions ≡ true → m.heap.start ≡ heap_start → m.heap.size ≤ heap_room
    → covers address (length bytes) m.heap ≡ true → n.heap ≡ written address bytes m.heap → n.regions ≡ m.regions
    → done ≡ m.heap.writable → Fills (with_bytes m address bytes) m n done
unfolding with_bytes
write_heap_first m n address bytes done some apart start room has heap regions was =
    rw (cond-true (covers address (length bytes) m.heap) (Some m.heap) (find (covers address (length bytes)) m.regions) has)
    (allowed m.heap.writable refl)
  where
    others : map (written address bytes) m.regions ≡ m.regions
    others =
        others_stay address bytes heap_span m.heap m.regions some
        (and_parts (is_apart_from heap_span (map span_of m.regions)) (are_apart (map span_of m.regions)) apart).0
        (omega (arith, start)) (omega (arith, start, room)) has

    allowed : (w : Bool) → m.heap.writable ≡ w → Fills (if_allowed w (all_written address bytes m)) m n done
    allowed true may = (was ∙ may, memory_is (all_written address bytes m) n heap (regions ∙ sym others))
    allowed false may = (was ∙ may, memory_is m n (heap ∙ refuses address bytes m.heap may) regions)

-- no region has them, and the heap is asked
pub write_heap_done : (m n : Memory) (address : ℕ) (bytes : List ℕ) (done : Bool)
    → None ≡ option_map (λ (r : Region). r.writable) (find (covers address (length bytes)) m.regions)
    → n.heap ≡ written address bytes m.heap
    → n.regions ≡ map (written address bytes) m.regions
    → done ≡ (covers address (length bytes) m.heap && m.heap.writable)
    → Fills (with_bytes m address bytes) m n done
unfolding with_bytes
write_heap_done m n address bytes done found heap regions was =
    rw (heap_or_none m address (length bytes) none) (go (covers address (length bytes) m.heap) refl)
  where
    is_none : (x : Option Region) → None ≡ option_map (λ (r : Region). r.writable) x → x ≡ None
    is_none None e = refl
    is_none (Some r) e = absurd (cc)

    none : find (covers address (length bytes)) m.regions ≡ None
    none = is_none (find (covers address (length bytes)) m.regions) found

    allowed : (w : Bool) → covers address (length bytes) m.heap ≡ true → m.heap.writable ≡ w
        → Fills (if_allowed w (all_written address bytes m)) m n done
    allowed true has may = (
      was ∙ ap (λ b. b && m.heap.writable) has ∙ may,
      memory_is (all_written address bytes m) n heap regions,
    )
    allowed false has may = (
      was ∙ ap (λ b. b && m.heap.writable) has ∙ may,
      memory_is m n (heap ∙ refuses address bytes m.heap may)
          (regions ∙ none_written address bytes m.regions none),
    )

    go : (b : Bool) → covers address (length bytes) m.heap ≡ b
        → Fills (write_region address bytes m (if b then Some m.heap else None)) m n done
    go true has = allowed m.heap.writable has refl
    go false has = (
      was ∙ ap (λ b. b && m.heap.writable) has,
      memory_is m n (heap ∙ stays address bytes m.heap has)
          (regions ∙ none_written address bytes m.regions none),
    )
