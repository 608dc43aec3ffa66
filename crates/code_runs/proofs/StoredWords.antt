-- What loads and stores of words do.
use Rattle.code_runs.proofs.Common.{◌≡◌, ℕ, ◌+◌, ◌-◌, ◌^◌, ◌<◌, ◌≤◌, ◌⊎◌, inl, inr, Bool, true, ◌&&◌, Option, Some, None, List, [], ◌∷◌, ◌++◌, length, take, drop, refl, ap, sym, ◌∙◌, subst, arith, length-append, length-drop, append_assoc, drop-drop, IfSome, cond_both, if◌then◌else◌, w32, to_be_bytes, from_be_bytes, find, option_map, take-append_seam, drop-append_seam, drop-append-add, nat_tests, Memory, Region, covers, region_at, part_of, changed, written, with_bytes, bytes_at, read_region, if_allowed, code_of, find-written, AreBytes, IsValidMemory, IsValidRegion, word_in, memory_word, store_word, CanLoad, CanStore}
use Rattle.std.proofs.lemmas.Nat.{from_be_bytes-to_be_bytes_4}
use Rattle.std.proofs.lemmas.List.{take-append-le, drop-append-le, take-append-drop, length-take}
use Rattle.std.proofs.lemmas.List.Elements.{All-cons, All-weaker, All-take, All-drop}
use Rattle.v8_memory.proofs.Executable.{filter-written}
use Rattle.v8_step.proofs.ValidMemory.{find-holds}
use Rattle.v8_step.proofs.ValidNumbers.{word_of-range}

pub covers_first : (p : Region → Bool) (rs : List Region) (r : Region) → find p rs ≡ Some r → p r ≡ true
covers_first p [] r e = absurd (cc)
covers_first p (q ∷ rs) r e = cond_both (p q) (Some q) (find p rs) (λ x. x ≡ Some r → p r ≡ true) (λ h s. cc)
    (λ h s. covers_first p rs r s) e

-- a part of what was spliced in
spliced_same : (xs bs : List ℕ) (k : ℕ) → k ≤ length xs
    → take (length bs) (drop k (take k xs ++ bs ++ drop (k + length bs) xs)) ≡ bs
spliced_same xs bs k h =
    let e : length (take k xs) ≡ k = omega (arith, length-take k xs) in
    ap (λ (z : List ℕ). take (length bs) (drop k z)) (append_assoc (take k xs) bs (drop (k + length bs) xs))
    ∙ ap (λ z. take (length bs) (drop z (take k xs ++ (bs ++ drop (k + length bs) xs)))) (sym e)
    ∙ ap (take (length bs)) (drop-append_seam (take k xs) (bs ++ drop (k + length bs) xs))
    ∙ take-append_seam bs (drop (k + length bs) xs)

before : (xs ys : List ℕ) (j n : ℕ) → j + n ≤ length xs → take n (drop j (xs ++ ys)) ≡ take n (drop j xs)
before xs ys j n h = ap (take n) (drop-append-le j xs ys (omega arith))
    ∙ take-append-le n (drop j xs) ys (omega (arith, length-drop j xs))

past : (xs bs ys : List ℕ) (j : ℕ) → length xs + length bs ≤ j
    → drop j (xs ++ bs ++ ys) ≡ drop (j - (length xs + length bs)) ys
past xs bs ys j h =
    ap (λ z. drop z (xs ++ bs ++ ys)) (let e : j ≡ length (xs ++ bs) + (j - (length xs + length bs)) = omega
    (arith, length-append xs bs) in e)
    ∙ drop-append-add (xs ++ bs) ys (j - (length xs + length bs))

whole : (xs : List ℕ) (k n : ℕ) → take k xs ++ take n (drop k xs) ++ drop (k + n) xs ≡ xs
whole xs k n =
    append_assoc (take k xs) (take n (drop k xs)) (drop (k + n) xs)
    ∙ ap (λ (z : List ℕ). take k xs ++ (take n (drop k xs) ++ z)) (sym (drop-drop n k xs))
    ∙ ap (λ (z : List ℕ). take k xs ++ z) (take-append-drop n (drop k xs)) ∙ take-append-drop k xs

pub spliced_other : (xs bs : List ℕ) (k j n : ℕ) → k + length bs ≤ length xs → (j + n ≤ k) ⊎ (k + length bs ≤ j)
    → take n (drop j (take k xs ++ bs ++ drop (k + length bs) xs)) ≡ take n (drop j xs)
spliced_other xs bs k j n h (inl s) =
    let e : length (take k xs) ≡ k = omega (arith, length-take k xs) in
    ap (λ (z : List ℕ). take n (drop j z)) (append_assoc (take k xs) bs (drop (k + length bs) xs))
    ∙ before (take k xs) _ j n (omega arith) ∙ sym (before (take k xs) (drop k xs) j n (omega arith))
    ∙ ap (λ (z : List ℕ). take n (drop j z)) (take-append-drop k xs)
spliced_other xs bs k j n h (inr s) =
    let e : length (take k xs) ≡ k = omega (arith, length-take k xs) in
    let f : length (take (length bs) (drop k xs)) ≡ length bs = omega
    (arith, length-take (length bs) (drop k xs), length-drop k xs) in
    ap (take n) (past (take k xs) bs (drop (k + length bs) xs) j (omega arith)
    ∙ ap (λ z. drop z (drop (k + length bs) xs)) (let g : j - (length (take k xs) + length bs) ≡ j -
    (length (take k xs) + length (take (length bs) (drop k xs))) = omega arith in g)
    ∙ sym (past (take k xs) (take (length bs) (drop k xs)) (drop (k + length bs) xs) j (omega arith))
    ∙ ap (drop j) (whole xs k (length bs)))

-- ---- cells
width : (v : ℕ) → length (to_be_bytes w32 v) ≡ 4
width v = refl

pub placed_in : (m : Memory) (a b v : ℕ) → region_at (store_word m b v) a 4 ≡ option_map (written b (to_be_bytes w32 v))
    (region_at m a 4)
unfolding store_word
placed_in m a b v = find-written a 4 b (to_be_bytes w32 v) (m.heap ∷ m.regions)

written_when : (a : ℕ) (bs : List ℕ) (r : Region) → covers a (length bs) r ≡ true → r.writable ≡ true
    → written a bs r ≡ record r { bytes = take (a - r.start) r.bytes ++ bs ++ drop (a - r.start + length bs) r.bytes }
written_when a bs r h k = rw (h, k)

pub covered : (a n : ℕ) (r : Region) → covers a n r ≡ true → (r.start ≤ a) × (a + n ≤ r.start + r.size)
covered a n r h = grind (arith, nat_tests)

-- a write leaves a region its shape, and its other words
pub record SameShape (r q : Region) : Type 0 where
  pub start : q.start ≡ r.start
  pub size : q.size ≡ r.size
  pub readable : q.readable ≡ r.readable
  pub writable : q.writable ≡ r.writable
  pub whole : r.size ≤ length r.bytes → q.size ≤ length q.bytes

pub shape : (b : ℕ) (bs : List ℕ) (r : Region) → SameShape r (written b bs r)
shape b bs r = go (covers b (length bs) r) refl r.writable
  where
    go : (c : Bool) → covers b (length bs) r ≡ c → (w : Bool) → SameShape r (if c && w then changed b bs r else r)
    go true e true = record {
      start = refl;
      size = refl;
      readable = refl;
      writable = refl;
      whole = λ h. (let i = covered b (length bs) r e in
          simp (length-append, length-take, length-drop) (omega (arith, i.0, i.1)));
    }
    go c e w = record { start = refl; size = refl; readable = refl; writable = refl; whole = λ h. h }

pub part : (r : Region) (a b : ℕ) (bs : List ℕ) → r.size ≤ length r.bytes → covers a 4 r ≡ true
    → (a + 4 ≤ b) ⊎ (b + length bs ≤ a) → part_of (written b bs r) a 4 ≡ part_of r a 4
part r a b bs whole has apart = go (covers b (length bs) r) refl r.writable
  where
    go : (c : Bool) → covers b (length bs) r ≡ c → (w : Bool)
        → part_of (if c && w then changed b bs r else r) a 4 ≡ part_of r a 4
    go true e true =
        let i = covered b (length bs) r e in
        let j = covered a 4 r has in
        spliced_other r.bytes bs (b - r.start) (a - r.start) 4 (omega (arith, i.0, i.1)) (elim apart [
          | inl s ↦ inl (omega (arith, i.0, i.1, j.0, j.1))
          | inr s ↦ inr (omega (arith, i.0, i.1, j.0, j.1))
        ])
    go c e w = refl

pub still_stored : (m : Memory) (a b v : ℕ) → CanStore m a → CanStore (store_word m b v) a
still_stored m a b v h = record {
  region = written b (to_be_bytes w32 v) h.region;
  at = placed_in m a b v ∙ ap (option_map (written b (to_be_bytes w32 v))) h.at;
  readable = (shape b (to_be_bytes w32 v) h.region).readable ∙ h.readable;
  writable = (shape b (to_be_bytes w32 v) h.region).writable ∙ h.writable;
  whole = (shape b (to_be_bytes w32 v) h.region).whole h.whole;
}

has : (m : Memory) (a : ℕ) (h : CanStore m a) → covers a 4 h.region ≡ true
has m a h = covers_first (covers a 4) (m.heap ∷ m.regions) h.region h.at

pub word_stored : (m : Memory) (a v : ℕ) → v < 2 ^ 32 → CanStore m a → memory_word (store_word m a v) a ≡ v
unfolding memory_word
word_stored m a v small h =
    let i = covered a 4 h.region (has m a h) in
    ap (word_in a) (placed_in m a a v ∙ ap (option_map (written a (to_be_bytes w32 v))) h.at
    ∙ ap (λ (z : Region). Some z) (written_when a (to_be_bytes w32 v) h.region (has m a h) h.writable))
    ∙ ap (from_be_bytes w32) (spliced_same h.region.bytes (to_be_bytes w32 v) (a - h.region.start)
    (let w = h.whole in omega (arith, i.0, i.1)))
    ∙ from_be_bytes-to_be_bytes_4 v small

-- what the machine reads and writes there
pub can_load : (m : Memory) (a : ℕ) → CanStore m a → CanLoad m a
can_load m a h = record { region = h.region; at = h.at; readable = h.readable }

pub word_bytes : (m : Memory) (a : ℕ) → CanLoad m a
    → (bs : List ℕ) × (bytes_at m a 4 ≡ Some bs) × (from_be_bytes w32 bs ≡ memory_word m a)
unfolding bytes_at memory_word
word_bytes m a h = (
  part_of h.region a 4,
  ap (read_region a 4) h.at
      ∙ ap (λ z. if_allowed z (part_of h.region a 4)) h.readable,
  ap (word_in a) (sym h.at),
)

pub word_written : (m : Memory) (a v : ℕ) → CanStore m a → with_bytes m a (to_be_bytes w32 v) ≡ Some (store_word m a v)
unfolding with_bytes store_word
word_written m a v h = rw (h.at, h.writable)

-- ---- all that is known of a word of valid memory
-- a store changes nothing that can be executed, and no word that can't be
pub code-store_word : (m : Memory) (a v : ℕ) → code_of (store_word m a v) ≡ code_of m
unfolding store_word
code-store_word m a v = filter-written a (to_be_bytes w32 v) m.regions

pub loads_stored : (m : Memory) (a b v : ℕ) → CanLoad m a → CanLoad (store_word m b v) a
loads_stored m a b v h = record {
  region = written b (to_be_bytes w32 v) h.region;
  at = placed_in m a b v ∙ ap (option_map (written b (to_be_bytes w32 v))) h.at;
  readable = (shape b (to_be_bytes w32 v) h.region).readable ∙ h.readable;
}

-- the bytes of a region of valid memory are there
pub whole_of : (m : Memory) (a : ℕ) (r : Region) → IsValidMemory m → region_at m a 4 ≡ Some r → r.size ≤ length r.bytes
whole_of m a r h e =
    subst (λ (z : Option Region). IfSome z (λ q. q.size ≤ length q.bytes)) e
    (find-holds (λ q. q.size ≤ length q.bytes) (covers a 4) (m.heap ∷ m.regions)
    (All-cons (λ q. q.size ≤ length q.bytes) m.heap m.regions
    (let b = h.heap.size in let c = h.heap.count in omega arith)
    (All-weaker IsValidRegion (λ q. q.size ≤ length q.bytes)
    (λ q k. let c = k.count in omega arith) m.regions h.regions)))

-- another word that is loaded stays
pub other_loaded : (m : Memory) (a b v : ℕ) (h : CanLoad m a) → h.region.size ≤ length h.region.bytes
    → (a + 4 ≤ b) ⊎ (b + 4 ≤ a) → memory_word (store_word m b v) a ≡ memory_word m a
unfolding memory_word
other_loaded m a b v h whole apart =
    ap (word_in a) (placed_in m a b v ∙ ap (option_map (written b (to_be_bytes w32 v))) h.at)
    ∙ ap (from_be_bytes w32) (part h.region a b (to_be_bytes w32 v) whole
    (covers_first (covers a 4) (m.heap ∷ m.regions) h.region h.at) apart)
    ∙ ap (word_in a) (sym h.at)

pub other_word_stored : (m : Memory) (a b v : ℕ) → CanStore m a → (a + 4 ≤ b) ⊎ (b + 4 ≤ a)
    → memory_word (store_word m b v) a ≡ memory_word m a
other_word_stored m a b v h apart =
    other_loaded m a b v (record { region = h.region; at = h.at; readable = h.readable }) h.whole apart

-- a word of valid memory has 32 bits
pub memory_word-range : (m : Memory) (a : ℕ) → IsValidMemory m → memory_word m a < 2 ^ 32
unfolding memory_word
memory_word-range m a h =
    go (region_at m a 4) (find-holds (λ r. AreBytes r.bytes) (covers a 4) (m.heap ∷ m.regions)
    (All-cons (λ r. AreBytes r.bytes) m.heap m.regions h.heap.bytes
    (All-weaker IsValidRegion (λ r. AreBytes r.bytes) (λ r k. k.bytes) m.regions h.regions)))
  where
    go : (x : Option Region) → IfSome x (λ r. AreBytes r.bytes) → word_in a x < 2 ^ 32
    go None k = omega arith
    go (Some r) k = word_of-range (part_of r a 4) (All-take (λ b. b < 256) 4 _
        (All-drop (λ b. b < 256) (a - r.start) r.bytes k))
