-- A built table finds every address.
use Rattle.addr_translate.proofs.Common.{◌≡◌, ℕ, zero, suc, ◌+◌, ◌-◌, ◌*◌, ◌/◌, ◌%◌, ◌^◌, ◌<◌, ◌≤◌, ◌⊎◌, inl, inr, Bool, true, false, ◌&&◌, Some, None, List, [], ◌∷◌, ◌++◌, length, map, take, drop, refl, ap, sym, ◌∙◌, arith, if◌then◌else◌, ◌==◌, nat_le, nat_lt, slice_index, w32, to_be_bytes, from_be_bytes, flat_map, range_with_len, nat_tests, length-map-range_with_len, get_or-map-range_with_len, map-range_with_len_more, Words, word_at, IsText, Addr, table_word, second_entry, third_entry, second_block, third_block, IsBlock, TableAt, first_part, parts, first_page, pages, blocks, size_of, target_of, target_for, IsTableOf, is_among, second_for, third_for, entry_in, entry, table_words, table_bytes}
use Rattle.std.proofs.lemmas.Nat.{from_be_bytes-to_be_bytes_4}
use Rattle.std.proofs.lemmas.Grind.{flat_map-append}
use Rattle.code_runs.proofs.Leads.{split_below}

module _ (t : Words) (targets : List Addr) (foreign : Addr) (base : ℕ) where
  abbrev pub built : TableAt
  built = record { base = base; bytes = (table_bytes t targets foreign base) }

-- ---- one word more
pub more_entries : (f : ℕ → ℕ) (n w : ℕ) (now new : List ℕ)
    → now ≡ flat_map (to_be_bytes w32) (map f (range_with_len 0 n)) → w ≡ f n → new ≡ now ++ to_be_bytes w32 w
    → new ≡ flat_map (to_be_bytes w32) (map f (range_with_len 0 (n + 1)))
more_entries f n w now new before is after =
    after ∙ ap (λ (z : List ℕ). z ++ to_be_bytes w32 w) before
    ∙ ap (λ z. flat_map (to_be_bytes w32) (map f (range_with_len 0 n)) ++ to_be_bytes w32 z) is
    ∙ sym (ap (flat_map (to_be_bytes w32)) (map-range_with_len_more f 0 n n (omega arith))
    ∙ flat_map-append (to_be_bytes w32) (map f (range_with_len 0 n)) (f n ∷ []))

-- and it has 32 bits
pub more_fit : (f : ℕ → ℕ) (n w k : ℕ) → ((k : ℕ) → k < n → f k < 2 ^ 32) → w ≡ f n → w < 2 ^ 32 → k < n + 1
    → f k < 2 ^ 32
more_fit f n w k before is small h = elim (split_below k n) [
  | inl low ↦ before k low
  | inr high ↦ let e : k ≡ n = omega arith in rw (e, ← is) small
]

-- ---- a word among the bytes of words
pub word_among : (ws : List ℕ) (n : ℕ) → n < length ws → slice_index ws n < 2 ^ 32
    → from_be_bytes w32 (take 4 (drop (4 * n) (flat_map (to_be_bytes w32) ws))) ≡ slice_index ws n
word_among [] n below small = absurd (omega arith)
word_among (w ∷ ws) zero below small = from_be_bytes-to_be_bytes_4 w small
word_among (w ∷ ws) (suc n) below small =
    let e : 4 * suc n ≡ suc (suc (suc (suc (4 * n)))) = omega arith in
    ap (λ z. from_be_bytes w32 (take 4 (drop z (flat_map (to_be_bytes w32) (w ∷ ws))))) e
    ∙ word_among ws n (omega arith) small

-- a word of a table that has its entries in order
pub entry_found : (f : ℕ → ℕ) (count base n : ℕ) → ((k : ℕ) → k < count → f k < 2 ^ 32) → n < count
    → from_be_bytes w32 (take 4 (drop (base + 4 * n - base)
    (flat_map (to_be_bytes w32) (map f (range_with_len 0 count))))) ≡ f n
entry_found f count base n fits h =
    let is : slice_index (map f (range_with_len 0 count)) n ≡ f n =
    get_or-map-range_with_len f 0 count n n 0 h (omega arith) in
    let long = length-map-range_with_len f 0 count in
    let e : base + 4 * n - base ≡ 4 * n = omega arith in
    rw e (word_among (map f (range_with_len 0 count)) n (omega (arith, h, long)) (rw is (fits n h)) ∙ is)

pub length-words : (ws : List ℕ) → length (flat_map (to_be_bytes w32) ws) ≡ 4 * length ws
length-words [] = refl
length-words (w ∷ ws) = let e = length-words ws in omega arith

-- ---- the numbers of blocks
abbrev pub IsIn : ℕ → ℕ → ℕ → Type 0
IsIn first count n = (first ≤ n) × (n < first + count)

abbrev pub IsOff : ℕ → ℕ → ℕ → Type 0
IsOff first count n = (n < first) ⊎ (first + count ≤ n)

-- a number is among some or not, and what follows of it
pub among : (first count n yes no : ℕ)
    → (((if is_among first count n then yes else no) ≡ yes) × IsIn first count n)
    ⊎ (((if is_among first count n then yes else no) ≡ no) × IsOff first count n)
among first count n y o = go (nat_le first n) (nat_lt n (first + count)) refl refl
  where
    go : (p q : Bool) → nat_le first n ≡ p → nat_lt n (first + count) ≡ q
        → (((if p && q then y else o) ≡ y) × IsIn first count n)
        ⊎ (((if p && q then y else o) ≡ o) × IsOff first count n)
    go true true e f = inl (refl, (grind (arith, nat_tests), grind (arith, nat_tests)))
    go true false e f = inr (refl, inr (grind (arith, nat_tests)))
    go false q e f = inr (refl, inl (grind (arith, nat_tests)))

second_below : (t : Words) (part : ℕ) → second_for t part < blocks t
second_below t part = let h = among (first_part t) (parts t) part (3 + (part - first_part t)) 1 in omega arith

block_of : (block place : ℕ) → place < 1024 → (1024 * block + place) / 1024 ≡ block
block_of block place h = omega arith

place_in : (block place : ℕ) → place < 1024 → (1024 * block + place) % 1024 ≡ place
place_in block place h = omega arith

-- ---- addresses that hold no text
pub outside : (t : Words) (b : ℕ) → (t.start ≤ b → (b - t.start) / 4 < length t.words → ⊥) → word_at t b ≡ None
outside t b h = go (nat_le t.start b) ((b - t.start) % 4 == 0) (nat_lt ((b - t.start) / 4) (length t.words)) refl refl
  where
    go : (x y z : Bool) → nat_le t.start b ≡ x → nat_lt ((b - t.start) / 4) (length t.words) ≡ z
        → (if x && y && z then Some ((b - t.start) / 4) else None) ≡ None
    go true true true e f = absurd (h (grind (arith, nat_tests)) (grind (arith, nat_tests)))
    go true true false e f = refl
    go true false z e f = refl
    go false y z e f = refl

off_part : (t : Words) (a : ℕ) → IsText t → IsOff (first_part t) (parts t) (a / 2 ^ 22) → word_at t (a - a % 4) ≡ None
off_part t a text h = outside t (a - a % 4) (λ from below. omega arith)

off_page : (t : Words) (a : ℕ) → IsText t → IsOff (first_page t) (pages t) (a / 2 ^ 12) → word_at t (a - a % 4) ≡ None
off_page t a text h = outside t (a - a % 4) (λ from below. omega arith)

pub length-table_bytes : (t : Words) (targets : List Addr) (foreign : Addr) (base : ℕ)
    → length (table_bytes t targets foreign base) ≡ size_of t
unfolding table_bytes table_words
length-table_bytes t targets foreign base =
    length-words (map (entry t targets foreign base) (range_with_len 0 (1024 * blocks t)))
    ∙ ap (λ z. 4 * z) (length-map-range_with_len (entry t targets foreign base) 0 (1024 * blocks t)) ∙ omega arith

module _ (t : Words) (targets : List Addr) (foreign : Addr) (base : ℕ) (text : IsText t)
    (fits : (n : ℕ) → n < 1024 * blocks t → entry t targets foreign base n < 2 ^ 32) (aligned : base % 4096 ≡ 0)
    (below : base + size_of t ≤ 2 ^ 31) where
  whole : length (table_bytes t targets foreign base) ≡ size_of t
  whole = length-table_bytes t targets foreign base

  in_words : (n : ℕ) → n < 1024 * blocks t
      → table_word (built t targets foreign base) (base + 4 * n) ≡ entry t targets foreign base n
  unfolding table_bytes table_words table_word
  in_words n h = entry_found (entry t targets foreign base) (1024 * blocks t) base n fits h

  -- the word at a place of a block
  in_block : (block place a : ℕ) → block < blocks t → place < 1024 → a ≡ base + 4096 * block + 4 * place
      → table_word (built t targets foreign base) a ≡ entry_in t targets foreign base block place
  unfolding entry
  in_block block place a h low e =
      let n = 1024 * block + place in
      ap (table_word (built t targets foreign base))
      (let f : a ≡ base + 4 * (1024 * block + place) = omega arith in f)
      ∙ in_words (1024 * block + place) (omega arith)
      ∙ ap (λ z. entry_in t targets foreign base z ((1024 * block + place) % 1024)) (block_of block place low)
      ∙ ap (entry_in t targets foreign base block) (place_in block place low)

  -- what a block after the first three has: of the second level, or of the third
  later : (block place : ℕ) (b : Bool) → 3 ≤ block → nat_lt block (3 + parts t) ≡ b
      → entry_in t targets foreign base block place
      ≡ (if b then base + 4096 * third_for t (1024 * (first_part t + (block - 3)) + place)
      else target_of targets foreign (word_at t (4096 * (first_page t + (block - 3 - parts t)) + 4 * place)))
  later block place b low e =
      let x : (block == 0) ≡ false = grind (arith, nat_tests) in
      let y : (block == 1) ≡ false = grind (arith, nat_tests) in
      let z : (block == 2) ≡ false = grind (arith, nat_tests) in
      rw (x, y, z, e) refl

  -- ---- the three levels
  second_is : (a : ℕ) → a < 2 ^ 32
      → second_block (built t targets foreign base) a ≡ base + 4096 * second_for t (a / 2 ^ 22)
  second_is a h = in_block 0 (a / 2 ^ 22) (base + 4 * (a / 2 ^ 22)) (omega arith) (omega arith) (omega arith)

  -- the block of the third level for an address, and what it has
  record Third (a : ℕ) : Type 0 where
    pub number : ℕ
    pub within : number < blocks t
    pub is : third_block (built t targets foreign base) a ≡ base + 4096 * number
    pub finds : entry_in t targets foreign base number (a / 2 ^ 2 % 2 ^ 10) ≡ target_for t targets foreign a

  third_at : (a number : ℕ) → a < 2 ^ 32 → number < blocks t → second_for t (a / 2 ^ 22) ≡ number
      → third_block (built t targets foreign base) a ≡ entry_in t targets foreign base number (a / 2 ^ 12 % 2 ^ 10)
  third_at a number h low e =
      in_block number (a / 2 ^ 12 % 2 ^ 10) (second_entry (second_block (built t targets foreign base) a) a)
      low (omega arith)
      (ap (λ z. z + 4 * (a / 2 ^ 12 % 2 ^ 10)) (second_is a h ∙ ap (λ z. base + 4096 * z) e))

  -- where its part of 4 MiB holds text
  third_in_part : (a : ℕ) → a < 2 ^ 32 → second_for t (a / 2 ^ 22) ≡ 3 + (a / 2 ^ 22 - first_part t)
      → IsIn (first_part t) (parts t) (a / 2 ^ 22)
      → third_block (built t targets foreign base) a ≡ base + 4096 * third_for t (a / 2 ^ 12)
  third_in_part a h e s =
      third_at a (3 + (a / 2 ^ 22 - first_part t)) h (let b = s.1 in omega arith) e
      ∙ later (3 + (a / 2 ^ 22 - first_part t)) (a / 2 ^ 12 % 2 ^ 10) true (omega arith)
      (let b1 = s.0 in let b2 = s.1 in grind (arith, nat_tests))
      ∙ ap (λ z. base + 4096 * third_for t z) (let b1 = s.0 in let f : 1024 *
      (first_part t + (3 + (a / 2 ^ 22 - first_part t) - 3)) + a / 2 ^ 12 % 2 ^ 10 ≡ a / 2 ^ 12 = omega arith in f)

  third_is : (a : ℕ) → a < 2 ^ 32 → Third a
  third_is a h = go (among (first_part t) (parts t) (a / 2 ^ 22) (3 + (a / 2 ^ 22 - first_part t)) 1)
      (among (first_page t) (pages t) (a / 2 ^ 12) (3 + parts t + (a / 2 ^ 12 - first_page t)) 2)
    where
      go : ((second_for t (a / 2 ^ 22) ≡ 3 + (a / 2 ^ 22 - first_part t)) × IsIn (first_part t) (parts t) (a / 2 ^ 22))
          ⊎ ((second_for t (a / 2 ^ 22) ≡ 1) × IsOff (first_part t) (parts t) (a / 2 ^ 22))
          → ((third_for t (a / 2 ^ 12) ≡ 3 + parts t + (a / 2 ^ 12 - first_page t))
          × IsIn (first_page t) (pages t) (a / 2 ^ 12))
          ⊎ ((third_for t (a / 2 ^ 12) ≡ 2) × IsOff (first_page t) (pages t) (a / 2 ^ 12)) → Third a
      go (inr s) k = record {
        number = 2;
        within = omega arith;
        is = third_at a 1 h (omega arith) s.0;
        finds = ap (target_of targets foreign) (sym (off_part t a text s.1));
      }
      go (inl s) (inr k) = record {
        number = 2;
        within = omega arith;
        is = third_in_part a h s.0 s.1 ∙ ap (λ z. base + 4096 * z) k.0;
        finds = ap (target_of targets foreign) (sym (off_page t a text k.1));
      }
      go (inl s) (inl k) = record {
        number = 3 + parts t + (a / 2 ^ 12 - first_page t);
        within = (let b = k.1.1 in omega arith);
        is = third_in_part a h s.0 s.1 ∙ ap (λ z. base + 4096 * z) k.0;
        finds = later (3 + parts t + (a / 2 ^ 12 - first_page t)) (a / 2 ^ 2 % 2 ^ 10) false (omega arith)
            (grind (arith, nat_tests))
            ∙ ap (λ z. target_of targets foreign (word_at t z)) (let b = k.1.0 in let e : 4096 *
            (first_page t + (3 + parts t + (a / 2 ^ 12 - first_page t) - 3 - parts t)) + 4 * (a / 2 ^ 2 % 2 ^ 10)
            ≡ a - a % 4 = omega arith in e);
      }

  block_is : (number block : ℕ) → number < blocks t → block ≡ base + 4096 * number
      → IsBlock (built t targets foreign base) block
  block_is number block h e = let w = whole in record { from = omega arith; to = omega arith; aligned = omega arith }

  pub tables_find : IsTableOf t targets foreign (built t targets foreign base)
  tables_find = record {
    size = whole;
    whole = record {
      aligned = aligned;
      below = (let w = whole in omega arith);
      first = (let w = whole in omega arith);
      second = λ a h. block_is (second_for t (a / 2 ^ 22)) _ (second_below t (a / 2 ^ 22)) (second_is a h);
      third = λ a h. let k = third_is a h in block_is k.number _ k.within k.is;
    };
    finds = λ a h.
        let k = third_is a h in
        in_block k.number (a / 2 ^ 2 % 2 ^ 10) (third_entry (third_block (built t targets foreign base) a) a)
        k.within (omega arith) (ap (λ z. z + 4 * (a / 2 ^ 2 % 2 ^ 10)) k.is) ∙ k.finds;
  }
