-- A built table of two levels finds every aligned address.
use Rattle.addr_translate.proofs.Common.{◌≡◌, ℕ, ◌+◌, ◌-◌, ◌*◌, ◌/◌, ◌%◌, ◌^◌, ◌<◌, ◌≤◌, ◌⊎◌, inl, inr, true, false, None, List, length, map, refl, ap, sym, ◌∙◌, arith, nat_lt, range_with_len, nat_tests, length-map-range_with_len, Words, word_at, IsText, Addr, wrapped, table_word, TableAt, last_byte, target_of, target_for, IsHalvesOf, entry_at, first_half, halves_size, span_of, half_bytes, half_entry, half_word, half_words}
use Rattle.addr_translate.specs.Private.{halves}
use Rattle.addr_translate.proofs.Tables.{IsIn, IsOff, among, entry_found, length-words, outside}

module _ (t : Words) (targets : List Addr) (foreign : Addr) (base : ℕ) where
  abbrev pub half_table : TableAt
  half_table = record { base = base; bytes = (half_bytes t targets foreign base) }

-- ---- the entry's address from what the first level has

near : (b f a : ℕ) → b ≤ 2 ^ 31 → 2 ^ 16 * f ≤ a → a < 2 ^ 32 → b + (a - 2 ^ 16 * f) < 2 ^ 32
    → wrapped ((b + 2 ^ 32 - 2 ^ 16 * f) % 2 ^ 32 + a) ≡ b + (a - 2 ^ 16 * f)
near b f a low from short within = omega arith

far : (b a : ℕ) → b + 2 ^ 16 ≤ 2 ^ 31 → a < 2 ^ 32
    → wrapped ((b + 2 ^ 32 - 2 ^ 16 * (a / 2 ^ 16)) % 2 ^ 32 + a) ≡ b + a % 2 ^ 16
far b a low short = omega arith

-- ---- parts that hold no text

off_half : (t : Words) (a : ℕ) → IsText t → IsOff (first_half t) (halves t) (a / 2 ^ 16) → word_at t a ≡ None
off_half t a text h = outside t a (λ from below. omega arith)

past_text : (t : Words) (a : ℕ) → IsText t → last_byte t < a → word_at t a ≡ None
past_text t a text h = outside t a (λ e f. (let some = text.some in omega arith))

module _ (t : Words) (targets : List Addr) (foreign : Addr) (base : ℕ) (text : IsText t)
    (fits : (n : ℕ) → n < halves_size t / 4 → half_entry t targets foreign base n < 2 ^ 32)
    (aligned : base % 4096 ≡ 0) (below : base + halves_size t ≤ 2 ^ 31) where
  pages : halves_size t % 4096 ≡ 0
  pages = omega arith

  whole : length (half_bytes t targets foreign base) ≡ halves_size t
  unfolding half_bytes half_words
  whole =
      length-words (map (half_entry t targets foreign base) (range_with_len 0 (halves_size t / 4)))
      ∙ ap (λ z. 4 * z) (length-map-range_with_len (half_entry t targets foreign base) 0 (halves_size t / 4))
      ∙ (let e = pages in let f : 4 * (halves_size t / 4) ≡ halves_size t = omega arith in f)

  in_words : (n : ℕ) → n < halves_size t / 4
      → table_word (half_table t targets foreign base) (base + 4 * n) ≡ half_entry t targets foreign base n
  unfolding half_bytes half_words table_word
  in_words n h = entry_found (half_entry t targets foreign base) (halves_size t / 4) base n fits h

  -- a word of the first level
  half_is : (half : ℕ) → half < 2 ^ 16
      → table_word (half_table t targets foreign base) (base + 4 * half) ≡ half_word t base half
  unfolding half_entry
  half_is half low =
      let first : nat_lt half (2 ^ 16) ≡ true = grind (arith, nat_tests) in in_words half (omega arith) ∙ rw first refl

  -- an entry
  entry_is : (k : ℕ) → k < (span_of t + 2 ^ 16) / 4 → (z : ℕ) → z ≡ base + 2 ^ 18 + 4 * k
      → table_word (half_table t targets foreign base) z
      ≡ target_of targets foreign (word_at t (2 ^ 16 * first_half t + 4 * k))
  unfolding half_entry
  entry_is k low z e =
      let second : nat_lt (2 ^ 16 + k) (2 ^ 16) ≡ false = grind (arith, nat_tests) in
      ap (table_word (half_table t targets foreign base))
      (let f : z ≡ base + 4 * (2 ^ 16 + k) = omega arith in f)
      ∙ in_words (2 ^ 16 + k) (omega arith) ∙ rw second refl
      ∙ ap (λ n. target_of targets foreign (word_at t (2 ^ 16 * first_half t + 4 * n)))
      (let f : 2 ^ 16 + k - 2 ^ 16 ≡ k = omega arith in f)

  -- the entry for an address
  record Entry (a : ℕ) : Type 0 where
    pub number : ℕ
    pub within : number < (span_of t + 2 ^ 16) / 4
    pub is : entry_at (half_table t targets foreign base) a ≡ base + 2 ^ 18 + 4 * number
    pub finds : target_of targets foreign (word_at t (2 ^ 16 * first_half t + 4 * number))
        ≡ target_for t targets foreign a

  entry_for : (a : ℕ) → a < 2 ^ 32 → a % 4 ≡ 0 → Entry a
  entry_for a short four =
      go (among (first_half t) (halves t) (a / 2 ^ 16) ((base + 2 ^ 18 + 2 ^ 32 - 2 ^ 16 * first_half t) % 2 ^ 32)
      ((base + 2 ^ 18 + span_of t + 2 ^ 32 - 2 ^ 16 * (a / 2 ^ 16)) % 2 ^ 32))
    where
      half : table_word (half_table t targets foreign base) (base + 4 * (a / 2 ^ 16)) ≡ half_word t base (a / 2 ^ 16)
      half = half_is (a / 2 ^ 16) (omega arith)

      same : a - a % 4 ≡ a
      same = omega arith

      go : ((half_word t base (a / 2 ^ 16) ≡ (base + 2 ^ 18 + 2 ^ 32 - 2 ^ 16 * first_half t) % 2 ^ 32)
          × IsIn (first_half t) (halves t) (a / 2 ^ 16))
          ⊎ ((half_word t base (a / 2 ^ 16) ≡ (base + 2 ^ 18 + span_of t + 2 ^ 32 - 2 ^ 16 * (a / 2 ^ 16)) % 2 ^ 32)
          × IsOff (first_half t) (halves t) (a / 2 ^ 16)) → Entry a
      go (inl h) =
          let from = h.1.0 in
          let to = h.1.1 in
          record {
            number = (a - 2 ^ 16 * first_half t) / 4;
            within = omega arith;
            is = ap (λ z. wrapped (z + a)) (half ∙ h.0)
                ∙ near (base + 2 ^ 18) (first_half t) a (omega arith) (omega arith) short (omega arith)
                ∙ (let e : base + 2 ^ 18 + (a - 2 ^ 16 * first_half t)
                ≡ base + 2 ^ 18 + 4 * ((a - 2 ^ 16 * first_half t) / 4) = omega arith in e);
            finds = ap (λ z. target_of targets foreign (word_at t z))
                (let e : 2 ^ 16 * first_half t + 4 * ((a - 2 ^ 16 * first_half t) / 4) ≡ a - a % 4 = omega arith in e);
          }
      go (inr h) = record {
        number = (span_of t + a % 2 ^ 16) / 4;
        within = omega arith;
        is = ap (λ z. wrapped (z + a)) (half ∙ h.0)
            ∙ far (base + 2 ^ 18 + span_of t) a (omega arith) short
            ∙ (let e : base + 2 ^ 18 + span_of t + a % 2 ^ 16
            ≡ base + 2 ^ 18 + 4 * ((span_of t + a % 2 ^ 16) / 4) = omega arith in e);
        finds = ap (target_of targets foreign)
            (past_text t (2 ^ 16 * first_half t + 4 * ((span_of t + a % 2 ^ 16) / 4)) text (omega arith)
            ∙ sym (ap (word_at t) same ∙ off_half t a text h.1));
      }

  pub halves_find : IsHalvesOf t targets foreign (half_table t targets foreign base)
  halves_find = record {
    size = whole;
    whole = record {
      aligned = aligned;
      below = (let w = whole in omega arith);
      first = (let w = whole in omega arith);
      entries = λ a h four.
          let k = entry_for a h four in
          let w = whole in
          let is = k.is in
          let within = k.within in
          record { from = omega arith; to = omega arith; aligned = omega arith };
    };
    finds = λ a h four.
        let k = entry_for a h four in
        entry_is k.number k.within (entry_at (half_table t targets foreign base) a) k.is ∙ k.finds;
  }
