-- Words of the pages stay.
use Rattle.code_runs.proofs.Common.{◌≡◌, ℕ, ◌+◌, ◌<◌, ◌≤◌, ◌⊎◌, inl, inr, Bool, true, false, Some, List, [], ◌∷◌, length, refl, ap, sym, ◌∙◌, arith, false_from_ne_true, if◌then◌else◌, w32, from_be_bytes, find, option_map, nat_tests, Memory, covers, written, all_written, with_heap_end, is_heap_end, region_at, Span, IsApartFromAll, find-written, act, word_in, memory_word, CanLoad, CanStore, HasWordAt, IsIn, WordsStay, kept_act}
use Rattle.code_runs.proofs.StoredWords.{covered, covers_first, part, shape}

-- what is apart from all of the pages is apart from the word
abbrev IsWithin : List Span → ℕ → Type 0
IsWithin pages a = (x : Span) → 0 < x.count → IsApartFromAll pages x → (a + 4 ≤ x.from) ⊎ (x.from + x.count ≤ a)

is_within : (pages : List Span) (a : ℕ) → IsIn pages a → IsWithin pages a
is_within (page ∷ pages) a (inl h) = λ x some apart. elim apart.0 [
  | inl k ↦ inl (omega (arith, h.0, h.1, k))
  | inr k ↦ inr (omega (arith, h.0, h.1, k))
]
is_within (page ∷ pages) a (inr h) = λ x some apart. is_within pages a h x some apart.1
is_within [] a h = absurd h

-- the word, by the region that has it
abbrev word : ℕ → Memory → ℕ
word a m = word_in a (find (covers a 4) m.regions)

record Keeps (a : ℕ) (writable : Bool) (m n : Memory) : Type 0 where
  pub keeps : HasWordAt a writable m → HasWordAt a writable n × (word a n ≡ word a m)

keeps_same : (a : ℕ) (f : Bool) (m : Memory) → Keeps a f m m
keeps_same a f m = record { keeps = λ h. (h, refl) }

keeps_then : (a : ℕ) (f : Bool) (m n o : Memory) → Keeps a f m n → Keeps a f n o → Keeps a f m o
keeps_then a f m n o h k = record { keeps = λ x. (let y = h.keeps x in let z = k.keeps y.0 in (z.0, z.1 ∙ y.1)) }

-- a region has the word after a write as well
pub there_written : (a b : ℕ) (writable : Bool) (bs : List ℕ) (m : Memory) → HasWordAt a writable m
    → HasWordAt a writable (all_written b bs m)
there_written a b writable bs m h =
    let s = shape b bs h.region in
    let t = shape b bs m.heap in
    record {
      start = t.start ∙ h.start;
      size = rw t.size h.size;
      away = h.away;
      region = written b bs h.region;
      at = find-written a 4 b bs m.regions ∙ ap (option_map (written b bs)) h.at;
      readable = s.readable ∙ h.readable;
      may_write = s.writable ∙ h.may_write;
      whole = s.whole h.whole;
    }

keeps_write : (a : ℕ) (f : Bool) (pages : List Span) (b : ℕ) (bs : List ℕ) (m : Memory) → IsWithin pages a
    → 0 < length bs → IsApartFromAll pages (record { from = b; count = length bs }) → Keeps a f m (all_written b bs m)
keeps_write a f pages b bs m within some apart = record {
  keeps = λ h. (
    there_written a b f bs m h,
    ap (word_in a) (find-written a 4 b bs m.regions ∙ ap (option_map (written b bs)) h.at)
        ∙ ap (from_be_bytes w32) (part h.region a b bs h.whole (covers_first (covers a 4) m.regions h.region h.at)
        (within (record { from = b; count = length bs }) some apart))
        ∙ sym (ap (word_in a) h.at),
  );
}

keeps_heap : (a : ℕ) (f : Bool) (m : Memory) (b : ℕ) → is_heap_end b ≡ true → Keeps a f m (with_heap_end m b)
keeps_heap a f m b e = record {
  keeps = λ h. (
    record {
      start = h.start;
      size = (let most : b ≤ 0x81000000 = grind (arith, nat_tests) in omega (arith, most, h.start));
      away = h.away;
      region = h.region;
      at = h.at;
      readable = h.readable;
      may_write = h.may_write;
      whole = h.whole;
    },
    refl,
  );
}

-- such a word is the one that is loaded and stored
pub not_heap : (a : ℕ) (f : Bool) (m : Memory) → HasWordAt a f m → covers a 4 m.heap ≡ false
not_heap a f m h = false_from_ne_true (covers a 4 m.heap) (λ e.
    let i = covered a 4 m.heap e in omega (arith, i.0, i.1, h.away, h.start, h.size))

pub region_of_word : (a : ℕ) (f : Bool) (m : Memory) → HasWordAt a f m → region_at m a 4 ≡ find (covers a 4) m.regions
region_of_word a f m h = ap (λ (z : Bool). if z then Some m.heap else find (covers a 4) m.regions) (not_heap a f m h)

pub loads_there : (a : ℕ) (f : Bool) (m : Memory) → HasWordAt a f m → CanLoad m a
loads_there a f m h = record { region = h.region; at = region_of_word a f m h ∙ h.at; readable = h.readable }

pub stores_there : (a : ℕ) (m : Memory) → HasWordAt a true m → CanStore m a
stores_there a m h = record {
  region = h.region;
  at = region_of_word a true m h ∙ h.at;
  readable = h.readable;
  writable = h.may_write;
  whole = h.whole;
}

pub words_stay : WordsStay
unfolding memory_word
words_stay pages a writable s x within apart h =
    let k : Keeps a writable s.memory (act s x).memory = kept_act pages (Keeps a writable) (keeps_same a writable)
    (keeps_then a writable)
    (λ b bs m some z. keeps_write a writable pages b bs m (is_within pages a within) some z)
    (keeps_heap a writable) s.memory s x (keeps_same a writable s.memory) apart in
    let y = k.keeps h in (
      y.0,
      ap (word_in a) (region_of_word a writable (act s x).memory y.0) ∙ y.1
          ∙ sym (ap (word_in a) (region_of_word a writable s.memory h)),
    )
