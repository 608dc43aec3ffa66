-- What can be read where the text stands is the text, and no step changes that.
use Rattle.switch_runs.proofs.Common.{◌≡◌, ℕ, zero, suc, Bool, ◌&&◌, Option, Some, None, List, length, slice_index, arith, if◌then◌else◌, find, option_map, cond_both, lt-leb, Words, address_of, word_at, IsText, Memory, Region, all_written, bytes_at, changed, covers, read_region, with_heap_end, written, State, step_of, run, word_of, word_at-some, IsFixed, HoldsText}
use Rattle.v8_memory.proofs.Same.{find-written}
use Rattle.v8_step.proofs.Kept.{kept_step}

-- ---- writing

fixed_stays : (a word address : ℕ) (bytes : List ℕ) (o : Option Region) → IsFixed a word o
    → IsFixed a word (option_map (written address bytes) o)
fixed_stays a word address bytes None h = h
fixed_stays a word address bytes (Some r) h =
    cond_both (covers address (length bytes) r && r.writable) (changed address bytes r) r (λ q. IsFixed a word (Some q))
    (λ e. absurd (let w = h.0 in grind arith)) (λ _. h)

abbrev Kept : Words → Memory → Memory → Type 0
Kept text m n = HoldsText text m → HoldsText text n

by_write : (text : Words) (address : ℕ) (bytes : List ℕ) (m : Memory) → Kept text m (all_written address bytes m)
by_write text address bytes m h = record {
  heap = rw (start_stays (covers address (length bytes) m.heap && m.heap.writable)) h.heap;
  words = λ word l.
      rw (find-written (address_of text word) 4 address bytes m.regions)
      (fixed_stays _ _ address bytes _ (h.words word l));
}
  where
    start_stays : (b : Bool) → (if b then changed address bytes m.heap else m.heap).start ≡ m.heap.start
    start_stays b = grind arith

by_heap : (text : Words) (m : Memory) (end : ℕ) → Kept text m (with_heap_end m end)
by_heap text m end h = record { heap = h.heap; words = h.words }

holds_step : (text : Words) (s : State) → HoldsText text s.memory → HoldsText text (step_of s).memory
holds_step text s =
    kept_step (Kept text) (λ m h. h) (λ m n o f g h. g (f h)) (by_write text) (by_heap text) s.memory s (λ h. h)

pub holds_run : (text : Words) (s : State) (n : ℕ) → HoldsText text s.memory → HoldsText text (run s n).memory
holds_run text s zero h = h
holds_run text s (suc n) h = holds_step text (run s n) (holds_run text s n h)

-- ---- reading

read_fixed : (a word : ℕ) (o : Option Region) (bytes : List ℕ) → IsFixed a word o
    → read_region a 4 o ≡ Some bytes → word_of bytes ≡ word
read_fixed a word None bytes h e = absurd h
read_fixed a word (Some r) bytes h e = let is = h.1 in grind arith

pub read_text : (text : Words) (m : Memory) (a i : ℕ) (bytes : List ℕ) → IsText text → HoldsText text m
    → word_at text a ≡ Some i → bytes_at m a 4 ≡ Some bytes → word_of bytes ≡ slice_index text.words i
unfolding bytes_at
read_text text m a i bytes is h at e =
    let here = word_at-some text a i at in
    let within = here.within in let at_address = here.is in let below = is.below in let high = h.heap in
    read_fixed a (slice_index text.words i) (find (covers a 4) m.regions) bytes (rw here.is (h.words i here.within))
    (cc (lt-leb m.heap.start a (omega arith), e))
