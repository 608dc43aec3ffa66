-- A word of memory stays where no word is stored over it, whether it may be loaded or not.
use Rattle.snippet_code.proofs.Common.{◌≡◌, ℕ, ◌+◌, ◌≤◌, ◌⊎◌, true, Some, List, [], ◌∷◌, length, refl, ap, ◌∙◌, w32, Memory, Region, memory_word, store_word, Option, None, to_be_bytes, from_be_bytes, covers, region_at, written, IsValidMemory, word_in, store_all, AllAt, Stores, covers_first, part, placed_in, shape, whole_of}
use Rattle.std.specs.Option.{option_map}
use Rattle.v8_memory.proofs.Same.{covers-written}

-- two words that don't meet
abbrev pub IsApart : ℕ → ℕ → Type 0
IsApart a b = (a + 4 ≤ b) ⊎ (b + 4 ≤ a)

-- the region that has the word, if there is one, has its bytes
abbrev IsWhole : ℕ → Option Region → Type 0
IsWhole a None = Unit {0}
IsWhole a (Some r) = (covers a 4 r ≡ true) × (r.size ≤ length r.bytes)

still_whole : (a b v : ℕ) (x : Option Region) → IsWhole a x → IsWhole a (option_map (written b (to_be_bytes w32 v)) x)
still_whole a b v None h = tt
still_whole a b v (Some r) h =
    (covers-written a 4 b (to_be_bytes w32 v) r ∙ h.0, (shape b (to_be_bytes w32 v) r).whole h.1)

still_word : (a b v : ℕ) (x : Option Region) → IsWhole a x → IsApart a b
    → word_in a (option_map (written b (to_be_bytes w32 v)) x) ≡ word_in a x
still_word a b v None h apart = refl
still_word a b v (Some r) h apart = ap (from_be_bytes w32) (part r a b (to_be_bytes w32 v) h.1 h.0 apart)

after_all : (a : ℕ) (ws : List (ℕ × ℕ)) (m : Memory) → AllAt (IsApart a) ws → IsWhole a (region_at m a 4)
    → memory_word (store_all ws m) a ≡ memory_word m a
unfolding memory_word
after_all a [] m apart whole = refl
after_all a (w ∷ ws) m apart whole =
    after_all a ws (store_word m w.0 w.1) apart.1
    (rw (placed_in m a w.0 w.1) (still_whole a w.0 w.1 (region_at m a 4) whole))
    ∙ ap (word_in a) (placed_in m a w.0 w.1) ∙ still_word a w.0 w.1 (region_at m a 4) whole apart.0

at_first : (m : Memory) (a : ℕ) → IsValidMemory m → (x : Option Region) → region_at m a 4 ≡ x → IsWhole a x
at_first m a valid None e = tt
at_first m a valid (Some r) e =
    (covers_first (covers a 4) (m.heap ∷ m.regions) r e, whole_of m a r valid e)

each_apart : (May : ℕ → Type 0) (a : ℕ) → ((b : ℕ) → May b → IsApart a b) → (ws : List (ℕ × ℕ)) → AllAt May ws
    → AllAt (IsApart a) ws
each_apart May a apart [] h = tt
each_apart May a apart (w ∷ ws) h = (apart w.0 h.0, each_apart May a apart ws h.1)

pub word_unmoved : (May : ℕ → Type 0) (m n : Memory) (a : ℕ) → IsValidMemory m → Stores May m n
    → ((b : ℕ) → May b → IsApart a b) → memory_word n a ≡ memory_word m a
word_unmoved May m n a valid stores apart =
    ap (λ (z : Memory). memory_word z a) stores.result
    ∙ after_all a stores.writes m (each_apart May a apart stores.writes stores.each)
    (at_first m a valid (region_at m a 4) refl)
