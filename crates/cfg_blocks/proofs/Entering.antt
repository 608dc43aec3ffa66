-- What leads to a word, edge by edge.
use Rattle.cfg_blocks.proofs.Common.{◌≡◌, ℕ, zero, suc, ◌+◌, ◌<◌, Bool, true, false, not, ◌&&◌, ◌||◌, List, [], ◌∷◌, ◌++◌, filter, length, replicate, slice_index, refl, ap, ◌∙◌, arith, add-one, flat_map, list_any-append, common_steps, flat_map-append, append-nil, BlockEnd, Into, Nothing, More, Way, target_in, Blocks, below, is_it, is_target, Entry, all_entries, entries_from, into_by, is_empty, is_fall, ways_from, added, added_all, counted, counted_from, into_at, into_first, into_in, is_bare_by, is_bare_in, is_nothing}
use Rattle.std.proofs.Math.Bool.{or-false, or_assoc}

pub added_all-append : (into : Into) (xs ys : List Entry)
    → added_all into (xs ++ ys) ≡ added_all (added_all into xs) ys
added_all-append into [] ys = refl
added_all-append into (x ∷ xs) ys = added_all-append (added into x) xs ys

-- where the blocks are bare alike
pub counted_from_same : (b : Blocks) (p q : ℕ → Bool) (count word : ℕ) → ((k : ℕ) → k < count → p k ≡ q k)
    → counted_from b p count word ≡ counted_from b q count word
counted_from_same b p q zero word same = refl
counted_from_same b p q (suc count) word same =
    simp (flat_map-append, counted_from_same b p q count word (λ k h. same k (omega arith)), same count (omega arith))

-- one turn of the loop that marks targets
pub target_step : (count : ℕ) (end : ℕ → BlockEnd) (word : ℕ) (initial was now : Bool)
    → was ≡ (initial || is_target count end word) → now ≡ (was || is_it word (target_in (end count)))
    → now ≡ (initial || is_target (count + 1) end word)
target_step count end word initial was now so_far step =
    simp (add-one, step, so_far, list_any-append, or-false, or_assoc)

-- one turn of the loop that counts the edges
pub counted_step : (b : Blocks) (p : ℕ → Bool) (count word : ℕ) (initial was now : Into) (is_bare : Bool)
    (ways : List Way)
    → was ≡ added_all initial (counted_from b p count word) → is_bare ≡ p count → ways_from b count ≡ ways
    → now ≡ added_all was (counted count is_bare ways word)
    → now ≡ added_all initial (counted_from b p (count + 1) word)
counted_step b p count word initial was now is_bare ways so_far bare is step =
    simp (add-one, step, so_far, flat_map-append, append-nil, added_all-append, is, bare)

-- ---- from the lists to the definitions

-- what leads to a word
pub into_by-added : (entries : List Entry) → into_by entries ≡ added_all Nothing entries
into_by-added [] = refl
into_by-added (x ∷ []) = refl
into_by-added (x ∷ y ∷ []) = refl
into_by-added (x ∷ y ∷ z ∷ entries) = into_by-added (y ∷ z ∷ entries)

-- nothing leads where no edge does
nothing_by : (entries : List Entry) → is_nothing (into_by entries) ≡ is_empty entries
nothing_by [] = refl
nothing_by (x ∷ []) = refl
nothing_by (x ∷ y ∷ entries) = refl

and-false : (x : Bool) → (x && false) ≡ false
and-false true = refl
and-false false = refl

all_kept : (entries : List Entry) → filter (λ entry. not (is_fall entry.kind && false)) entries ≡ entries
all_kept [] = refl
all_kept (entry ∷ entries) = simp (and-false (is_fall entry.kind), all_kept entries)

all_counted : (b : Blocks) (count word : ℕ)
    → counted_from b (λ block. false) count word ≡ flat_map (entries_from b word) (below count)
all_counted b zero word = refl
all_counted b (suc count) word =
    simp (flat_map-append, append-nil, all_kept (entries_from b word count), all_counted b count word)

pub all_more : (n k : ℕ) (intos : List Into) → intos ≡ replicate n More → k < n → into_at intos k ≡ More
all_more n k intos is h = rw is (grind (arith, common_steps))

module _ (b : Blocks) (word_ends : List BlockEnd) (given : List Bool) (all led : List Into)
    (more : (k : ℕ) → k < b.words → into_at all k ≡ More)
    (known : (k : ℕ) → k < b.words → into_at led k
    ≡ added_all Nothing (counted_from b (is_bare_in b word_ends given all) (length b.firsts) k))
    (within : (k : ℕ) → k < length b.firsts → slice_index b.firsts k < b.words) where
  -- the first count leaves no way out
  led_by : (block : ℕ) → block < length b.firsts
      → is_nothing (into_at led (slice_index b.firsts block)) ≡ is_empty (all_entries b block)
  led_by block h =
      rw (
        known _ (within block h),
        counted_from_same b (is_bare_in b word_ends given all) (λ other. false) _ _
            (λ k l. rw (more _ (within k l)) (and-false _)),
        all_counted,
        ← into_by-added,
      ) (nothing_by _)

  pub into_first_is : (intos : List Into) (block : ℕ) → block < length b.firsts
      → ((k : ℕ) → k < b.words → into_at intos k
      ≡ added_all Nothing (counted_from b (is_bare_in b word_ends given led) (length b.firsts) k))
      → into_first intos b.firsts block ≡ into_in b word_ends given block
  unfolding into_first into_in
  into_first_is intos block here into =
      into _ (within block here) ∙ ap (added_all Nothing) (counted_from_same b (is_bare_in b word_ends given led)
      (is_bare_by b word_ends given) _ _ (λ k h. rw (led_by k h) refl))
