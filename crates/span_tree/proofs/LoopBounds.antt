-- One loop more, and what the sums of beginnings and ends say.
use Rattle.span_tree.proofs.Common.{◌≡◌, ℕ, zero, suc, ◌+◌, ◌-◌, ◌<◌, ◌≤◌, ◌⊎◌, inl, inr, Bool, true, false, ◌&&◌, cond, List, [], ◌∷◌, ◌++◌, length, map, set, slice_index, add-one, refl, ap, ◌∙◌, arith, Some, nat_le, All, cases_eq, cases_lt, get_or-set_other, get_or-set_same, length-map, length-set, map-append, All-get_or, All-set, All-weaker, common_steps, count_below, Blocks, below, end_of, last_word, get_or-below, length-below, AreBounds, sum_below, branch_target, is_between, is_in_loop, loops_at}
use Rattle.eel_base.specs.declared.numbers.WordNo.{WordNo}
use Rattle.std.proofs.lemmas.Bool.Decides.{nat_tests}

abbrev pub raised : List ℕ → ℕ → List ℕ
raised xs i = set xs i (slice_index xs i + 1)

sum_before : (n : ℕ) (xs : List ℕ) (i : ℕ) → n ≤ i → sum_below n (raised xs i) ≡ sum_below n xs
sum_before zero xs i h = refl
sum_before (suc n) xs i h =
    omega (
      arith,
      sum_before n xs i (omega (arith, h)),
      get_or-set_other xs i n (slice_index xs i + 1) 0 (λ e. omega (arith, h, e)),
    )

sum_after : (n : ℕ) (xs : List ℕ) (i : ℕ) → i < length xs → i < n → sum_below n (raised xs i) ≡ sum_below n xs + 1
sum_after zero xs i l h = absurd (omega (arith, h))
sum_after (suc n) xs i l h = elim (cases_eq n i) [
  | inl e ↦ rw e (omega (arith, sum_before i xs i (omega arith), get_or-set_same xs i (slice_index xs i + 1) 0 l))
  | inr e ↦ omega (arith, sum_after n xs i l (omega (arith, h, e)), get_or-set_other xs i n (slice_index xs i + 1) 0 e)
]

pub counted_few : (n : ℕ) (s : ℕ → Bool) → count_below n s ≤ n
counted_few zero s = omega arith
counted_few (suc n) s = let before = counted_few n s in grind (arith, before)

abbrev one : Bool → ℕ
one c = cond c 1 0

-- ---- a block without a loop

module _ (b : Blocks) (k : ℕ) (begins ends : List ℕ) (h : AreBounds b k begins ends) where
  abbrev last : ℕ
  last = last_word b.firsts b.words k

  more : (xs : List ℕ) → All (λ n. n ≤ k) xs → All (λ n. n ≤ suc k) xs
  more xs few = All-weaker (λ n. n ≤ k) (λ n. n ≤ suc k) (λ n l. omega (arith, l)) xs few

  none : ((word : ℕ) → is_in_loop b word k ≡ false) → AreBounds b (suc k) begins ends
  none never = record {
    begins_len = h.begins_len;
    ends_len = h.ends_len;
    begins_few = more begins h.begins_few;
    ends_few = more ends h.ends_few;
    about = λ word.
        let now : one (is_in_loop b word k) ≡ 0 = ap one (never word) in
        omega (arith, h.about word, now);
    begun = h.begun;
  }

  -- ---- a block with a loop

  raised_few : (xs : List ℕ) (i : ℕ) → i < length xs → All (λ n. n ≤ k) xs → All (λ n. n ≤ suc k) (raised xs i)
  raised_few xs i l few =
      let here = All-get_or (λ n. n ≤ k) xs i 0 l few in
      All-set (λ n. n ≤ suc k) xs i (slice_index xs i + 1) (omega (arith, here)) (more xs few)

  pub backward : (t : WordNo) → branch_target (end_of b k) ≡ Some t → t.0 ≤ last → last < b.words
      → AreBounds b (suc k) (raised begins t.0) (raised ends last)
  backward t e l within = record {
    begins_len = length-set begins t.0 _ ∙ h.begins_len;
    ends_len = length-set ends last _ ∙ h.ends_len;
    begins_few = raised_few begins t.0 first h.begins_few;
    ends_few = raised_few ends last ended h.ends_few;
    about = λ word. about word (cases_lt word t.0) (cases_lt last word);
    begun = λ n. begun n (cases_lt last n) (cases_lt t.0 n);
  }
    where
      first : t.0 < length begins
      first = omega (arith, l, within, h.begins_len)

      ended : last < length ends
      ended = omega (arith, within, h.ends_len)

      is : (word : ℕ) (c : Bool) → (nat_le t.0 word && nat_le word last) ≡ c → one (is_in_loop b word k) ≡ one c
      is word c eq = ap one (ap (is_between last word) e ∙ eq)

      about : (word : ℕ) → (word < t.0) ⊎ (t.0 ≤ word) → (last < word) ⊎ (word ≤ last)
          → sum_below (suc word) (raised begins t.0)
          ≡ sum_below word (raised ends last) + count_below (suc k) (is_in_loop b word)
      about word (inl m) over =
          let now = is word false (grind (arith, nat_tests)) in
          omega (arith, now, sum_before (suc word) begins t.0 (omega (arith, m)), sum_before word ends last (omega (arith, m, l)), h.about word)
      about word (inr m) (inl over) =
          let now = is word false (grind (arith, nat_tests)) in
          omega (arith, now, sum_after (suc word) begins t.0 first (omega (arith, m)), sum_after word ends last ended over, h.about word)
      about word (inr m) (inr over) =
          let now = is word true (grind (arith, nat_tests)) in
          omega (arith, now, sum_after (suc word) begins t.0 first (omega (arith, m)), sum_before word ends last over, h.about word)

      begun : (n : ℕ) → (last < n) ⊎ (n ≤ last) → (t.0 < n) ⊎ (n ≤ t.0)
          → sum_below n (raised ends last) ≤ sum_below n (raised begins t.0)
      begun n (inl o) m = omega (arith, sum_after n begins t.0 first (omega (arith, o, l)), sum_after n ends last ended o, h.begun n)
      begun n (inr o) (inl m) = omega (arith, sum_after n begins t.0 first m, sum_before n ends last o, h.begun n)
      begun n (inr o) (inr m) = omega (arith, sum_before n begins t.0 m, sum_before n ends last o, h.begun n)

  -- as the code meets these facts
  pub put : (t : WordNo) (at : ℕ) (begun ended : List ℕ) → begun ≡ raised begins t.0 → ended ≡ raised ends at → at ≡ last
      → branch_target (end_of b k) ≡ Some t → t.0 ≤ at → at < b.words → AreBounds b (k + 1) begun ended
  put t at begun ended first second is e l within =
      rw (add-one, first, second, is) (backward t e (omega (arith, l, is)) (omega (arith, within, is)))

-- ---- the list for all words

pub loops_length : (b : Blocks) (loops : List ℕ) → loops ≡ map (loops_at b) (below b.words) → length loops ≡ b.words
loops_length b loops e = ap length e ∙ length-map (below b.words) (loops_at b) ∙ length-below b.words

pub loops_read : (b : Blocks) (loops : List ℕ) (word : ℕ) → loops ≡ map (loops_at b) (below b.words) → word < b.words
    → slice_index loops word ≡ loops_at b word
loops_read b loops word e l =
    rw e (grind (arith, common_steps, length-below b.words, get_or-below b.words word 0))

-- a turn of the loop over the words: what is about one, and what stays about the next
module _ (b : Blocks) (begins ends : List ℕ) (h : AreBounds b (length b.firsts) begins ends) (about word : ℕ)
    (before : about + sum_below word ends ≡ sum_below word begins) where
  pub about_is : about + slice_index begins word ≡ loops_at b word
  about_is = omega (arith, before, h.about word)

  pub about_few : about + slice_index begins word ≤ length b.firsts
  about_few = omega (arith, about_is, counted_few (length b.firsts) (is_in_loop b word))

  pub ends_fewer : slice_index ends word ≤ about + slice_index begins word
  ends_fewer = omega (arith, before, h.begun (suc word))

  pub about_next_as : (begun ended : ℕ) → begun ≡ slice_index begins word → ended ≡ slice_index ends word
      → about + begun - ended + sum_below (word + 1) ends ≡ sum_below (word + 1) begins
  about_next_as begun ended is was = rw add-one (omega (arith, before, ends_fewer, is, was))

pub loops_more : (b : Blocks) (loops : List ℕ) (word n : ℕ) → loops ≡ map (loops_at b) (below word) → n ≡ loops_at b word
    → loops ++ n ∷ [] ≡ map (loops_at b) (below (word + 1))
loops_more b loops word n e is = rw (add-one, e, is, map-append) refl
