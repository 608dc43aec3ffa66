-- The words of tables.
use Rattle.cfg_normal.proofs.Common.{◌≡◌, ℕ, zero, suc, ◌+◌, ◌<◌, ◌≤◌, Bool, true, false, ◌||◌, List, [], ◌∷◌, ◌++◌, length, Option, Some, None, refl, ap, sym, ◌∙◌, arith, add-one, cond, slice_index, inl, inr, ◌*◌, ◌⊎◌, get_or, ◌==◌, nat_le, nat_lt, ◌-◌, ◌/◌, ◌%◌, ◌&&◌, All, flat_map, list_any, is_some, option_to_list, append-nil, length-append, map-append, length-map, flat_map-append, All-append, All-cons, All-nil, list_any-append, list_any_at, common_steps, or-false, or_assoc, and_parts, cond_both, eq-eqb, ltb-true, ne_eqb, or_from, or_parts, both_ways, cases_lt, false_from_ne_true, Words, word_at, Switch, below, get_or-below, length-below, IsTableIn, Open, is_tabled, table_words, targets_of, words_from}
use Rattle.cfg_blocks.proofs.Targets.{word_at-some}

pub any_push : {X : Type 0} (p : X → Bool) (xs : List X) (x : X)
    → list_any p (xs ++ x ∷ []) ≡ (list_any p xs || p x)
any_push p xs x = simp (list_any-append, or-false)

words_next : (from n : ℕ) → words_from from (suc n) ≡ words_from from n ++ (from + n) ∷ []
words_next from n = map-append (λ k. from + k) (below n) (n ∷ [])

pub words_more : (from n : ℕ) → words_from from (n + 1) ≡ words_from from n ++ (from + n) ∷ []
words_more from n = rw add-one (words_next from n)

pub table_is : (text : Words) (switch : Switch) (from : ℕ) → word_at text switch.table.0 ≡ Some from
    → table_words text switch ≡ words_from from switch.count
table_is text switch from at =
    rw (at, append-nil) refl

-- the words to which an entry leads
abbrev pub entry_in : Words → ℕ → List ℕ
entry_in text word = option_to_list (word_at text (slice_index text.words word))

pub targets_are : (text : Words) (switch : Switch) (from : ℕ) → word_at text switch.table.0 ≡ Some from
    → targets_of text switch ≡ flat_map (entry_in text) (words_from from switch.count)
unfolding targets_of
targets_are text switch from at = ap (flat_map (entry_in text)) (table_is text switch from at)

targets_next : (text : Words) (from n : ℕ)
    → flat_map (entry_in text) (words_from from (suc n))
    ≡ flat_map (entry_in text) (words_from from n) ++ entry_in text (from + n)
targets_next text from n =
    rw (words_next from n, flat_map-append, append-nil) refl

pub targets_more : (text : Words) (from n : ℕ)
    → flat_map (entry_in text) (words_from from (n + 1))
    ≡ flat_map (entry_in text) (words_from from n) ++ entry_in text (from + n)
targets_more text from n = rw add-one (targets_next text from n)

-- ---- each entry leads to one word of the text

entries_within : (text : Words) (address : ℕ) → All (λ w. w < length text.words) (option_to_list (word_at text address))
entries_within text address =
    let n = length text.words in
    let word = (address - text.start) / 4 in
    let front = nat_le text.start address && ((address - text.start) % 4 == 0) in
    cond_both (front && nat_lt word n) (Some word) None
    (λ (o : Option ℕ). All (λ w. w < n) (option_to_list o))
    (λ h. All-cons (λ w. w < n) word [] (ltb-true word n (and_parts front (nat_lt word n) h).1) (All-nil (λ w. w < n)))
    (λ h. All-nil (λ w. w < n))

one_entry : (o : Option ℕ) → is_some o ≡ true → length (option_to_list o) ≡ 1
one_entry o h = grind arith

module _ (text : Words) (from : ℕ) where
  abbrev entries : ℕ → List ℕ
  entries n = flat_map (entry_in text) (words_from from n)

  all_entries : (n : ℕ) → All (λ w. w < length text.words) (entries n)
  all_entries zero = All-nil (λ w. w < length text.words)
  all_entries (suc n) =
      rw (targets_next text from n) (All-append (λ w. w < length text.words) (entries n) (entry_in text (from + n))
      (all_entries n) (entries_within text (slice_index text.words (from + n))))

  count_entries : (n : ℕ) → ((k : ℕ) → k < n → is_some (word_at text (slice_index text.words (from + k))) ≡ true)
      → length (entries n) ≡ n
  count_entries zero leads = refl
  count_entries (suc n) leads =
      rw (targets_next text from n, length-append) (omega (
        arith,
        count_entries n (λ k l. leads k (omega arith)),
        one_entry (word_at text (slice_index text.words (from + n))) (leads n (omega arith)),
      ))

-- what is known of the targets of a table
pub record AreTargets (text : Words) (switch : Switch) (targets : List ℕ) : Type 0 where
  pub count : length targets ≡ switch.count
  pub within : All (λ w. w < length text.words) targets

pub are_targets : (text : Words) (switch : Switch) → IsTableIn text switch → AreTargets text switch (targets_of text switch)
are_targets text switch t =
    let at = targets_are text switch t.begins t.at in
    record {
      count = ap length at ∙ count_entries text t.begins switch.count t.leads;
      within = rw at (all_entries text t.begins switch.count);
    }

-- ---- numbers that pass a test, of those below one

abbrev pub tally : (ℕ → Bool) → ℕ → ℕ
tally p zero = 0
tally p (suc n) = tally p n + cond (p n) 1 0

pub tally_few : (p : ℕ → Bool) (n : ℕ) → tally p n ≤ n
tally_few p zero = omega arith
tally_few p (suc n) = let before = tally_few p n in grind (arith, before)

pub tally_same : (p q : ℕ → Bool) (n : ℕ) → ((k : ℕ) → k < n → p k ≡ q k) → tally p n ≡ tally q n
tally_same p q zero same = refl
tally_same p q (suc n) same = cc (tally_same p q n (λ k l. same k (omega arith)), same n (omega arith))

-- one number more
tally_more : (p : ℕ → Bool) (x n : ℕ) → x < n → p x ≡ false → tally (λ k. p k || (x == k)) n ≡ tally p n + 1
tally_more p x zero l none = absurd (omega arith)
tally_more p x (suc n) l none =
    let before = tally_more p x n in
    let past = (λ (e : x ≡ n). tally_same (λ k. p k || (x == k)) p n (λ k h. rw (ne_eqb x k (λ f. omega arith)) (or-false (p k)))) in
    grind (arith, before, past)

-- so many words from one on
pub tally_table : (p : ℕ → Bool) (from c n : ℕ) → from + c ≤ n → list_any p (words_from from c) ≡ false
    → tally (λ k. p k || list_any (λ x. x == k) (words_from from c)) n ≡ tally p n + c
tally_table p from zero n l none =
    tally_same (λ k. p k || false) p n (λ k h. or-false (p k)) ∙ omega arith
tally_table p from (suc c) n l none =
    let p_c : ℕ → Bool = λ k. p k || list_any (λ x. x == k) (words_from from c) in
    let parts = or_parts (list_any p (words_from from c)) (p (from + c)) (simp (map-append, list_any-append, or-false) at none) in
    let fresh : p_c (from + c) ≡ false = or_from _ _ parts.1 (smaller from c c (omega arith)) in
    tally_same (λ k. p k || list_any (λ x. x == k) (words_from from (suc c))) (λ k. p_c k || ((from + c) == k)) n
    (λ k h. simp (map-append, list_any-append, or-false, or_assoc))
    ∙ omega (arith, tally_more p_c (from + c) n (omega arith) fresh, tally_table p from c n (omega arith) parts.0)
  where
    smaller : (from c m : ℕ) → m ≤ c → list_any (λ x. x == from + c) (words_from from m) ≡ false
    smaller from c zero l = refl
    smaller from c (suc m) l =
        simp (map-append, list_any-append, or-false, smaller from c m (omega arith))
        (ne_eqb (from + m) (from + c) (λ e. omega arith))

-- ---- tables that share no word

none_at : {X : Type 0} (p : X → Bool) (xs : List X) (i : ℕ) (d : X) → i < length xs → list_any p xs ≡ false
    → p (get_or xs i d) ≡ false
none_at p xs i d l none =
    false_from_ne_true (p (get_or xs i d)) (λ t. both_ways (list_any p xs) none (list_any_at p xs i d l t))

word_of : (from c k : ℕ) → k < c → get_or (words_from from c) k 0 ≡ from + k
word_of from c k l =
    grind (arith, common_steps, length-below c, get_or-below c k 0)

length-words : (from c : ℕ) → length (words_from from c) ≡ c
length-words from c = length-map (below c) (λ j. from + j) ∙ length-below c

in_table : (from c k : ℕ) → k < c → list_any (λ x. x == from + k) (words_from from c) ≡ true
in_table from c k l =
    list_any_at _ (words_from from c) k 0 (omega (arith, length-words from c)) (eq-eqb _ _ (word_of from c k l))

-- no word of a table is tabled
pub none_tabled : (text : Words) (opens : List Open) (from c : ℕ)
    → list_any (is_tabled text opens) (words_from from c) ≡ false → (i : ℕ) (d : Open) → i < length opens → (k : ℕ)
    → k < c → list_any (λ x. x == from + k) (table_words text (get_or opens i d).switch) ≡ false
none_tabled text opens from c none i d l k m =
    none_at (λ (o : Open). list_any (λ x. x == from + k) (table_words text o.switch)) opens i d l
    (sym (ap (is_tabled text opens) (word_of from c k m))
    ∙ none_at (is_tabled text opens) (words_from from c) k 0 (omega (arith, length-words from c)) none)

pub tables_apart : (text : Words) (one other : Switch) → IsTableIn text one → (t : IsTableIn text other)
    → ((k : ℕ) → k < other.count → list_any (λ x. x == t.begins + k) (table_words text one) ≡ false)
    → (one.table.0 + 4 * one.count ≤ other.table.0) ⊎ (other.table.0 + 4 * other.count ≤ one.table.0)
tables_apart text one other s t none =
    let a = (word_at-some text one.table.0 s.begins s.at).is in
    let b = (word_at-some text other.table.0 t.begins t.at).is in
    elim (cases_lt s.begins t.begins) [
      | inl l ↦ elim (cases_lt t.begins (s.begins + one.count)) [
        | inl m ↦ absurd (meet (t.begins - s.begins) 0 (omega arith) (omega arith) (omega (arith, t.some)))
        | inr m ↦ inl (omega arith)
      ]
      | inr l ↦ elim (cases_lt s.begins (t.begins + other.count)) [
        | inl m ↦ absurd (meet 0 (s.begins - t.begins) (omega arith) (omega (arith, s.some)) (omega arith))
        | inr m ↦ inr (omega arith)
      ]
    ]
  where
    meet : (i k : ℕ) → s.begins + i ≡ t.begins + k → i < one.count → k < other.count → ⊥
    meet i k e l m =
        both_ways (list_any (λ x. x == t.begins + k) (table_words text one)) (none k m)
        (rw (table_is text one s.begins s.at, ← e) (in_table s.begins one.count i l))
