-- The values that are followed over words hold along a run that carries out these words.
use Rattle.switch_runs.proofs.Common.{◌≡◌, ℕ, zero, suc, ◌+◌, ◌<◌, true, None, List, length, slice_index, refl, ap, sym, ◌∙◌, arith, length-set, Words, address_of, IsText, Instr, decoded_pair, decoded_range, Codes, State, run, IsValid, run-valid, FetchesOnly, live_before, Value, after, followed, instr_at, sets_codes, HoldsText}
use Rattle.switch_runs.proofs.Acts.{Holds, acts}
use Rattle.switch_runs.proofs.Held.{holds_run}
use Rattle.switch_runs.proofs.Steps.{carries_out}

-- ---- there are as many values as before

length-after : (values : List Value) (instr : Instr) → length values ≡ 32 → length (after values instr) ≡ 32
unfolding after
length-after values instr h = grind (arith, length-set)

-- ---- values along words

module _ (text : Words) (is_text : IsText text) (s : State) (valid : IsValid s) (fetches : FetchesOnly text s)
    (holds : HoldsText text s.memory) where
  module _ (x : ℕ) (K : Codes → Type 0) where
    -- the run has come to the word, where the values hold
    pub record Stands (values : List Value) (n : ℕ) : Type 0 where
      pub count : length values ≡ 32
      pub hold : Holds text is_text x K values (run s n)

    pub stands_after : (values : List Value) (n w : ℕ) → Stands values n → (run s n).pc ≡ address_of text w
        → ((k : Codes) → sets_codes (instr_at text w) ≡ true → K (run s n).codes → K k)
        → (run s (suc n)).ending ≡ None → Stands (after values (instr_at text w)) (suc n)
    stands_after values n w h pc keeps live =
        let is = carries_out text is_text s fetches n w pc live in
        record {
          count = length-after values (instr_at text w) h.count;
          hold = rw is (acts text is_text x K values (run s n) h.count (run-valid s n valid).registers h.hold
              (instr_at text w) (decoded_range _ (slice_index text.words w) refl)
              (decoded_pair _ (slice_index text.words w) refl) (holds_run text s n holds) keeps
              (ap (λ (t : State). t.ending) (sym is) ∙ live));
        }

    pub stands_behind : (values : List Value) (n from count : ℕ) → Stands values n
        → ((k : ℕ) → k < count → (run s (n + k)).pc ≡ address_of text (from + k))
        → ((k : ℕ) → k < count → (c d : Codes) → sets_codes (instr_at text (from + k)) ≡ true → K c → K d)
        → (run s (n + count)).ending ≡ None → Stands (followed text values from count) (n + count)
    stands_behind values n from zero h pc keeps live =
        let e : n ≡ n + 0 = omega arith in rw e at h
    stands_behind values n from (suc count) h pc keeps live =
        let e : n + suc count ≡ suc (n + count) = omega arith in
        let live' : (run s (suc (n + count))).ending ≡ None = rw e at live in
        rw e (stands_after (followed text values from count) (n + count) (from + count)
        (stands_behind values n from count h (λ k l. pc k (omega arith)) (λ k l. keeps k (omega arith))
        (live_before (run s (n + count)) live'))
        (pc count (omega arith)) (λ d. keeps count (omega arith) (run s (n + count)).codes d) live')
