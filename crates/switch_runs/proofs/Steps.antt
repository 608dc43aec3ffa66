-- What the steps of a run carry out: the words of the text.
use Rattle.switch_runs.proofs.Common.{◌≡◌, ℕ, suc, ◌<◌, Option, Some, None, length, slice_index, refl, ap, sym, ◌∙◌, arith, option_map, lt-ltb, Words, address_of, word_at, IsText, fetch_of, State, act, on_word, step_of, run, code_stays, within, instr_at, IsWord, word_at-some, FetchesOnly, word_at-address, live_before}
use Rattle.v8_step.proofs.Live.{live_step}

-- ---- a step carries out the word at pc

module _ (text : Words) (is_text : IsText text) (s : State) (fetches : FetchesOnly text s) where
  fetched : (n a : ℕ) → fetch_of (run s n).memory a ≡ option_map (λ word. slice_index text.words word) (word_at text a)
  fetched n a = code_stays.1 s n a ∙ fetches a

  -- the run has come to a word of the text where it goes on
  pub comes_to : (n : ℕ) → (run s (suc n)).ending ≡ None → (word : ℕ) × IsWord text (run s n).pc word
  unfolding step_of
  comes_to n live = by (word_at text (run s n).pc) refl
    where
      t : State
      t = run s n

      by : (x : Option ℕ) → word_at text t.pc ≡ x → (word : ℕ) × IsWord text t.pc word
      by None e =
          let none : fetch_of t.memory t.pc ≡ None =
          fetched n t.pc ∙ ap (option_map (λ k. slice_index text.words k)) e in
          let ended : step_of t ≡ on_word t None = cc (live_before t live, none) in
          let trap : (on_word t None).ending ≡ None = ap (λ (q : State). q.ending) (sym ended) ∙ live in
          absurd (cc)
      by (Some word) e = (word, word_at-some text t.pc word e)

  pub is_inside : (n w : ℕ) → (run s n).pc ≡ address_of text w → (run s (suc n)).ending ≡ None → w < length text.words
  is_inside n w pc live =
      let here = comes_to n live in
      let below = here.1.within in
      omega arith

  -- where the run has come to a word, its step carries it out
  pub carries_here : (n w : ℕ) → (run s n).pc ≡ address_of text w → w < length text.words
      → (run s n).ending ≡ None → run s (suc n) ≡ act (run s n) (instr_at text w)
  carries_here n w pc l live =
      let inside : within (length text.words) w ≡ Some w = rw (lt-ltb _ _ l) in
      live_step (run s n) (slice_index text.words w) live
      (cc (fetched n (run s n).pc, pc, word_at-address text w, inside))

  pub carries_out : (n w : ℕ) → (run s n).pc ≡ address_of text w → (run s (suc n)).ending ≡ None
      → run s (suc n) ≡ act (run s n) (instr_at text w)
  carries_out n w pc live = carries_here n w pc (is_inside n w pc live) (live_before (run s n) live)
