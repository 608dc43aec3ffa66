-- The operations of snippets, one by one, as lists.
use Rattle.snippet_code.proofs.Common.{◌≡◌, ◌≢◌, ℕ, ◌+◌, ◌-◌, ◌*◌, ◌/◌, ◌%◌, ◌^◌, Bool, true, false, bit_and, [], ◌∷◌, refl, ap, arith, cond_both, ◌==◌, pos, nat_tests, mod_below, pow_pos, Codes, codes_of, complement, wrapped, State, register_of-range, Op, Add, Put, Keep, Top, Count, Log, put, put_other, nat_le, sum_overflows, cell_at, op_words, small, low, is_small}
use Rattle.v8_decode.specs.declared.AluOp.TheVariants as ops
use Rattle.snippet_code.proofs.Working.{HasWorkspace, WorksWithin}
use Rattle.snippet_code.proofs.Micro.{◌&◌, Doing, does, load, mine, not_zero, number, of, operate, other, reached, set, store}
use Rattle.snippet_code.proofs.Greater.{top_works}
use Rattle.snippet_code.proofs.Wide.{add_is, andn_is, carried, carry_added, carry_is, counted_up, low_added, one_is, put_swap, shifted, sll_is, small_is, srl_is}

module _ {s : State} {count : ℕ} {May : ℕ → Type 0} {counted : ℕ → Bool} {r : ℕ → ℕ} {want : ℕ}
    (c : HasWorkspace s count May r want) {n t : ℕ} {g : ℕ → ℕ} {codes : Codes} {f : ℕ → ℕ}
    (w : WorksWithin s count May counted r want n t g codes f) where
  pub op_works : (cells : ℕ) (d : Bool) (op : Op) → Doing c w cells d op (op_words cells d r op)
  op_works cells d (Add cell amount) = cond_both (is_small amount) _ _ (Doing c w cells d (Add cell amount))
      (λ e kept h room stand.
      let a = cell_at cells cell in
      let ok = reached h cell (omega arith, omega arith) in
      let v = wrapped (g a + amount) in
      does c w (set 0 a ∷ load 1 0 (low a) a ∷ operate ops.ADD false 1 (mine 1) (number (small amount)) v codes
      ∷ store (mine 1) 0 (low a) a ∷ []) 0 d _ (λ k. refl) kept (omega arith) (not_zero c w) (rw e at h.enough) room
      (ok.below & ok.word & rw (small_is amount h.numbers.1) (add_is (g a) amount v refl codes s.y) &
      (ok.word, omega arith) & tt) stand)
      (λ e kept h room stand.
      let a = cell_at cells cell in
      let ok = reached h cell (omega arith, omega arith) in
      let v = wrapped (g a + amount) in
      does c w (set 0 a ∷ load 1 0 (low a) a ∷ set 2 amount
      ∷ operate ops.ADD false 2 (mine 2) (number (pos (low amount))) amount codes
      ∷ operate ops.ADD false 1 (mine 1) (of (mine 2)) v codes ∷ store (mine 1) 0 (low a) a ∷ []) 0 d _ (λ k. refl)
      kept (omega arith) (not_zero c w) (rw e at h.enough) room
      (ok.below & ok.word & h.numbers.1 & low_added amount h.numbers.1 codes s.y &
      add_is (g a) amount v refl codes s.y & (ok.word, omega arith) & tt) stand)
  op_works cells d (Put cell value) = cond_both (value == 0) _ _ (Doing c w cells d (Put cell value))
      (λ e kept h room stand.
      let a = cell_at cells cell in
      let ok = reached h cell (omega arith, omega arith) in
      let is_zero : 0 ≡ value = grind (arith, nat_tests) in
      does c w (set 0 a ∷ store other 0 (low a) a ∷ []) 0 d _ (λ k. ap (λ v. put a v g k) is_zero) kept (omega arith)
      (not_zero c w) (rw e at h.enough) room
      (ok.below & (ok.word, omega arith) & tt) stand)
      (λ e kept h room stand.
      let a = cell_at cells cell in
      let ok = reached h cell (omega arith, omega arith) in
      does c w (set 0 a ∷ set 1 value ∷ operate ops.ADD false 1 (mine 1) (number (pos (low value))) value codes
      ∷ store (mine 1) 0 (low a) a ∷ []) 0 d _ (λ k. refl) kept (omega arith) (not_zero c w) (rw e at h.enough) room
      (ok.below & h.numbers.1 & low_added value h.numbers.1 codes s.y & (ok.word, h.numbers.1) & tt) stand)
  op_works cells d (Keep cell reg) = λ kept h room stand.
      let a = cell_at cells cell in
      let ok = reached h cell (omega arith, omega arith) in
      does c w (set 0 a ∷ store other 0 (low a) a ∷ []) reg d _ (λ k. refl) kept h.numbers.1
      (λ k b. h.unpicked reg k refl b) h.enough room
      (ok.below & (ok.word, register_of-range s reg c.valid) & tt) stand
  op_works cells d (Top cell reg) = top_works c w cells d cell reg
  op_works cells true (Count cell) = λ kept h room stand.
      let a = cell_at cells cell in
      let b = cell_at cells (cell + 1) in
      let x = wrapped (g b + 1) in
      let up = wrapped (g a + (g b + 1) / 2 ^ 32) in
      let k = codes_of x (sum_overflows (g b) 1 x) (nat_le (2 ^ 32) (g b + 1 + 0)) in
      let apart : a ≢ b = λ e. (omega arith) in
      let first = reached h cell (omega arith, omega arith) in
      let second = reached h (cell + 1) (omega arith, omega arith) in
      let below = second.below in
      let small = w.ran.alike.memory.range in
      let next : wrapped (1024 * (a / 1024) + wrapped (low a + 4)) ≡ b = omega arith in
      does c w (set 0 a ∷ load 1 0 (low a + 4) b ∷ operate ops.ADD true 1 (mine 1) (number (pos 1)) x k
      ∷ store (mine 1) 0 (low a + 4) b ∷ load 1 0 (low a) a ∷ operate ops.ADDX false 1 (mine 1) (number (pos 0)) up k
      ∷ store (mine 1) 0 (low a) a ∷ []) 0 true _
      (counted_up s g cells cell (small a first.word.1.0) (small b second.word.1.0)) (λ q. absurd (cc)) (omega arith)
      (not_zero c w) h.enough room
      (first.below & (next, second.word.1) & one_is (g b) codes s.y & ((next, second.word.1), omega arith) &
      first.word &
      rw (put_other b x g a apart) (carry_added (g a) up k s.y (rw (carried (g b) (small b second.word.1.0)) refl)) &
      (first.word, omega arith) & tt) stand
  op_works cells false (Count cell) = λ kept h room stand.
      let a = cell_at cells cell in
      let b = cell_at cells (cell + 1) in
      let x = wrapped (g b + 1) in
      let k = bit_and (g b) (complement x) in
      let top = (g b + 1) / 2 ^ 32 in
      let apart : a ≢ b = λ e. (omega arith) in
      let first = reached h cell (omega arith, omega arith) in
      let second = reached h (cell + 1) (omega arith, omega arith) in
      let below = second.below in
      let small = w.ran.alike.memory.range in
      let next : wrapped (1024 * (a / 1024) + wrapped (low a + 4)) ≡ b = omega arith in
      does c w (set 0 a ∷ load 1 0 (low a + 4) b ∷ operate ops.ADD false 2 (mine 1) (number (pos 1)) x codes
      ∷ store (mine 2) 0 (low a + 4) b ∷ operate ops.ANDN false 1 (mine 1) (of (mine 2)) k codes
      ∷ operate ops.SRL false 1 (mine 1) (number (pos 31)) top codes ∷ load 2 0 (low a) a
      ∷ operate ops.ADD false 2 (mine 2) (of (mine 1)) (wrapped (g a + top)) codes ∷ store (mine 2) 0 (low a) a ∷ [])
      0 false _ (counted_up s g cells cell (small a first.word.1.0) (small b second.word.1.0)) kept (omega arith)
      (not_zero c w) h.enough room
      (first.below & (next, second.word.1) & add_is (g b) 1 x refl codes s.y &
      ((next, second.word.1), omega arith) & andn_is (g b) x codes s.y &
      srl_is k 31 top (carry_is (g b) (small b second.word.1.0)) codes s.y & first.word &
      rw (put_other b x g a apart) (add_is (g a) top _ refl codes s.y) & (first.word, omega arith) & tt) stand
  op_works cells d (Log cell bits value) = λ kept h room stand.
      let a = cell_at cells cell in
      let off = 4 * (g a % 2 ^ bits) in
      let place = cell + 1 + g a % 2 ^ bits in
      let b = cell_at cells place in
      let v = wrapped (g a + 1) in
      let sh = wrapped (g a * 2 ^ (wrapped (32 - bits) % 32)) in
      let inside = mod_below (g a) (2 ^ bits) (pow_pos bits) in
      let apart : b ≢ a = λ e. (omega arith) in
      let first = reached h cell (omega arith, omega arith) in
      let second = reached h place (omega arith, omega arith) in
      let below = second.below in
      let base : wrapped (1024 * (a / 1024) + off) ≡ 1024 * (a / 1024) + off = omega arith in
      let next : wrapped (1024 * (a / 1024) + off + wrapped (low a + 4)) ≡ b = omega arith in
      does c w (set 0 a ∷ load 1 0 (low a) a ∷ operate ops.SLL false 2 (mine 1) (number (pos (32 - bits))) sh codes
      ∷ operate ops.SRL false 2 (mine 2) (number (pos (30 - bits))) off codes
      ∷ operate ops.ADD false 2 (mine 0) (of (mine 2)) (1024 * (a / 1024) + off) codes
      ∷ operate ops.ADD false 1 (mine 1) (number (pos 1)) v codes ∷ store (mine 1) 0 (low a) a
      ∷ set 1 value ∷ operate ops.ADD false 1 (mine 1) (number (pos (low value))) value codes
      ∷ store (mine 1) 2 (low a + 4) b ∷ []) 0 d _ (put_swap b value a v g apart) kept (omega arith) (not_zero c w)
      h.enough room
      (first.below & first.word & sll_is (g a) (wrapped (32 - bits)) sh refl codes s.y &
      srl_is sh (wrapped (30 - bits)) off (shifted (g a) bits h.numbers.1.0 h.numbers.1.1) codes s.y &
      add_is (1024 * (a / 1024)) off _ base codes s.y & add_is (g a) 1 v refl codes s.y &
      (first.word, omega arith) & h.numbers.2 & low_added value h.numbers.2 codes s.y &
      ((next, second.word.1), h.numbers.2) & tt) stand
