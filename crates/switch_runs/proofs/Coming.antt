-- What is known of the registers from the comparison to the jump holds along a run that carries out these words.
use Rattle.switch_runs.proofs.Common.{length, ◌≡◌, ℕ, suc, ◌+◌, ◌-◌, ◌*◌, ◌<◌, ◌≤◌, Bool, true, false, Some, None, List, slice_index, refl, ap, ◌∙◌, arith, length-set, ◌==◌, ℤ, pos, Words, address_of, word_at, IsText, decoded_range, Codes, wrapped, State, register_of, sum_of, act, run, IsValid, transfers as is_transfer, NoSlot, w32, cast_unsigned, register_in-range, run-valid, EdgeKind, FetchesOnly, Value, Index, after, all_unknown, instr_at, Switch, Approach, after_slot, before_branch, before_jump, bounds, first_values, is_taken, sets_codes, slot_words, holds_of, IsJump, HoldsText, to_branch, live_before, lived_to}
use Rattle.v8_decode.specs.declared.Op2.TheVariants as o
use Rattle.v8_decode.specs.declared.AluOp.TheVariants as ops
use Rattle.v8_decode.specs.declared.Instr.TheVariants as i
use Rattle.switch_runs.proofs.Meaning.{all_with}
use Rattle.switch_runs.proofs.Acts.{Holds, operands, sum_means}
use Rattle.switch_runs.proofs.Compared.{Bounds, IsCompare, compared-bounds, compared-register, first_means, way-bounds}
use Rattle.switch_runs.proofs.Steps.{carries_out}
use Rattle.switch_runs.proofs.Follows.{Stands, stands_after, stands_behind}

-- ---- the words in order

-- how many steps after the comparison the jump's block and the jump come
abbrev pub to_block : Approach → ℕ
to_block a = to_branch a + 1 + a.slot

abbrev pub at_last : Approach → ℕ
at_last a = to_block a + (a.jump - a.first)

-- The run carries out the words from the comparison to the branch in order, those of the slot that are run, and
-- those of the jump's block.
pub record Carries (text : Words) (a : Approach) (s : State) : Type 0 where
  pub comparison : (n : ℕ) → n ≤ to_branch a → (run s n).pc ≡ address_of text (a.compare.word + n)
  pub slot : (n : ℕ) → n < a.slot → (run s (to_branch a + 1 + n)).pc ≡ address_of text (a.last + 1 + n)
  pub block : (n : ℕ) → n ≤ a.jump - a.first → (run s (to_block a + n)).pc ≡ address_of text (a.first + n)

-- a branch leaves the values
stays : (values : List Value) (cond : ℕ) (annul : Bool) (disp : ℤ) → after values (i.Branch cond annul disp) ≡ values
unfolding after
stays values cond annul disp = refl

-- ---- at a comparison

-- The machine is about to carry out a word, and after it the next one.
pub record IsAt (text : Words) (word : ℕ) (s : State) : Type 0 where
  pub pc : s.pc ≡ address_of text word
  pub npc : s.npc ≡ address_of text (word + 1)
  pub slot : s.slot ≡ NoSlot

-- where a branch at a word goes, by whether it is taken
abbrev pub goes_to : Words → ℕ → ℤ → Bool → ℕ
goes_to text word disp true = wrapped (address_of text word + 4 * cast_unsigned w32 disp)
goes_to text word disp false = address_of text (word + 2)

-- all that is known where a run stands at a comparison
pub record Ready (text : Words) (a : Approach) (cond : ℕ) (annul : Bool) (way : EdgeKind) (s : State) : Type 0 where
  pub valid : IsValid s
  pub fetches : FetchesOnly text s
  pub holds : HoldsText text s.memory
  pub disp : ℤ
  pub at : IsAt text a.compare.word s
  pub ordered : a.compare.word < a.last
  pub last_low : a.last < length text.words
  pub branch : instr_at text a.last ≡ i.Branch cond annul disp
  pub other : (cond == 8) ≡ false
  pub compared : (k : ℕ) → a.compare.word ≤ k → k < a.last → is_transfer (instr_at text k) ≡ false
  pub slot : a.slot ≡ slot_words text a.last annul way
  pub leads : goes_to text a.last disp (is_taken way) ≡ address_of text a.first
  pub behind : a.first ≤ a.jump
  pub jump_low : a.jump < length text.words
  pub jumping : (k : ℕ) → a.first ≤ k → k < a.jump → is_transfer (instr_at text k) ≡ false
  pub bounded : bounds cond way ≡ true
  pub is_compare : IsCompare (instr_at text a.compare.word) a.compare
  pub quiet : (k : ℕ) → a.compare.word < k → k < a.last → sets_codes (instr_at text k) ≡ false

-- ---- the values on the way

module _ {text : Words} (is_text : IsText text) {a : Approach} {cond : ℕ} {annul : Bool} {way : EdgeKind} {s : State}
    (r : Ready text a cond annul way s) (along : Carries text a s)
    (goes : holds_of cond (run s (to_branch a)).codes ≡ is_taken way) where
  abbrev register : ℕ
  register = a.compare.register

  abbrev limit : ℕ
  limit = a.compare.limit

  -- the number that is compared
  abbrev pub x : ℕ
  x = register_of s register

  compares : instr_at text a.compare.word ≡ i.Alu ops.SUB true r.is_compare.rd register (o.Imm (pos limit))
  compares = r.is_compare.is

  in_range : (r.is_compare.rd < 32) × (register < 32)
  in_range =
      let q = operands r.is_compare.rd register (o.Imm (pos limit))
      (cc (compares, decoded_range _ (slice_index text.words a.compare.word) refl)) in
      (q.target, q.first)

  -- ---- behind the comparison

  abbrev pub Comes : (Codes → Type 0) → List Value → ℕ → Type 0
  Comes K values n = Stands text is_text s r.valid r.fetches r.holds x K values n

  begins : (run s 1).ending ≡ None → Comes (Bounds x limit) (first_values a.compare) 1
  begins live =
      let pc : s.pc ≡ address_of text a.compare.word =
      cc (along.comparison 0 (omega arith), plus_none a.compare.word) in
      let is : run s 1 ≡ act s (i.Alu ops.SUB true r.is_compare.rd register (o.Imm (pos limit))) =
      carries_out text is_text s r.fetches 0 a.compare.word pc live ∙ ap (act s) compares in
      record { count = length-set all_unknown register Index; hold = rw is there }
    where
      plus_none : (n : ℕ) → n + 0 ≡ n
      plus_none n = omega arith

      same : register_of (act s (i.Alu ops.SUB true r.is_compare.rd register (o.Imm (pos limit)))) register ≡ x
      same = compared-register s r.is_compare.rd register limit in_range.0 in_range.1 r.is_compare.stays

      bounded : Bounds x limit (act s (i.Alu ops.SUB true r.is_compare.rd register (o.Imm (pos limit)))).codes
      bounded =
          compared-bounds s r.is_compare.rd register limit
          (register_in-range s.registers s.window register r.valid.registers)
          r.is_compare.low

      there : Holds text is_text x (Bounds x limit) (first_values a.compare)
          (act s (i.Alu ops.SUB true r.is_compare.rd register (o.Imm (pos limit))))
      there =
          let u : State = act s (i.Alu ops.SUB true r.is_compare.rd register (o.Imm (pos limit))) in
          rw same at (first_means text (Bounds x limit u.codes) u.registers u.window register in_range.1 bounded)

  -- ---- at the branch, and behind it

  at_branch : (run s (to_branch a)).ending ≡ None → Comes (Bounds x limit) (before_branch text a) (to_branch a)
  at_branch live =
      let e : 1 + (a.last - (a.compare.word + 1)) ≡ to_branch a = omega arith in
      rw e at
      (stands_behind text is_text s r.valid r.fetches r.holds x (Bounds x limit) (first_values a.compare) 1
      (a.compare.word + 1) (a.last - (a.compare.word + 1)) (begins (lived_to s 1 (to_branch a) (omega arith) live))
      (λ k l.
      let f : a.compare.word + (1 + k) ≡ a.compare.word + 1 + k = omega arith in
      along.comparison (1 + k) (omega arith) ∙ ap (address_of text) f) (λ k l c d sets.
      let none = r.quiet (a.compare.word + 1 + k) (omega arith) (omega arith) in absurd (cc)) (rw e live))

  abbrev pub Known : Codes → Type 0
  Known k = x ≤ limit

  behind_branch : (run s (to_branch a + 1)).ending ≡ None → Comes Known (before_branch text a) (to_branch a + 1)
  behind_branch live =
      let e : to_branch a + 1 ≡ suc (to_branch a) = omega arith in
      let live' : (run s (suc (to_branch a))).ending ≡ None = rw e at live in
      let at = at_branch (live_before (run s (to_branch a)) live') in
      let f : a.compare.word + to_branch a ≡ a.last = omega arith in
      rw e (rw unchanged at
      (stands_after text is_text s r.valid r.fetches r.holds x Known (before_branch text a) (to_branch a) a.last
      (record {
        count = at.count;
        hold = all_with text x (Bounds x limit (run s (to_branch a)).codes) (x ≤ limit)
            (λ k. k (way-bounds cond way (run s (to_branch a)).codes r.bounded goes))
            (before_branch text a) (run s (to_branch a)).registers (run s (to_branch a)).window at.hold;
      }) (along.comparison (to_branch a) (omega arith) ∙ ap (address_of text) f) (λ k sets known. known) live'))
    where
      unchanged : after (before_branch text a) (instr_at text a.last) ≡ before_branch text a
      unchanged = cc (r.branch, stays (before_branch text a) cond annul r.disp)

  -- ---- in the slot, and in the jump's block

  at_block : (run s (to_block a)).ending ≡ None → Comes Known (after_slot text a) (to_block a)
  at_block live =
      stands_behind text is_text s r.valid r.fetches r.holds x Known (before_branch text a) (to_branch a + 1)
      (a.last + 1)
      a.slot (behind_branch (lived_to s (to_branch a + 1) (to_block a) (omega arith) live)) along.slot
      (λ k l c d sets known. known) live

  pub at_jump : (run s (at_last a)).ending ≡ None → Comes Known (before_jump text a) (at_last a)
  unfolding before_jump
  at_jump live =
      stands_behind text is_text s r.valid r.fetches r.holds x Known (after_slot text a) (to_block a) a.first
      (a.jump - a.first) (at_block (lived_to s (to_block a) (at_last a) (omega arith) live))
      (λ k l. along.block k (omega arith)) (λ k l c d sets known. known) live

  -- ---- the jump's sum

  -- it is the entry of the table at four times the index
  pub sum_goes : (block : ℕ) (switch : Switch) (jumps : IsJump text a block switch) → (run s (at_last a)).ending ≡ None
      → (x ≤ limit) × ((k : ℕ) → word_at text (wrapped (switch.table.0 + 4 * x)) ≡ Some k
      → sum_of (run s (at_last a)) jumps.rs1 jumps.op2 ≡ slice_index text.words k)
  sum_goes block switch jumps live =
      let u : State = run s (at_last a) in
      let at = at_jump live in
      let q = operands jumps.rd jumps.rs1 jumps.op2
      (cc (jumps.is, decoded_range _ (slice_index text.words a.jump) refl)) in
      rw jumps.sum at
      (sum_means text is_text x Known (before_jump text a) u at.count (run-valid s (at_last a) r.valid).registers
      at.hold jumps.rs1 jumps.op2 q.first q.second)
