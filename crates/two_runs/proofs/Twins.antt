-- Twins: states that are the same but for pc, npc, slot, and memory in the pages.
use Rattle.two_runs.proofs.Common.{◌≡◌, ℕ, zero, suc, ◌-◌, true, false, List, [], Option, Some, None, ◌∷◌, length, take, refl, ap, ◌∙◌, arith, Instr, Memory, Region, with_heap_end, buffer_written, buffer_read, Span, AllApart, IsSameOutside, AreSameWrites, bytes_same, with_bytes-same, frame_bytes, frame_pointer, length-frame_bytes, State, register_of, sum_of, act, load_step, store_step, ldstub_step, swap_step, alu_step, branch_step, call_step, jump_step, save_step, restore_step, trap_step, system_call, spill_many, oldest_window, save_address, saved_memory, puts_by, judged_by, judged_by_spills, judged_by_call, judged_by_trap, trap_number, load_size, stored, length-stored, store_some, apart_first, apart_rest, saved_span, judged_after, ◌++◌, buffer_span, is_transfer, nat_tests, to_be_bytes, w32}
use Rattle.v8_decode.specs.declared.Instr.TheVariants as i
use Rattle.v8_step.specs.declared.Slot.{Slot}

-- two states with the same in all but pc, npc, slot, and memory in the pages
pub record AreTwins (pages : List Span) (s t : State) : Type 0 where
  pub registers : s.registers ≡ t.registers
  pub codes : s.codes ≡ t.codes
  pub y : s.y ≡ t.y
  pub window : s.window ≡ t.window
  pub valid : s.valid ≡ t.valid
  pub input : s.input ≡ t.input
  pub ending : s.ending ≡ t.ending
  pub memory : IsSameOutside pages s.memory t.memory

module _ (pages : List Span) (pc npc : ℕ) (slot : Slot) where
  abbrev pub twin : State → Memory → State
  twin s n = record s { pc = pc; npc = npc; slot = slot; memory = n }

  -- the same but for pc, npc, slot, and memory, which this relation holds of
  abbrev pub AreSameBy : (Memory → Memory → Type 0) → State → State → Type 0
  AreSameBy Rel a b = (record b { pc = a.pc; npc = a.npc; slot = a.slot; memory = a.memory } ≡ a) × Rel a.memory b.memory

  abbrev pub AreSame : State → State → Type 0
  AreSame a b = AreSameBy (IsSameOutside pages) a b

  -- both were written, or neither
  abbrev BothIn : (Memory → Memory → Type 0) → Option Memory → Option Memory → Type 0
  BothIn Rel (Some m) (Some n) = Rel m n
  BothIn Rel None None = Unit {0}
  BothIn Rel x y = ⊥

  heap_same : (m n : Memory) (a : ℕ) → IsSameOutside pages m n → IsSameOutside pages (with_heap_end m a) (with_heap_end n a)
  heap_same m n a h = assumption (ap (λ (z : Region). record z { size = a - z.start }) h.heap)

  spills_alike : (k : ℕ) (s : State) (n : Memory) → IsSameOutside pages s.memory n → AllApart pages (judged_by_spills k s)
      → AreSame (spill_many k s) (spill_many k (twin s n))
  unfolding judged_by_spills
  spills_alike zero s n h apart = (refl, h)
  spills_alike (suc k) s n h apart =
      let size = length-frame_bytes s.registers (oldest_window s) in
      let first = apart_first pages (saved_span s) _ apart in
      let rest = apart_rest pages (saved_span s) _ apart in
      grind (
        arith,
        size,
        first,
        rest,
        with_bytes-same pages s.memory n (save_address s) (frame_bytes s.registers (oldest_window s)) h,
        λ (a b : Memory). spills_alike k (record s { memory = a; valid = s.valid - 1 }) b,
      )

  spills_judged : (k : ℕ) (s : State) (n : Memory) → IsSameOutside pages s.memory n → AllApart pages (judged_by_spills k s)
      → judged_by_spills k s ≡ judged_by_spills k (twin s n)
  unfolding judged_by_spills
  spills_judged zero s n h apart = refl
  spills_judged (suc k) s n h apart =
      let size = length-frame_bytes s.registers (oldest_window s) in
      let first = apart_first pages (saved_span s) _ apart in
      let rest = apart_rest pages (saved_span s) _ apart in
      let after : judged_after (judged_by_spills k) s (saved_memory s)
      ≡ judged_after (judged_by_spills k) (twin s n) (saved_memory (twin s n)) =
      grind (
        arith,
        size,
        first,
        rest,
        with_bytes-same pages s.memory n (save_address s) (frame_bytes s.registers (oldest_window s)) h,
        λ (a b : Memory). spills_judged k (record s { memory = a; valid = s.valid - 1 }) b,
      ) in
      ap (λ (z : List Span). saved_span s ++ z) after

  buffer_writes : (m n : Memory) (a : ℕ) (bytes : List ℕ) → IsSameOutside pages m n
      → AllApart pages (buffer_span a (length bytes))
      → BothIn (IsSameOutside pages) (buffer_written m a bytes) (buffer_written n a bytes)
  buffer_writes m n a [] h apart = h
  buffer_writes m n a (b ∷ bytes) h apart = both _ _ (with_bytes-same pages m n a (b ∷ bytes) h (omega arith) apart.0)
    where
      both : (x y : Option Memory) → AreSameWrites pages x y → BothIn (IsSameOutside pages) x y
      both x y h = grind arith

  buffer_reads : (m n : Memory) (a k : ℕ) → IsSameOutside pages m n → AllApart pages (buffer_span a k)
      → buffer_read m a k ≡ buffer_read n a k
  buffer_reads m n a zero h apart = refl
  buffer_reads m n a (suc k) h apart = bytes_same pages m n a (suc k) h (omega arith) apart.0

  -- what holds of two memories, whatever a call writes and reads
  call_alike : (Rel : Memory → Memory → Type 0) (Apart : List Span → Type 0) (s : State) (n : Memory) (number a b c : ℕ)
      → Rel s.memory n → Rel (with_heap_end s.memory a) (with_heap_end n a)
      → ((i : ℕ) (bytes : List ℕ) → Apart (buffer_span i (length bytes))
      → BothIn Rel (buffer_written s.memory i bytes) (buffer_written n i bytes))
      → ((i k : ℕ) → Apart (buffer_span i k) → buffer_read s.memory i k ≡ buffer_read n i k)
      → Apart (judged_by_call s number a b c) → AreSameBy Rel (system_call s number a b c) (system_call (twin s n) number a b c)
  unfolding system_call
  call_alike Rel Apart s n number a b c h heap writes reads apart =
      let read = reads b c in
      let write = writes b (take c s.input) in
      (grind (arith, read, write), grind (arith, read, write))

  trap_alike : (s : State) (n : Memory) (k : ℕ) → IsSameOutside pages s.memory n → AllApart pages (judged_by_trap s k)
      → AreSame (trap_step s k) (trap_step (twin s n) k)
  unfolding trap_step
  trap_alike s n k h apart =
      let call = call_alike (IsSameOutside pages) (AllApart pages) s n (register_of s 1) (register_of s 8) (register_of s 9)
      (register_of s 10) h (heap_same s.memory n (register_of s 8) h) (λ i bytes. buffer_writes s.memory n i bytes h)
      (λ i k. buffer_reads s.memory n i k h) in
      grind (arith, spills_alike (s.valid - 1) s n h, call)

  acts_alike : (s : State) (n : Memory) (x : Instr) → is_transfer x ≡ false → IsSameOutside pages s.memory n
      → AllApart pages (judged_by s x) → AreSame (act s x) (act (twin s n) x)
  unfolding act load_step store_step ldstub_step swap_step save_step restore_step alu_step
  acts_alike s n (i.Ticc cond rs1 op2) e h apart = grind (arith, trap_alike s n (trap_number s rs1 op2) h)
  acts_alike s n (i.Save rd rs1 op2) e h apart =
      let size = length-frame_bytes s.registers (oldest_window s) in
      grind (arith, size, with_bytes-same pages s.memory n (save_address s) (frame_bytes s.registers (oldest_window s)) h)
  acts_alike s n (i.Restore rd rs1 op2) e h apart =
      grind (arith, bytes_same pages s.memory n (register_of s frame_pointer) 64 h)
  acts_alike s n (i.Load kind rd rs1 op2) e h apart =
      grind (arith, bytes_same pages s.memory n (sum_of s rs1 op2) (load_size kind) h)
  acts_alike s n (i.Store kind rd rs1 op2) e h apart =
      grind (arith, length-stored kind rd s, store_some kind, with_bytes-same pages s.memory n (sum_of s rs1 op2) (stored s kind rd) h)
  acts_alike s n (i.Ldstub rd rs1 op2) e h apart =
      grind (arith, bytes_same pages s.memory n (sum_of s rs1 op2) 1 h, with_bytes-same pages s.memory n (sum_of s rs1 op2) (0xff ∷ []) h)
  acts_alike s n (i.Swap rd rs1 op2) e h apart =
      grind (arith, bytes_same pages s.memory n (sum_of s rs1 op2) 4 h, with_bytes-same pages s.memory n (sum_of s rs1 op2) (to_be_bytes w32 (register_of s rd)) h)
  acts_alike s n x e h apart = grind arith

  judged_same : (s : State) (n : Memory) (x : Instr) → IsSameOutside pages s.memory n
      → AllApart pages (judged_by s x) → judged_by s x ≡ judged_by (twin s n) x
  judged_same s n (i.Ticc cond rs1 op2) h apart = grind (arith, spills_judged (s.valid - 1) s n h)
  judged_same s n x h apart = refl

  puts_alike : (s : State) (n : Memory) (x : Instr) (descriptor : ℕ) → IsSameOutside pages s.memory n
      → AllApart pages (judged_by s x) → puts_by s x descriptor ≡ puts_by (twin s n) x descriptor
  unfolding puts_by
  puts_alike s n (i.Ticc cond rs1 op2) descriptor h apart =
      grind (arith, nat_tests, buffer_reads s.memory n (register_of s 9) (register_of s 10) h)
  puts_alike s n x descriptor h apart = refl

-- a transfer leaves memory, and looks at none
pub transfers_act : (s : State) (n : Memory) (x : Instr) → is_transfer x ≡ true
    → (act (record s { memory = n }) x ≡ record (act s x) { memory = n }) × ((act s x).memory ≡ s.memory)
unfolding act branch_step call_step jump_step
transfers_act s n (i.Branch cond annul disp) h = grind arith
transfers_act s n (i.Call disp) h = grind arith
transfers_act s n (i.Jmpl rd rs1 op2) h = grind arith
transfers_act s n x h = absurd (cc)

-- ---- of any twins

module _ (pages : List Span) (s t : State) (h : AreTwins pages s t) where
  twin_is : record s { pc = t.pc; npc = t.npc; slot = t.slot; memory = t.memory } ≡ t
  twin_is = grind arith

  pub twins_act : (x : Instr) → is_transfer x ≡ false → AllApart pages (judged_by s x) → AreTwins pages (act s x) (act t x)
  twins_act x e apart =
      rw (← twin_is) (twins (acts_alike pages t.pc t.npc t.slot s t.memory x e h.memory apart))
    where
      twins : {a b : State} → AreSame pages t.pc t.npc t.slot a b → AreTwins pages a b
      twins same = grind arith

  pub judged_alike : (x : Instr) → AllApart pages (judged_by s x) → AllApart pages (judged_by t x)
  judged_alike x apart = rw (judged_same pages t.pc t.npc t.slot s t.memory x h.memory apart, twin_is) at apart

  pub twins_put : (x : Instr) (descriptor : ℕ) → AllApart pages (judged_by s x) → puts_by s x descriptor ≡ puts_by t x descriptor
  twins_put x descriptor apart = puts_alike pages t.pc t.npc t.slot s t.memory x descriptor h.memory apart ∙ ap (λ (u : State). puts_by u x descriptor) twin_is
