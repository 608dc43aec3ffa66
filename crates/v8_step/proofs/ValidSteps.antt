-- A step keeps a state valid.
use Rattle.v8_step.proofs.Common.{drop, All-append, StoreKind, ended, ◌≡◌, ℕ, zero, suc, ◌%◌, ◌-◌, ◌^◌, ◌<◌, ◌≤◌, true, List, [], ◌∷◌, take, length, All-cons, All-nil, Option, Some, None, IfSome, arith, nat_tests, nat_le, leb-true, and_parts, length-take, All-take, All-drop, to_be_bytes, w32, Op2, Reg, Imm, Instr, Memory, buffer_written, with_heap_end, is_heap_end, frame_bytes, with_frame, frame_pointer, window_after, decode_of, fetch_of, Ending, State, register_of, register_set, operand_of, sum_of, AreRegisters, AreBytes, act, alu_step, load_step, store_step, ldstub_step, swap_step, loaded, stored, load_size, branch_step, call_step, jump_step, save_step, restore_step, spill_many, trap_step, system_call, oldest_window, save_address, trap_number, on_word, unless_ended, step_of, IsValidMemory, IsValid, ValidStays, run}
use Rattle.v8_decode.specs.declared.Instr.TheVariants as i
use Rattle.v8_decode.specs.declared.LoadKind.{LoadKind}
use Rattle.v8_decode.specs.declared.LoadKind.TheVariants as loads
use Rattle.v8_decode.specs.declared.StoreKind.TheVariants as stores
use Rattle.v8_step.proofs.ValidFirst.{first_state-valid}
use Rattle.v8_step.proofs.ValidNumbers.{register_set-valid, register_in-range, frame_bytes-bytes, with_frame-valid, high_first-bytes, word_of-range, half-range, single-range, extended_8-range, extended_16-range}
use Rattle.v8_step.proofs.ValidMemory.{bytes_at-bytes, with_bytes-valid, with_heap_end-valid}
use Rattle.std.proofs.lemmas.Nat.{xor_lt}
use Rattle.v8_alu.proofs.Ranges.{alu_of-range}

abbrev AreInRange : State → Type 0
AreInRange s = (s.pc < 2 ^ 32) × (s.npc < 2 ^ 32) × (s.window < 8) × (1 ≤ s.valid) × (s.valid ≤ 7)

spills_range : (n : ℕ) (s : State) → AreInRange s → suc n ≤ s.valid → AreInRange (spill_many n s)
spills_range zero s h more = grind arith
spills_range (suc n) s h more = grind (arith, λ (m : Memory). spills_range n (record s { memory = m; valid = s.valid - 1 }))

call_range : (s : State) (number a b c : ℕ) → AreInRange s → AreInRange (system_call s number a b c)
unfolding system_call
call_range s number a b c h = (grind arith, grind arith, grind arith, grind arith, grind arith)

trap_range : (s : State) (number : ℕ) → AreInRange s → AreInRange (trap_step s number)
unfolding trap_step
trap_range s number h =
    let call = call_range s (register_of s 1) (register_of s 8) (register_of s 9) (register_of s 10) h in
    grind (arith, spills_range (s.valid - 1) s h, call)

act_range : (s : State) (x : Instr) → AreInRange s → AreInRange (act s x)
unfolding act load_step store_step ldstub_step swap_step save_step restore_step branch_step call_step jump_step alu_step
act_range s (i.Ticc cond rs1 op2) h = grind (arith, trap_range s (trap_number s rs1 op2) h)
act_range s (i.Save rd rs1 op2) h = grind (arith, nat_tests)
act_range s (i.Restore rd rs1 op2) h = grind (arith, nat_tests)
act_range s x h = grind arith

operand_of-range : (s : State) (op2 : Op2) → AreRegisters s.registers → operand_of s op2 < 2 ^ 32
operand_of-range s (Reg r) h = register_in-range s.registers s.window r h
operand_of-range s (Imm n) h = omega arith

-- ---- registers and Y

AreWords : State → Type 0
AreWords s = AreRegisters s.registers × (s.y < 2 ^ 32)

spills_words : (n : ℕ) (s : State) → AreWords s → AreWords (spill_many n s)
unfolding AreWords
spills_words zero s h = h
spills_words (suc n) s h = grind (arith, h, λ (m : Memory). spills_words n (record s { memory = m; valid = s.valid - 1 }))

-- what holds of the registers, whatever number a call answers
call_keeps : (R : List ℕ → Type 0) (s : State) (number a b c : ℕ) → R s.registers
    → ((v : ℕ) → v < 2 ^ 32 → R (register_set s.registers s.window 8 v)) → c < 2 ^ 32
    → R (system_call s number a b c).registers × ((system_call s number a b c).y ≡ s.y)
unfolding system_call
call_keeps R s number a b c h set low = (grind (arith, set, length-take c s.input), grind arith)

trap_words : (s : State) (number : ℕ) → AreWords s → AreWords (trap_step s number)
unfolding trap_step AreWords
trap_words s number h =
    grind (
      arith,
      h,
      spills_words (s.valid - 1) s h,
      call_keeps AreRegisters s (register_of s 1) (register_of s 8) (register_of s 9) (register_of s 10) h.0
          (λ v low. register_set-valid s.registers s.window 8 v h.0 low) (register_in-range s.registers s.window 10 h.0),
    )

loaded-valid : (registers : List ℕ) (window : ℕ) (kind : LoadKind) (rd : ℕ) (bytes : List ℕ) → AreRegisters registers
    → AreBytes bytes → AreRegisters (loaded registers window kind rd bytes)
loaded-valid registers window loads.LD rd bytes h k = register_set-valid registers window rd _ h (word_of-range bytes k)
loaded-valid registers window loads.LDUB rd bytes h k =
    register_set-valid registers window rd _ h (omega (arith, single-range bytes k))
loaded-valid registers window loads.LDUH rd bytes h k =
    register_set-valid registers window rd _ h (omega (arith, half-range bytes k))
loaded-valid registers window loads.LDD rd bytes h k =
    register_set-valid _ window (suc rd) _
    (register_set-valid registers window rd _ h (word_of-range (take 4 bytes) (All-take (λ b. b < 256) 4 bytes k)))
    (word_of-range (drop 4 bytes) (All-drop (λ b. b < 256) 4 bytes k))
loaded-valid registers window loads.LDSB rd bytes h k =
    register_set-valid registers window rd _ h (extended_8-range _ (single-range bytes k))
loaded-valid registers window loads.LDSH rd bytes h k =
    register_set-valid registers window rd _ h (extended_16-range _ (half-range bytes k))

stored-bytes : (s : State) (kind : StoreKind) (rd : ℕ) → AreBytes (stored s kind rd)
stored-bytes s stores.ST rd = high_first-bytes 4 (register_of s rd)
stored-bytes s stores.STB rd = All-cons (λ b. b < 256) _ [] (omega arith) (All-nil (λ b. b < 256))
stored-bytes s stores.STH rd = high_first-bytes 2 (register_of s rd % 2 ^ 16)
stored-bytes s stores.STD rd =
    All-append (λ b. b < 256) (to_be_bytes w32 (register_of s rd)) (to_be_bytes w32 (register_of s (suc rd)))
    (high_first-bytes 4 (register_of s rd)) (high_first-bytes 4 (register_of s (suc rd)))

act_words : (s : State) (x : Instr) → AreWords s → IsValidMemory s.memory → s.pc < 2 ^ 32 → AreWords (act s x)
unfolding act load_step store_step ldstub_step swap_step save_step restore_step branch_step call_step jump_step alu_step AreWords
act_words s (i.Alu op sets rd rs1 op2) h m p =
    grind (
      arith,
      h,
      λ (v : ℕ). register_set-valid s.registers s.window rd v h.0,
      alu_of-range op sets (register_of s rs1) (operand_of s op2) s.codes s.y
          (register_in-range s.registers s.window rs1 h.0) (operand_of-range s op2 h.0) h.1,
    )
act_words s (i.WriteY rs1 op2) h m p =
    grind (
      arith,
      h,
      xor_lt 32 (register_of s rs1) (operand_of s op2) (register_in-range s.registers s.window rs1 h.0)
          (operand_of-range s op2 h.0),
    )
act_words s (i.Ticc cond rs1 op2) h m p = grind (arith, h, trap_words s (trap_number s rs1 op2) h)
act_words s (i.Load kind rd rs1 op2) h m p =
    grind (
      arith,
      h,
      bytes_at-bytes s.memory (sum_of s rs1 op2) (load_size kind) m,
      λ (bytes : List ℕ). loaded-valid s.registers s.window kind rd bytes h.0,
    )
act_words s (i.Ldstub rd rs1 op2) h m p =
    grind (arith, h, register_set-valid s.registers s.window rd, bytes_at-bytes s.memory (sum_of s rs1 op2) 1 m, single-range)
act_words s (i.Swap rd rs1 op2) h m p =
    grind (arith, h, register_set-valid s.registers s.window rd, bytes_at-bytes s.memory (sum_of s rs1 op2) 4 m, word_of-range)
act_words s (i.Restore rd rs1 op2) h m p =
    let w = window_after s.window in
    let value = sum_of s rs1 op2 in
    let filled : (bytes : List ℕ) → AreBytes bytes
    → AreRegisters (register_set (with_frame s.registers w bytes) w rd value) =
    λ bytes k. register_set-valid _ w rd value (with_frame-valid s.registers w bytes h.0 k) (omega arith) in
    grind (
      arith,
      h,
      filled,
      register_set-valid s.registers w rd value h.0,
      bytes_at-bytes s.memory (register_of s frame_pointer) 64 m,
    )
act_words s (i.Call disp) h m p = grind (arith, h, register_set-valid s.registers s.window 15 s.pc h.0)
act_words s (i.Sethi rd imm22) h m p = grind (arith, h, λ (v : ℕ). register_set-valid s.registers s.window rd v h.0)
act_words s (i.ReadY rd) h m p = grind (arith, h, register_set-valid s.registers s.window rd s.y h.0)
act_words s (i.Jmpl rd rs1 op2) h m p = grind (arith, h, register_set-valid s.registers s.window rd s.pc h.0)
act_words s (i.Save rd rs1 op2) h m p =
    grind (arith, h, λ (w : ℕ). register_set-valid s.registers w rd (sum_of s rs1 op2) h.0)
act_words s x h m p = grind (arith, h)

-- ---- memory and input

AreValidBytes : State → Type 0
AreValidBytes s = IsValidMemory s.memory × AreBytes s.input

buffer_written-valid : (m : Memory) (address : ℕ) (bytes : List ℕ) → AreBytes bytes → IsValidMemory m
    → IfSome (buffer_written m address bytes) IsValidMemory
buffer_written-valid m address [] k h = h
buffer_written-valid m address (b ∷ bytes) k h = with_bytes-valid m address (b ∷ bytes) k h

spills_bytes : (n : ℕ) (s : State) → AreValidBytes s → AreValidBytes (spill_many n s)
unfolding AreValidBytes
spills_bytes zero s h = h
spills_bytes (suc n) s h =
    grind (
      arith,
      h,
      λ (m : Memory). spills_bytes n (record s { memory = m; valid = s.valid - 1 }),
      with_bytes-valid s.memory (save_address s) (frame_bytes s.registers (oldest_window s))
          (frame_bytes-bytes s.registers (oldest_window s)) h.0,
    )

heap_end-valid : (m : Memory) (e : ℕ) → is_heap_end e ≡ true → IsValidMemory m → IsValidMemory (with_heap_end m e)
heap_end-valid m e is h = with_heap_end-valid m e (leb-true _ _ (and_parts (nat_le 0x80000000 e) _ is).1) h

-- what holds of memory and input, whatever a call writes and takes
call_bytes : (M : Memory → Type 0) (B : List ℕ → Type 0) (s : State) (number a b c : ℕ) → M s.memory → B s.input
    → IfSome (buffer_written s.memory b (take c s.input)) M → B (drop (length (take c s.input)) s.input)
    → (is_heap_end a ≡ true → M (with_heap_end s.memory a))
    → M (system_call s number a b c).memory × B (system_call s number a b c).input
unfolding system_call
call_bytes M B s number a b c m i wrote rest heap = (grind arith, grind arith)

trap_bytes : (s : State) (number : ℕ) → AreValidBytes s → AreValidBytes (trap_step s number)
unfolding trap_step AreValidBytes
trap_bytes s number h =
    let o0 = register_of s 8 in
    let o1 = register_of s 9 in
    let o2 = register_of s 10 in
    grind (
      arith,
      h,
      spills_bytes (s.valid - 1) s h,
      call_bytes IsValidMemory AreBytes s (register_of s 1) o0 o1 o2 h.0 h.1
          (buffer_written-valid s.memory o1 (take o2 s.input) (All-take (λ b. b < 256) o2 s.input h.1) h.0)
          (All-drop (λ b. b < 256) (length (take o2 s.input)) s.input h.1)
          (λ is. heap_end-valid s.memory o0 is h.0),
    )

act_bytes : (s : State) (x : Instr) → AreValidBytes s → AreValidBytes (act s x)
unfolding act load_step store_step ldstub_step swap_step save_step restore_step branch_step call_step jump_step alu_step AreValidBytes
act_bytes s (i.Ticc cond rs1 op2) h = grind (arith, h, trap_bytes s (trap_number s rs1 op2) h)
act_bytes s (i.Save rd rs1 op2) h =
    grind (
      arith,
      h,
      with_bytes-valid s.memory (save_address s) (frame_bytes s.registers (oldest_window s))
          (frame_bytes-bytes s.registers (oldest_window s)) h.0,
    )
act_bytes s (i.Store kind rd rs1 op2) h =
    grind (arith, h, with_bytes-valid s.memory (sum_of s rs1 op2) (stored s kind rd) (stored-bytes s kind rd) h.0)
act_bytes s (i.Ldstub rd rs1 op2) h =
    grind (
      arith,
      h,
      with_bytes-valid s.memory (sum_of s rs1 op2) (0xff ∷ [])
          (All-cons (λ b. b < 256) 0xff [] (omega arith) (All-nil _)) h.0,
    )
act_bytes s (i.Swap rd rs1 op2) h =
    grind (
      arith,
      h,
      with_bytes-valid s.memory (sum_of s rs1 op2) (to_be_bytes w32 (register_of s rd))
          (high_first-bytes 4 (register_of s rd)) h.0,
    )
act_bytes s x h = grind (arith, h)

-- ---- steps

act-valid : (s : State) (x : Instr) → IsValid s → IsValid (act s x)
unfolding AreWords AreValidBytes
act-valid s x h =
    let numbers = act_range s x (h.pc, h.npc, h.window, h.some_valid, h.most_valid) in
    let words = act_words s x (h.registers, h.y) h.memory h.pc in
    let bytes = act_bytes s x (h.memory, h.input) in
    assumption (numbers, words, bytes)

ended-valid : (s : State) (ending : Ending) → IsValid s → IsValid (ended s ending)
ended-valid s ending h = assumption

pub step-valid : (s : State) → IsValid s → IsValid (step_of s)
unfolding step_of
step-valid s h = go s.ending (fetch_of s.memory s.pc)
  where
    go : (e : Option Ending) (o : Option ℕ) → IsValid (unless_ended s e (on_word s o))
    go None None = ended-valid s _ h
    go None (Some word) = act-valid s (decode_of word) h
    go (Some e) o = h

pub run-valid : (s : State) (n : ℕ) → IsValid s → IsValid (run s n)
run-valid s zero h = h
run-valid s (suc n) h = step-valid (run s n) (run-valid s n h)

pub valid_stays : ValidStays
valid_stays = (first_state-valid, step-valid, run-valid)
