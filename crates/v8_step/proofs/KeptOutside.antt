-- What each write outside some pages keeps, and each move of the heap's end, an instruction keeps that judges no byte
-- of the pages.
use Rattle.v8_step.proofs.Common.{◌≡◌, ℕ, zero, suc, ◌-◌, ◌<◌, Bool, true, false, Option, Some, None, List, [], ◌∷◌, length, refl, arith, to_be_bytes, frame_bytes, save_address, ◌++◌, w32, Instr, Memory, Region, all_written, write_region, with_bytes, if_allowed, region_at, with_heap_end, is_heap_end, buffer_written, Span, IsApartFromAll, AllApart, length-frame_bytes, State, register_of, sum_of, branch_step, call_step, jump_step, store_size, stored, load_step, store_step, ldstub_step, swap_step, oldest_window, spill_many, save_step, restore_step, system_call, trap_step, buffer_span, saved_span, judged_by_spills, judged_by, alu_step, trap_number, act, StoreKind}
use Rattle.v8_step.specs.Judged.{judged_by_call, judged_by_trap}
use Rattle.v8_decode.specs.declared.Instr.TheVariants as i
use Rattle.v8_decode.specs.declared.StoreKind.TheVariants as stores

pub length-stored : (kind : StoreKind) (rd : ℕ) (s : State) → length (stored s kind rd) ≡ store_size kind
length-stored stores.ST rd s = refl
length-stored kind rd s = refl

pub store_some : (kind : StoreKind) → 0 < store_size kind
store_some kind = grind arith

pub apart_first : (pages xs ys : List Span) → AllApart pages (xs ++ ys) → AllApart pages xs
apart_first pages [] ys h = tt
apart_first pages (x ∷ xs) ys h = (h.0, apart_first pages xs ys h.1)

pub apart_rest : (pages xs ys : List Span) → AllApart pages (xs ++ ys) → AllApart pages ys
apart_rest pages [] ys h = h
apart_rest pages (x ∷ xs) ys h = apart_rest pages xs ys h.1

module _ (pages : List Span) (Rel : Memory → Memory → Type 0) (same : (m : Memory) → Rel m m)
    (and_then : (m n o : Memory) → Rel m n → Rel n o → Rel m o)
    (by_write : (address : ℕ) (bytes : List ℕ) (m : Memory) → 0 < length bytes
    → IsApartFromAll pages (record { from = address; count = length bytes }) → Rel m (all_written address bytes m))
    (by_heap : (m : Memory) (address : ℕ) → is_heap_end address ≡ true → Rel m (with_heap_end m address)) where
  abbrev pub KeptIn : Memory → Option Memory → Type 0
  KeptIn m None = Unit {0}
  KeptIn m (Some n) = Rel m n

  abbrev pub Keeps : Memory → State → Type 0
  Keeps m s = Rel m s.memory

  kept_write : (m : Memory) (a : ℕ) (bs : List ℕ) → 0 < length bs
      → IsApartFromAll pages (record { from = a; count = length bs }) → KeptIn m (with_bytes m a bs)
  unfolding with_bytes
  kept_write m a bs some apart = go (region_at m a (length bs))
    where
      allowed : (b : Bool) → KeptIn m (if_allowed b (all_written a bs m))
      allowed true = by_write a bs m some apart
      allowed false = tt

      go : (x : Option Region) → KeptIn m (write_region a bs m x)
      go None = tt
      go (Some r) = allowed r.writable

  kept_buffer : (m : Memory) (a : ℕ) (bs : List ℕ) → AllApart pages (buffer_span a (length bs))
      → KeptIn m (buffer_written m a bs)
  kept_buffer m a [] apart = same m
  kept_buffer m a (b ∷ bs) apart = kept_write m a (b ∷ bs) (omega arith) apart.0

  kept_spills : (m : Memory) (n : ℕ) (s : State) → Keeps m s → AllApart pages (judged_by_spills n s)
      → Keeps m (spill_many n s)
  unfolding judged_by_spills
  kept_spills m zero s h apart = h
  kept_spills m (suc n) s h apart =
      let size = length-frame_bytes s.registers (oldest_window s) in
      let first = apart_first pages (saved_span s) _ apart in
      let rest = apart_rest pages (saved_span s) _ apart in
      let saves = kept_write s.memory (save_address s) (frame_bytes s.registers (oldest_window s)) (omega arith) in
      grind (arith, h, first, rest, size, saves, and_then m s.memory, λ (o : Memory). kept_spills m n (record s { memory = o; valid = s.valid - 1 }))

  kept_call : (m : Memory) (s : State) (number a b c : ℕ) → Keeps m s → AllApart pages (judged_by_call s number a b c)
      → Keeps m (system_call s number a b c)
  unfolding system_call
  kept_call m s number a b c h apart =
      grind (arith, h, and_then m s.memory, by_heap s.memory a, kept_buffer s.memory, kept_write s.memory)

  kept_trap : (m : Memory) (s : State) (n : ℕ) → Keeps m s → AllApart pages (judged_by_trap s n) → Keeps m (trap_step s n)
  unfolding trap_step
  kept_trap m s n h apart =
      let call = kept_call m s (register_of s 1) (register_of s 8) (register_of s 9) (register_of s 10) h in
      grind (arith, kept_spills m (s.valid - 1) s h, call)

  pub kept_act : (m : Memory) (s : State) (x : Instr) → Keeps m s → AllApart pages (judged_by s x) → Keeps m (act s x)
  unfolding act branch_step call_step jump_step load_step store_step ldstub_step swap_step save_step restore_step trap_step alu_step
  kept_act m s (i.Ticc cond rs1 op2) h apart = grind (arith, kept_trap m s (trap_number s rs1 op2) h)
  kept_act m s (i.Save rd rs1 op2) h apart =
      let size = length-frame_bytes s.registers (oldest_window s) in
      let saves = kept_write s.memory (save_address s) (frame_bytes s.registers (oldest_window s)) (omega arith) in
      grind (arith, size, saves, and_then m s.memory)
  kept_act m s (i.Store kind rd rs1 op2) h apart =
      let size = length-stored kind rd s in
      let some = store_some kind in
      let writes = kept_write s.memory (sum_of s rs1 op2) (stored s kind rd) in
      grind (arith, size, some, writes, and_then m s.memory)
  kept_act m s (i.Ldstub rd rs1 op2) h apart =
      grind (arith, kept_write s.memory (sum_of s rs1 op2) (0xff ∷ []), and_then m s.memory)
  kept_act m s (i.Swap rd rs1 op2) h apart =
      grind (arith, kept_write s.memory (sum_of s rs1 op2) (to_be_bytes w32 (register_of s rd)), and_then m s.memory)
  kept_act m s x h apart = grind arith
