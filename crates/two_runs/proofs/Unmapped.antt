-- What isn't mapped is touched by no step of which nothing is refused.
use Rattle.two_runs.proofs.Common.{◌≡◌, ℕ, zero, suc, ◌+◌, ◌-◌, ◌<◌, ◌≤◌, ◌⊎◌, inl, inr, true, false, ◌&&◌, Option, Some, None, List, [], ◌∷◌, ◌++◌, length, take, map, refl, ap, sym, ◌∙◌, subst, arith, ◌==◌, nat_le, filter, find, and_parts, cases_Bool, cases_eq, cond_both, leb-true, nat_tests, Instr, decode_of, Memory, Region, covers, region_at, bytes_at, changed, written, all_written, with_bytes, is_code, fetch_of, is_heap_end, with_heap_end, buffer_written, buffer_read, Span, IsApart, IsApartFromAll, AllApart, span_of, frame_bytes, frame_pointer, length-frame_bytes, Ending, Trap, State, register_of, sum_of, instruction_access_exception, call_system, EFAULT, load_size, store_size, stored, load_step, store_step, ldstub_step, swap_step, oldest_window, save_address, spill_many, save_step, restore_step, refuses, system_call, trap_step, buffer_span, saved_span, judged_by_spills, judged_by, judged_by_call, act, on_word, step_of, trap_number, unless_ended, run, kept_act, length-stored, live_step, stays_ended, part_of, option_map}
use Rattle.std.proofs.Common.{IfSome}
use Rattle.v8_step.specs.Judged.{judged_by_trap}
use Rattle.v8_decode.specs.declared.Instr.TheVariants as i
use Rattle.v8_memory.specs.Segments.{heap_start, heap_room}
use Rattle.v8_memory.proofs.Apart.{spans_stay}
use Rattle.v8_step.proofs.Kept.{none_near}
use Rattle.two_runs.specs.Needed.{IsUntouched, instr_at, judged_in}
use Rattle.two_runs.specs.Code.{AreHigh, GrantedIsUntouched, IsUnmapped, UnmappedIsUntouched}
use Rattle.two_runs.specs.Refused.{IsFaulted, IsGranted, IsNoRoom, IsRefused, IsUntouchedWhereRefused, calls_by, calls_on_word, is_refusal}
use Rattle.two_runs.proofs.Stays.{step_stays}

-- ---- what a region has is apart from what is apart from it

abbrev span : ℕ → ℕ → Span
span from count = record { from = from; count = count }

covered : (p : Span) (r : Region) (a c : ℕ) → covers a c r ≡ true → IsApart p (span_of r)
    → IsApart p (record { from = a; count = c })
covered p r a c has apart = grind (arith, nat_tests)

covered_all : (pages : List Span) (r : Region) (a c : ℕ) → covers a c r ≡ true → IsApartFromAll pages (span_of r)
    → IsApartFromAll pages (record { from = a; count = c })
covered_all [] r a c has apart = tt
covered_all (p ∷ pages) r a c has apart = (covered p r a c has apart.0, covered_all pages r a c has apart.1)

-- a byte of a word
narrow : (p : Span) (a : ℕ) → IsApart p (record { from = a; count = 4 }) → IsApart p (record { from = a; count = 1 })
narrow p a apart = grind arith

narrow_all : (pages : List Span) (a : ℕ) → IsApartFromAll pages (record { from = a; count = 4 })
    → IsApartFromAll pages (record { from = a; count = 1 })
narrow_all [] a apart = tt
narrow_all (p ∷ pages) a apart = (narrow p a apart.0, narrow_all pages a apart.1)

all_both : (pages xs ys : List Span) → AllApart pages xs → AllApart pages ys → AllApart pages (xs ++ ys)
all_both pages [] ys first rest = rest
all_both pages (x ∷ xs) ys first rest = (first.0, all_both pages xs ys first.1 rest)

span_stays : (a : ℕ) (bs : List ℕ) (r : Region) → span_of (written a bs r) ≡ span_of r
span_stays a bs r =
    cond_both (covers a (length bs) r && r.writable) (changed a bs r) r (λ z. span_of z ≡ span_of r) (λ _. refl) (λ _. refl)

module _ (pages : List Span) where
  abbrev Unmapped : Memory → Type 0
  Unmapped m = IsUnmapped pages m

  -- ---- what is found is apart

  found : (rs : List Region) (a c : ℕ) → AllApart pages (map span_of rs)
      → IfSome (find (covers a c) rs) (λ _. IsApartFromAll pages (span a c))
  found [] a c apart = tt
  found (r ∷ rs) a c apart = grind (arith, covered_all pages r a c, found rs a c)

  found_at : (m : Memory) (a c : ℕ) → Unmapped m → IfSome (region_at m a c) (λ _. IsApartFromAll pages (span a c))
  found_at m a c unmapped = cond_both (covers a c m.heap) _ _ (λ o. IfSome o (λ _. IsApartFromAll pages (span a c)))
      (λ has. covered_all pages (record m.heap { start = heap_start; size = heap_room }) a c (wider has) unmapped.apart.0)
      (λ _. found m.regions a c unmapped.apart.1)
    where
      wider : covers a c m.heap ≡ true → covers a c (record m.heap { start = heap_start; size = heap_room }) ≡ true
      wider has = let start = unmapped.start in let room = unmapped.room in grind (arith, nat_tests)

  found_code : (rs : List Region) (a : ℕ) → AllApart pages (map span_of rs)
      → IfSome (find (covers a 4) (filter is_code rs)) (λ _. IsApartFromAll pages (span a 4))
  found_code [] a apart = tt
  found_code (r ∷ rs) a apart = grind (arith, covered_all pages r a 4, found_code rs a)

  fetched : (m : Memory) (a : ℕ) → Unmapped m → IfSome (fetch_of m a) (λ _. IsApartFromAll pages (span a 1))
  unfolding fetch_of
  fetched m a unmapped = grind (arith, found_code m.regions a, narrow_all pages a)

  reads : (m : Memory) (a c : ℕ) → Unmapped m → IfSome (bytes_at m a c) (λ _. IsApartFromAll pages (span a c))
  unfolding bytes_at
  reads m a c unmapped = grind (arith, found_at m a c unmapped)

  -- ---- what is written stays unmapped

  all_written_stays : (a : ℕ) (bs : List ℕ) (m : Memory) → Unmapped m → Unmapped (all_written a bs m)
  all_written_stays a bs m unmapped =
      let heap = span_stays a bs m.heap in
      record {
        start = ap (λ (s : Span). s.from) heap ∙ unmapped.start;
        room = let size = ap (λ (s : Span). s.count) heap in omega (arith, size, unmapped.room);
        apart = rw (spans_stay a bs m.regions) unmapped.apart;
      }

  abbrev IfDone : ℕ → ℕ → Option Memory → Type 0
  IfDone a c None = Unit {0}
  IfDone a c (Some n) = IsApartFromAll pages (span a c) × Unmapped n

  writes : (m : Memory) (a : ℕ) (bs : List ℕ) (c : ℕ) → length bs ≡ c → Unmapped m → IfDone a c (with_bytes m a bs)
  unfolding with_bytes
  writes m a bs c size unmapped =
      let stays = all_written_stays a bs m unmapped in grind (arith, found_at m a (length bs) unmapped, stays)

  heap_moved : (m : Memory) (e : ℕ) → is_heap_end e ≡ true → Unmapped m → Unmapped (with_heap_end m e)
  heap_moved m e is unmapped = record {
    start = unmapped.start;
    room =
        let parts = and_parts (nat_le 0x80000000 e) (nat_le e 0x81000000) is in
        omega (arith, leb-true _ _ parts.1, unmapped.start);
    apart = unmapped.apart;
  }

  after_step : (s : State) → Unmapped s.memory → Unmapped (step_of s).memory
  unfolding step_of
  after_step s = go s.ending (fetch_of s.memory s.pc)
    where
      go : (e : Option Ending) (o : Option ℕ) → Unmapped s.memory → Unmapped (unless_ended s e (on_word s o)).memory
      go None (Some word) =
          kept_act [] (λ m n. Unmapped m → Unmapped n) (λ m h. h) (λ m n o h k u. k (h u))
          (λ a bs m some apart. all_written_stays a bs m) (λ m e is. heap_moved m e is)
          s.memory s (decode_of word) (λ h. h) (none_near (judged_by s (decode_of word)))
      go None None = λ h. h
      go (Some e) o = λ h. h

  pub after_run : (s0 : State) (n : ℕ) → Unmapped s0.memory → Unmapped (run s0 n).memory
  after_run s0 zero h = h
  after_run s0 (suc n) h = after_step (run s0 n) (after_run s0 n h)

  -- ---- what an instruction judges, of which nothing is refused

  granted_spills : (n : ℕ) (s : State) → Unmapped s.memory → is_refusal (spill_many n s).ending ≡ false
      → AllApart pages (judged_by_spills n s)
  unfolding judged_by_spills
  granted_spills zero s unmapped fine = tt
  granted_spills (suc n) s unmapped fine =
      let saves = writes s.memory (save_address s) (frame_bytes s.registers (oldest_window s)) 64
      (length-frame_bytes s.registers (oldest_window s)) unmapped in
      grind (
        arith,
        saves,
        all_both pages (saved_span s),
        λ (m : Memory). granted_spills n (record s { memory = m; valid = s.valid - 1 }),
      )

  granted_input : (m : Memory) (a : ℕ) (bs : List ℕ) → Unmapped m
      → IfSome (buffer_written m a bs) (λ _. AllApart pages (buffer_span a (length bs)))
  granted_input m a [] unmapped = tt
  granted_input m a (b ∷ bs) unmapped = grind (arith, writes m a (b ∷ bs) (suc (length bs)) refl unmapped)

  granted_output : (m : Memory) (a c : ℕ) → Unmapped m
      → IfSome (buffer_read m a c) (λ _. AllApart pages (buffer_span a c))
  granted_output m a zero unmapped = tt
  granted_output m a (suc c) unmapped = grind (arith, reads m a (suc c) unmapped)

  -- its buffer is refused, or apart
  abbrev IsGrantedCall : State → ℕ → ℕ → ℕ → ℕ → Type 0
  IsGrantedCall s number a b c =
      (system_call s number a b c ≡ refuses EFAULT s → AllApart pages (judged_by_call s number a b c))
      → AllApart pages (judged_by_call s number a b c)

  granted_read : (s : State) (number a b c : ℕ) → number ≡ 3 → Unmapped s.memory → IsGrantedCall s number a b c
  unfolding system_call
  granted_read s number a b c e unmapped = λ refused.
      grind (arith, e, refused, granted_input s.memory b (take c s.input) unmapped)

  granted_write : (s : State) (number a b c : ℕ) → number ≡ 4 → Unmapped s.memory → IsGrantedCall s number a b c
  unfolding system_call
  granted_write s number a b c e unmapped = λ refused. grind (arith, e, refused, granted_output s.memory b c unmapped)

  granted_call : (s : State) (number a b c : ℕ) → Unmapped s.memory → IsGrantedCall s number a b c
  granted_call s number a b c unmapped = λ refused.
      let read = λ (e : number ≡ 3). granted_read s number a b c e unmapped refused in
      let write = λ (e : number ≡ 4). granted_write s number a b c e unmapped refused in
      grind (arith, read, write)

  granted_trap : (s : State) (n : ℕ) → Unmapped s.memory → is_refusal (trap_step s n).ending ≡ false
      → ((n == call_system) ≡ true → trap_step s n ≡ refuses EFAULT s → AllApart pages (judged_by_trap s n))
      → AllApart pages (judged_by_trap s n)
  unfolding trap_step
  granted_trap s n unmapped fine buffer =
      let call = granted_call s (register_of s 1) (register_of s 8) (register_of s 9) (register_of s 10) unmapped in
      grind (arith, granted_spills (s.valid - 1) s unmapped, buffer, call)

  granted_act : (s : State) (x : Instr) → Unmapped s.memory → is_refusal (act s x).ending ≡ false
      → (calls_by s x ≡ true → act s x ≡ refuses EFAULT s → AllApart pages (judged_by s x))
      → AllApart pages (judged_by s x)
  unfolding act load_step store_step ldstub_step swap_step save_step restore_step
  granted_act s (i.Ticc cond rs1 op2) unmapped fine buffer =
      grind (arith, granted_trap s (trap_number s rs1 op2) unmapped, buffer)
  granted_act s (i.Save rd rs1 op2) unmapped fine buffer =
      let saves = writes s.memory (save_address s) (frame_bytes s.registers (oldest_window s)) 64
      (length-frame_bytes s.registers (oldest_window s)) unmapped in
      grind (arith, saves)
  granted_act s (i.Restore rd rs1 op2) unmapped fine buffer =
      grind (arith, reads s.memory (register_of s frame_pointer) 64 unmapped)
  granted_act s (i.Load kind rd rs1 op2) unmapped fine buffer =
      grind (arith, reads s.memory (sum_of s rs1 op2) (load_size kind) unmapped)
  granted_act s (i.Store kind rd rs1 op2) unmapped fine buffer =
      grind (arith, writes s.memory (sum_of s rs1 op2) (stored s kind rd) (store_size kind) (length-stored kind rd s) unmapped)
  granted_act s (i.Ldstub rd rs1 op2) unmapped fine buffer =
      grind (arith, reads s.memory (sum_of s rs1 op2) 1 unmapped)
  granted_act s (i.Swap rd rs1 op2) unmapped fine buffer =
      grind (arith, reads s.memory (sum_of s rs1 op2) 4 unmapped)
  granted_act s _ unmapped fine buffer = tt

-- ---- runs

-- a step that is refused has none, and so each has
pub judges : (pages : List Span) (s : State) → IsUnmapped pages s.memory
    → (IsRefused s → AllApart pages (judged_in s (instr_at s))) → AllApart pages (judged_in s (instr_at s))
judges pages s unmapped clear = by s.ending (fetch_of s.memory s.pc) refl refl
  where
    by : (e : Option Ending) (o : Option ℕ) → s.ending ≡ e → fetch_of s.memory s.pc ≡ o
        → AllApart pages (judged_in s (instr_at s))
    by None (Some word) live is =
        let does = live_step s word live is in
        let carries : instr_at s ≡ Some (decode_of word) = cc (live, is) in
        elim (cases_Bool (is_refusal (step_of s).ending)) [
          | inl refused ↦ clear (live, inl refused)
          | inr fine ↦ subst (λ (x : Option Instr). AllApart pages (judged_in s x)) (sym carries)
              (granted_act pages s (decode_of word) unmapped (rw does at fine)
              (λ calls does_so. subst (λ (x : Option Instr). AllApart pages (judged_in s x)) carries
              (clear (live, inr (ap (calls_on_word s) is ∙ calls, does ∙ does_so)))))
        ]
    by None None live is =
        let carries : instr_at s ≡ None = cc (live, is) in
        subst (λ (x : Option Instr). AllApart pages (judged_in s x)) (sym carries) tt
    by (Some d) o over is =
        let carries : instr_at s ≡ None = cc over in
        subst (λ (x : Option Instr). AllApart pages (judged_in s x)) (sym carries) tt

module _ (pages : List Span) (s0 : State) (n : ℕ) (live : s0.ending ≡ None) (unmapped : IsUnmapped pages s0.memory)
    (clear : IsUntouchedWhereRefused pages s0 n) where
  -- a live state stands where a word is fetched, or is refused
  stands : (k : ℕ) → k ≤ n → (run s0 k).ending ≡ None
      → IsApartFromAll pages (record { from = (run s0 k).pc; count = 1 })
  stands k below live = by (fetch_of (run s0 k).memory (run s0 k).pc) refl
    where
      by : (o : Option ℕ) → fetch_of (run s0 k).memory (run s0 k).pc ≡ o
          → IsApartFromAll pages (record { from = (run s0 k).pc; count = 1 })
      by None is = clear.outside k below live is
      by (Some word) is = rw is at (fetched pages (run s0 k).memory (run s0 k).pc (after_run pages s0 k unmapped))

  -- and one that has ended where the one before it does
  stood : (k : ℕ) → suc k ≤ n → IsApartFromAll pages (record { from = (run s0 k).pc; count = 1 })
      → (e d : Option Ending) → (run s0 k).ending ≡ e → (run s0 (suc k)).ending ≡ d
      → IsApartFromAll pages (record { from = (run s0 (suc k)).pc; count = 1 })
  stood k below before e None was is = stands (suc k) below is
  stood k below before None (Some d) was is = rw (step_stays (run s0 k) d was is) before
  stood k below before (Some e) (Some d) was is = rw (stays_ended (run s0 k) e was) before

  outside : (k : ℕ) → k ≤ n → IsApartFromAll pages (record { from = (run s0 k).pc; count = 1 })
  outside zero below = stands zero below live
  outside (suc k) below = stood k below (outside k (omega (arith, below))) (run s0 k).ending (run s0 (suc k)).ending refl refl

  is_untouched : IsUntouched pages s0 n
  is_untouched = record {
    outside = outside;
    unjudged = λ k below. judges pages (run s0 k) (after_run pages s0 k unmapped) (clear.unjudged k below);
  }

pub unmapped_is_untouched : UnmappedIsUntouched
unmapped_is_untouched = is_untouched

-- ---- runs in which nothing is refused

pub refusal_stays : (s : State) → is_refusal s.ending ≡ true → is_refusal (step_of s).ending ≡ true
refusal_stays s is = by s.ending refl
  where
    by : (e : Option Ending) → s.ending ≡ e → is_refusal (step_of s).ending ≡ true
    by None e = absurd (cc)
    by (Some d) e = rw (stays_ended s d e) is

-- a word that can't be fetched ends the run by trap 1
unfetched : (s : State) → s.ending ≡ None → fetch_of s.memory s.pc ≡ None
    → (step_of s).ending ≡ Some (Trap instruction_access_exception)
unfolding step_of
unfetched s live none = cc (live, none)

-- where memory is no page is, nor in the first 4096 bytes
no_room : (pages : List Span) (s : State) → IsUnmapped pages s.memory → AreHigh pages → IsNoRoom s.memory s.pc
    → IsApartFromAll pages (record { from = s.pc; count = 1 })
no_room pages s unmapped high (inl low) = high (record { from = s.pc; count = 1 }) (inr (omega (arith, low)))
no_room pages s unmapped high (inr some) = by (region_at s.memory s.pc 1) refl
  where
    by : (o : Option Region) → region_at s.memory s.pc 1 ≡ o → IsApartFromAll pages (record { from = s.pc; count = 1 })
    by None is = absurd (some (ap (option_map (λ (r : Region). part_of r s.pc 1)) is))
    by (Some q) is = rw is at (found_at pages s.memory s.pc 1 unmapped)

module _ (s0 : State) (n : ℕ) (granted : IsGranted s0 n) where
  -- no state before is refused
  fine_from : (k more : ℕ) → more + k ≡ n → is_refusal (run s0 k).ending ≡ false
  fine_from k zero e = rw (let same : k ≡ n = omega (arith, e) in same) granted.accesses
  fine_from k (suc more) e = elim (cases_Bool (is_refusal (run s0 k).ending)) [
    | inl is ↦ absurd (contrary (refusal_stays (run s0 k) is) (fine_from (suc k) more (omega (arith, e))))
    | inr is ↦ is
  ]
    where
      contrary : is_refusal (run s0 (suc k)).ending ≡ true → is_refusal (run s0 (suc k)).ending ≡ false → ⊥
      contrary here gone = absurd (cc)

  fine : (k : ℕ) → k ≤ n → is_refusal (run s0 k).ending ≡ false
  fine k below = fine_from k (n - k) (omega (arith, below))

  -- only the fetch behind them may be refused
  last : (k : ℕ) → k ≤ n → (run s0 (suc k)).ending ≡ Some (Trap instruction_access_exception)
      → IsNoRoom (run s0 k).memory (run s0 k).pc
  last k below over = elim (cases_eq k n) [
    | inl same ↦
        subst (λ (i : ℕ). IsNoRoom (run s0 i).memory (run s0 i).pc) (sym same) (granted.fetch (rw same at over))
    | inr apart ↦ absurd (contrary (fine (suc k) (omega (arith, below, apart))) (ap is_refusal over))
  ]
    where
      contrary : is_refusal (run s0 (suc k)).ending ≡ false → is_refusal (run s0 (suc k)).ending ≡ true → ⊥
      contrary gone here = absurd (cc)

  none_refused : (pages : List Span) → IsUnmapped pages s0.memory → AreHigh pages → IsUntouchedWhereRefused pages s0 n
  none_refused pages unmapped high = record {
    outside = λ k below live none.
        no_room pages (run s0 k) (after_run pages s0 k unmapped) high (last k below (unfetched (run s0 k) live none));
    unjudged = λ k below refused. absurd (no_refusal k below refused.1);
  }
    where
      no_refusal : (k : ℕ) → k < n → (is_refusal (run s0 (suc k)).ending ≡ true) ⊎ IsFaulted (run s0 k) → ⊥
      no_refusal k below (inl is) =
          contrary (fine (suc k) (omega (arith, below))) is
        where
          contrary : is_refusal (run s0 (suc k)).ending ≡ false → is_refusal (run s0 (suc k)).ending ≡ true → ⊥
          contrary gone here = absurd (cc)
      no_refusal k below (inr fault) = granted.buffers k below fault

pub granted_is_untouched : GrantedIsUntouched
granted_is_untouched pages s0 n live unmapped high granted =
    unmapped_is_untouched pages s0 n live unmapped (none_refused s0 n granted pages unmapped high)
