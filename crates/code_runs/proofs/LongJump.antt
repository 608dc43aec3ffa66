-- A jump to any address, through a register that waits in the page meanwhile.
use Rattle.code_runs.proofs.Common.{◌≡◌, ℕ, ◌+◌, ◌-◌, ◌*◌, ◌/◌, ◌%◌, ◌^◌, ◌<◌, ◌≤◌, inr, Bool, false, Some, refl, ap, ◌∙◌, arith, List, ◌==◌, if◌then◌else◌, pos, wrapped, Memory, Region, code_of, State, register_of, with_register, sum_of, delayed, step_of, run, IsValid, any_of_word, word_span, of_page, CanStore, store_word, count_stores, one_if, stores_in_step, Hops, IsReady, StandIn, Is, IsAlike, WorksInTwo, pair}
use Rattle.v8_decode.specs.declared.Op2.TheVariants.{Imm}
use Rattle.v8_decode.specs.declared.Instr.TheVariants as i
use Rattle.v8_decode.specs.declared.LoadKind.TheVariants as loads
use Rattle.v8_step.proofs.ValidStates.{register_of-range}
use Rattle.code_runs.specs.LongJump.{IsFirstWord, LongJumpsHop, LongJumpsStore, long_jump}
use Rattle.code_runs.specs.Page.{page_word}
use Rattle.code_runs.proofs.Acts.{says_step, jump_acts}
use Rattle.code_runs.proofs.Counted.{stores_there}
use Rattle.code_runs.proofs.Hops.{hops_through}
use Rattle.code_runs.proofs.StoredWords.{word_stored, still_stored, can_load}
use Rattle.code_runs.proofs.Straight.{nth, says_at}
use Rattle.code_runs.proofs.Picked.{HasTwo, IsNext, both, first, goes_on, in_two, none_in_two, says_here, sethi, st_in, stores_next, two_registers, word}

module _ (to : ℕ) (s : State) (valid : IsValid s) (ready : IsReady s) (low : s.pc + 16 < 2 ^ 32 - 4)
    (can : CanStore s.memory (page_word 0)) (words : StandIn (code_of s.memory) s.pc (long_jump to))
    (short : to < 2 ^ 32) (aligned : to % 4 ≡ 0) where
  abbrev code : List Region
  code = code_of s.memory

  abbrev kept : Memory
  kept = store_word s.memory (page_word 0) (register_of s 1)

  block : HasTwo s 4 1 2
  block =
      two_registers s 4 1 2 valid ready (omega arith) (omega arith) (omega arith) (omega arith) (omega arith)
      (omega arith)

  at : (n : ℕ) → n < 4 → IsNext s 4 n (nth (long_jump to) n)
  at = word s 4 (long_jump to) words (omega arith)

  -- before the first word, behind it, and behind the second
  begun : WorksInTwo s 4 IsFirstWord 1 2 0 s.memory (register_of s 1) (register_of s 2)
  begun = none_in_two block

  stored : WorksInTwo s 4 IsFirstWord 1 2 1 kept (register_of s 1) (register_of s 2)
  stored =
      goes_on block begun (at 0 (omega arith))
      (st_in block 1 0 (of_page 0) (page_word 0) (register_of s 1) (λ u h. refl) refl can (λ u h. first h) refl)

  high : WorksInTwo s 4 IsFirstWord 1 2 2 kept (1024 * (to / 1024)) (register_of s 2)
  high =
      in_two (goes_on block stored (at 1 (omega arith))
      (sethi block 0 (to / 1024) (1024 * (to / 1024)) (omega arith)
      (let e : wrapped (1024 * (to / 1024)) ≡ 1024 * (to / 1024) = omega arith in e))) refl refl

  leads_there : (u : State) → IsAlike s (pair 1 2) 2 (Is kept) s.codes (pair (1024 * (to / 1024)) (register_of s 2)) u
      → sum_of u 1 (Imm (pos (to % 1024))) ≡ to
  leads_there u h =
      ap (λ z. wrapped (z + wrapped (to % 1024))) (first h)
      ∙ (let e : wrapped (1024 * (to / 1024) + wrapped (to % 1024)) ≡ to = omega arith in e)

  hop : Hops s 4 IsFirstWord to kept
  hop =
      hops_through block 0 to (Imm (pos (to % 1024))) (of_page 0) (page_word 0) high (omega arith)
      (both _ (λ ne. absurd (ne refl)) (λ ne. refl)) (omega arith) (omega arith) (ap (λ z. z == 0) aligned)
      (at 2 (omega arith)).1 (at 3 (omega arith)).1 leads_there (λ u. refl) refl
      (can_load kept (page_word 0) (still_stored s.memory (page_word 0) (page_word 0) (register_of s 1) can))
      (word_stored s.memory (page_word 0) (register_of s 1) (register_of-range s 1 valid) can)

  -- where the jump's slot is run
  jumped : run s 3 ≡ delayed (with_register high.after 0 high.after.pc) to
  jumped =
      ap step_of high.path.steps
      ∙ says_step high.after (i.Jmpl 0 1 (Imm (pos (to % 1024)))) high.alike.same.live
      (says_here block _ high (at 2 (omega arith)).1)
      ∙ jump_acts high.after 0 1 (Imm (pos (to % 1024))) to (high.slot (inr (omega arith)))
      (leads_there high.after high.alike)
      (ap (λ z. z == 0) aligned)

  stores_alone : (counted : ℕ → Bool) → any_of_word counted (page_word 0) ≡ false → count_stores counted s 4 ≡ 0
  stores_alone counted free =
      let none : one_if counted (Some (word_span (page_word 0))) ≡ 0 = ap (λ (b : Bool). if b then 1 else 0) free in
      let one : stores_in_step counted s ≤ one_if counted (Some (word_span (page_word 0))) =
      stores_next block counted _ begun (at 0 (omega arith)).1 in
      let two : stores_in_step counted (run s 1) ≤ 0 = stores_next block counted _ stored (at 1 (omega arith)).1 in
      let three : stores_in_step counted (run s 2) ≤ 0 = stores_next block counted _ high (at 2 (omega arith)).1 in
      let four : stores_in_step counted (run s 3) ≤ 0 =
      rw jumped (stores_there counted (delayed (with_register high.after 0 high.after.pc) to) code high.after.npc
      (i.Load loads.LD 1 0 (of_page 0)) high.alike.same.live high.code refl
      (let e = high.npc in says_at code _ _ _ (omega arith) (at 3 (omega arith)).1)) in
      omega (arith, none, one, two, three, four)

pub long_jumps_hop : LongJumpsHop
long_jumps_hop = hop

pub long_jumps_store : LongJumpsStore
long_jumps_store = stores_alone
