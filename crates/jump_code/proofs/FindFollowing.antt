-- The image of a JMPL that looks its target up follows the original's step.
use Rattle.jump_code.proofs.Common.{◌≡◌, ℕ, ◌+◌, ◌%◌, inl, inr, Some, None, length, refl, ap, sym, ◌∙◌, subst, arith, pos, Op2, Imm, Memory, code_of, wrapped, NoSlot, State, register_of, with_register, sum_of, delayed, Leads, IsBetween, page_word, of_page, store_word, Stores, moved, WorksInTwo, hops_through, both, equal_or_not, first, goes_on, none_in_two, two_registers, word, nth_says, can_load, memory_word-range, still_stored, word_stored, register_of-range, TableAt, found_in, ComesFound, EndsFinding, LookUpSimulates, ResumeHops, IsAboutToFind, translate_target, found_memory, jump_translated, jumped, past, IsPageWord, found_there}
use Rattle.v8_step.specs.declared.Ending.{Ending}
use Rattle.jump_code.proofs.Blocks.{four, word7}
use Rattle.jump_code.proofs.Finding.{another, looks_up}
use Rattle.jump_code.proofs.Jumping.{jump_aligned, jump_goes, jump_stops}
use Rattle.jump_code.proofs.Swaps.{swap}

module _ (x y rd rs1 : ℕ) (op2 : Op2) (address : ℕ) (t : TableAt) (s : State)
    (h : IsAboutToFind x y rd rs1 op2 address t s) where
  abbrev gone_on : State
  gone_on =
      delayed (with_register (moved address (wrapped (address + 4)) NoSlot s) rd address) (sum_of s rs1 op2)

  pub goes : sum_of s rs1 op2 % 4 ≡ 0 → jumped address rd rs1 op2 s ≡ gone_on
  goes e = jump_goes address rd rs1 op2 s e

  abbrev count : ℕ
  count = length (translate_target x y rd rs1 op2 t.base address)

  abbrev m : Memory
  m = found_memory s x y rs1 op2 t

  comes : sum_of s rs1 op2 % 4 ≡ 0 → ComesFound x y rd rs1 op2 address t s count
  comes e =
      let k = (looks_up x y rd rs1 op2 address t s h).0 e in
      let g = goes e in
      record {
        path = subst (λ (z : State). Leads (IsBetween s count IsPageWord) s (past s count m z) count) (sym g) k.path;
        silent = k.silent;
        stores = subst (λ (z : Memory). Stores IsPageWord z m) (ap (λ (z : State). z.memory) (sym g)) k.stores;
        waits = k.target ∙ ap (λ (z : State). z.npc) (sym g);
        found = k.found ∙ ap (λ (z : State). found_in t z.npc) (sym g);
      }

  going : (jumped address rd rs1 op2 s).ending ≡ None → ComesFound x y rd rs1 op2 address t s count
  going live = comes (jump_aligned address rd rs1 op2 s live)

  ending_alike : (ending : Ending) → (jumped address rd rs1 op2 s).ending ≡ Some ending → EndsFinding x y s ending
  ending_alike ending is = elim (equal_or_not (sum_of s rs1 op2 % 4) 0) [
    | inl e ↦
        let lives : None ≡ Some ending = sym (ap (λ (z : State). z.ending) (goes e) ∙ h.ready.live) ∙ is in
        absurd (cc)
    | inr ne ↦
        let k = (looks_up x y rd rs1 op2 address t s h).1 ne in
        record { traps = k; same = k.ending ∙ sym (ap (λ (z : State). z.ending) (jump_stops address rd rs1 op2 s ne)) ∙ is }
  ]

pub look_up_simulates : LookUpSimulates
look_up_simulates x y rd rs1 op2 address t s h =
    (going x y rd rs1 op2 address t s h, ending_alike x y rd rs1 op2 address t s h)

pub resume_hops : ResumeHops
resume_hops x s h =
    let o = another x in
    let g = register_of s x in
    let to = found_there s in
    let m = store_word s.memory (page_word 7) (register_of s x) in
    let r = memory_word-range s.memory (page_word 7) h.valid.memory in
    let c = two_registers s 3 x o.0 h.valid h.ready h.low h.some h.below o.1 o.2 o.3 in
    let p7 = h.page 7 (omega arith) in
    let w0 : WorksInTwo s 3 IsPageWord x o.0 0 s.memory g (register_of s o.0) = none_in_two c in
    let w1 = goes_on c w0 (word s 3 (jump_translated x) h.words (omega arith) 0 (omega arith))
    (swap c 0 0 (of_page 7) (page_word 7) (found_there s) (omega arith) (λ u k. refl) refl p7 refl word7) in
    hops_through c 0 (found_there s) (Imm (pos 0)) (of_page 7) (page_word 7) w1 (omega arith)
    (both _ (λ ne. absurd (ne refl)) (λ _. refl)) (omega arith) (omega arith) (four (found_there s) h.aligned)
    (nth_says (code_of s.memory) s.pc (jump_translated x) 1 h.words (omega arith)) (nth_says (code_of s.memory) s.pc (jump_translated x) 2 h.words (omega arith))
    (λ u k. ap (λ z. wrapped (z + 0)) (first k) ∙ (let e : wrapped (to + 0) ≡ to = omega (arith, r) in e)) (λ u. refl) refl
    (can_load m (page_word 7) (still_stored s.memory (page_word 7) (page_word 7) g p7))
    (word_stored s.memory (page_word 7) g (register_of-range s x h.valid) p7)
