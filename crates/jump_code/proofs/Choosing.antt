-- The words of a switch's JMPL, one by one, and beside the original's step.
use Rattle.jump_code.proofs.Common.{◌≡◌, ℕ, zero, suc, ◌+◌, ◌-◌, ◌*◌, ◌^◌, ◌<◌, inl, None, refl, ap, sym, ◌∙◌, subst, arith, pos, Op2, Reg, Imm, wrapped, Memory, code_of, State, register_of, with_register, IsValid, register_of-range, run-valid, Leads, IsBetween, IsSilent, page_word, of_page, store_word, CanStore, Stores, memory_word, WorksInTwo, Says, StandIn, hops_through, works_state, leads_then, leads_weaker, silent_then, HasTwo, IsNext, both, first, goes_on, in_two, ld_in, none_in_two, second, st_in, two_registers, word, nth, says_at, word_stored, other_word_stored, other_loaded, loads_stored, still_stored, can_load, whole_of, stores_none, CanLoad, ChoicesHop, ChoicesSimulate, ComesToCase, IsAboutToGo, choice_at, jump_by_case, chosen, chosen_memory, jumped, IsPageWord, saved_address, past}
use Rattle.code_runs.specs.Hops.{Hops, hopped}
use Rattle.jump_code.proofs.Blocks.{four, addressed, memory_valid, word2, word7}
use Rattle.jump_code.proofs.Finding.{another}
use Rattle.jump_code.proofs.Jumping.{jump_aligned, jump_goes}
pub use Rattle.jump_code.proofs.Words.{returns}

module _ (distance : ℕ) (s : State) (h : IsAboutToGo distance s) where
  abbrev g1 : ℕ
  g1 = register_of s 1

  abbrev g2 : ℕ
  g2 = register_of s 2

  abbrev m1 : Memory
  m1 = store_word s.memory (page_word 2) (register_of s 1)

  abbrev m2 : Memory
  m2 = chosen_memory s

  -- a word of the page, after each store
  can1 : (n : ℕ) → n < 8 → CanStore m1 (page_word n)
  can1 n few = still_stored s.memory (page_word n) (page_word 2) g1 (h.page n few)

  can2 : (n : ℕ) → n < 8 → CanStore m2 (page_word n)
  can2 n few = still_stored m1 (page_word n) (page_word 7) g2 (can1 n few)

  kept_stays : memory_word m2 (page_word 0) ≡ saved_address s
  kept_stays =
      other_word_stored m1 (page_word 0) (page_word 7) g2 (can1 0 (omega arith)) (inl (omega arith))
      ∙ other_word_stored s.memory (page_word 0) (page_word 2) g1 (h.page 0 (omega arith)) (inl (omega arith))

  first_waits : memory_word m2 (page_word 2) ≡ g1
  first_waits =
      other_word_stored m1 (page_word 2) (page_word 7) g2 (can1 2 (omega arith)) (inl (omega arith))
      ∙ word_stored s.memory (page_word 2) g1 (register_of-range s 1 h.valid) (h.page 2 (omega arith))

  second_waits : memory_word m2 (page_word 7) ≡ g2
  second_waits = word_stored m1 (page_word 7) g2 (register_of-range s 2 h.valid) (can1 7 (omega arith))

  block : HasTwo s 9 1 2
  block = two_registers s 9 1 2 h.valid h.ready h.low (omega arith) (omega arith) (omega arith) (omega arith) (omega arith)

  at : (n : ℕ) → n < 9 → IsNext s 9 n (nth (jump_by_case distance) n)
  at = word s 9 (jump_by_case distance) h.words (omega arith)

  begun : WorksInTwo s 9 IsPageWord 1 2 0 s.memory g1 g2
  begun = none_in_two block

  one : WorksInTwo s 9 IsPageWord 1 2 1 m1 g1 g2
  one =
      goes_on block begun (at 0 (omega arith))
      (st_in block 1 0 (of_page 2) (page_word 2) g1 (λ u k. refl) refl (h.page 2 (omega arith)) (λ u k. first k) word2)

  two : WorksInTwo s 9 IsPageWord 1 2 2 m2 g1 g2
  two =
      goes_on block one (at 1 (omega arith))
      (st_in block 2 0 (of_page 7) (page_word 7) g2 (λ u k. refl) refl (can1 7 (omega arith)) (λ u k. second k) word7)

  three : WorksInTwo s 9 IsPageWord 1 2 3 m2 (saved_address s) g2
  three =
      in_two (goes_on block two (at 2 (omega arith))
      (ld_in block 0 0 (of_page 0) (page_word 0) (saved_address s) (omega arith) (λ u k. refl) refl
      (can_load m2 (page_word 0) (can2 0 (omega arith))) kept_stays)) refl refl

  five : WorksInTwo s 9 IsPageWord 1 2 5 m2 (saved_address s) distance
  five =
      addressed block distance three h.near (omega arith) ((at 3 (omega arith)).1, (at_four, tt))
    where
      at_four : Says (code_of s.memory) (s.pc + 4 * 3 + 4) (nth (jump_by_case distance) 4)
      at_four = says_at (code_of s.memory) _ _ _ (omega arith) (at 4 (omega arith)).1

  -- the word of the choice is none of the page's
  choice_loads1 : CanLoad m1 (choice_at distance s)
  choice_loads1 = loads_stored s.memory (choice_at distance s) (page_word 2) g1 h.choice.loads

  choice_stays : memory_word m2 (choice_at distance s) ≡ chosen distance s
  choice_stays =
      let there = choice_at distance s in
      let below = h.choice.below in
      let k0 = h.choice.loads in
      let k1 = choice_loads1 in
      let v1 = memory_valid h.valid one in
      other_loaded m1 there (page_word 7) g2 k1 (whole_of m1 there k1.region v1 k1.at) (inl (omega (arith, below)))
      ∙ other_loaded s.memory there (page_word 2) g1 k0 (whole_of s.memory there k0.region h.valid.memory k0.at)
      (inl (omega (arith, below)))

  six : WorksInTwo s 9 IsPageWord 1 2 6 m2 (chosen distance s) distance
  six =
      in_two (goes_on block five (at 5 (omega arith))
      (ld_in block 0 1 (Reg 2) (choice_at distance s) (chosen distance s) (omega arith)
      (λ u k. ap (λ z. wrapped (z + register_of u 2)) (first k) ∙ ap (λ z. wrapped (saved_address s + z)) (second k))
      (four (choice_at distance s) h.choice.aligned)
      (loads_stored m1 (choice_at distance s) (page_word 7) g2 choice_loads1) choice_stays)) refl refl

  seven : WorksInTwo s 9 IsPageWord 1 2 7 m2 (chosen distance s) g2
  seven =
      in_two (goes_on block six (at 6 (omega arith))
      (ld_in block 1 0 (of_page 7) (page_word 7) g2 (omega arith) (λ u k. refl) refl
      (can_load m2 (page_word 7) (can2 7 (omega arith))) second_waits)) refl refl

  hops : Hops s 9 IsPageWord (chosen distance s) m2
  hops =
      let to = chosen distance s in
      let small : to < 2 ^ 32 =
      rw (first seven.alike) at (register_of-range seven.after 1 (subst IsValid seven.path.steps (run-valid s 7 h.valid))) in
      hops_through block 0 to (Imm (pos 0)) (of_page 2) (page_word 2) seven (omega arith)
      (both _ (λ ne. absurd (ne refl)) (λ _. refl)) (omega arith) (omega arith) (four to h.choice.target)
      (at 7 (omega arith)).1 (at 8 (omega arith)).1
      (λ u k. ap (λ z. wrapped (z + 0)) (first k) ∙ (let e : wrapped (to + 0) ≡ to = omega (arith, small) in e))
      (λ u. refl) refl (can_load m2 (page_word 2) (can2 2 (omega arith))) first_waits

pub choices_hop : ChoicesHop
choices_hop = hops

-- ---- against the original's step

-- what the link leaves is the original after its JMPL, but for the place
comes : (rd rs1 : ℕ) (op2 : Op2) (address distance count : ℕ) (s : State) (m : Memory)
    → (jumped address rd rs1 op2 s).ending ≡ None
    → Leads (IsBetween s count IsPageWord) s (hopped (with_register s rd address) (chosen distance s) m) count
    → IsSilent s count → Stores IsPageWord s.memory m
    → ComesToCase distance s (jumped address rd rs1 op2 s) count
comes rd rs1 op2 address distance count s m live path silent stores =
    let goes = jump_goes address rd rs1 op2 s (jump_aligned address rd rs1 op2 s live) in
    record {
      memory = m;
      path = subst (λ (z : State). Leads (IsBetween s count IsPageWord) s z count)
          (ap (λ (z : State). hopped z (chosen distance s) m) (sym goes)) path;
      silent = silent;
      stores = stores;
      same = ap (λ (z : State). z.memory) goes;
    }

pub choices_simulate : ChoicesSimulate
choices_simulate zero rs1 op2 address distance s h live =
    let low : s.pc + 4 * 9 < 2 ^ 32 - 4 = omega (arith, h.low) in
    let hop = choices_hop distance s assumption in
    comes zero rs1 op2 address distance 9 s (chosen_memory s) live hop.path hop.silent hop.stores
choices_simulate (suc r) rs1 op2 address distance s h live =
    let low = h.low in
    let o = another (suc r) in
    let c = two_registers s 11 o.0 (suc r) h.valid h.ready (omega arith) o.1 o.2 (omega arith) h.register
    (λ e. o.3 (sym e)) in
    let w = addressed c address (none_in_two c) h.short (omega arith) (
      says_at (code_of s.memory) _ _ _ (omega arith) h.words.0,
      (says_at (code_of s.memory) _ _ _ (omega arith) h.words.1.0, tt),
    ) in
    let linked : State = past s 2 s.memory (with_register s (suc r) address) in
    let path : Leads (IsBetween s 11 IsPageWord) s linked 2 =
    rw (works_state c 1 address (omega arith) w (both _ refl refl) (omega arith)) at w.path in
    let hop : Hops linked 9 IsPageWord (chosen distance s) (chosen_memory linked) =
    choices_hop distance linked (record {
      valid = subst IsValid path.steps (run-valid s 2 h.valid);
      ready = record { live = h.ready.live; npc = refl };
      low = omega arith;
      words = subst (λ z. StandIn (code_of s.memory) z (jump_by_case distance))
          (let e : s.pc + 4 + 4 ≡ s.pc + 4 * 2 = omega arith in e) h.words.1.1;
      near = h.near;
      page = h.page;
      choice = assumption;
    }) in
    comes (suc r) rs1 op2 address distance 11 s (chosen_memory linked) live
    (leads_then (IsBetween s 11 IsPageWord) s linked _ 2 9 path
    (leads_weaker (IsBetween linked 9 IsPageWord) (IsBetween s 11 IsPageWord) linked _ 9
    (λ u z. let a1 = z.past in let a2 = z.before in record { past = omega arith; before = omega arith; stores = z.stores })
    hop.path)
    (λ _ _. record { past = omega arith; before = omega arith; stores = stores_none IsPageWord s.memory }))
    (silent_then s linked 2 9 path.steps w.silent hop.silent) hop.stores
