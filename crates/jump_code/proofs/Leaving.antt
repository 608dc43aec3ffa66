-- The foreign piece, and long jumps out of the text.
use Rattle.jump_code.proofs.Common.{◌≡◌, ◌+◌, ◌^◌, ◌<◌, inl, refl, ap, ◌∙◌, arith, pos, Imm, wrapped, Memory, code_of, register_of, register_of-range, IsFirstWord, page_word, of_page, store_word, Stores, memory_word, IsBetween, WorksInTwo, hops_through, leads_weaker, word_stored, other_word_stored, still_stored, can_load, memory_word-range, both, first, goes_on, ld_in, none_in_two, st_in, two_registers, word, stores_none, stores_then, nth_says, ForeignLeaves, FarGoes, foreign, IsPageWord, waiting}
use Rattle.code_runs.proofs.LongJump.{long_jumps_hop}
use Rattle.jump_code.proofs.Blocks.{four, word2}

pub foreign_leaves : ForeignLeaves
foreign_leaves s h =
    let g1 = register_of s 1 in
    let x = waiting s in
    let m = store_word s.memory (page_word 2) g1 in
    let c = two_registers s 4 1 2 h.valid h.ready h.low (omega arith) (omega arith) (omega arith) (omega arith)
    (omega arith) in
    let p1 = h.page 1 (omega arith) in
    let p2 = h.page 2 (omega arith) in
    let r : x < 2 ^ 32 = memory_word-range s.memory (page_word 1) h.valid.memory in
    let w0 : WorksInTwo s 4 IsPageWord 1 2 0 s.memory g1 (register_of s 2) = none_in_two c in
    let w1 : WorksInTwo s 4 IsPageWord 1 2 1 m g1 (register_of s 2) = goes_on c w0 (word s 4 foreign h.words (omega arith) 0 (omega arith))
    (st_in c 1 0 (of_page 2) (page_word 2) g1 (λ u k. refl) refl p2 (λ u k. first k) word2) in
    let keeps : memory_word m (page_word 1) ≡ x =
    other_word_stored s.memory (page_word 1) (page_word 2) g1 p1 (inl (omega arith)) in
    let w2 = goes_on c w1 (word s 4 foreign h.words (omega arith) 1 (omega arith))
    (ld_in c 0 0 (of_page 1) (page_word 1) x (omega arith) (λ u k. refl) refl
    (can_load m (page_word 1) (still_stored s.memory (page_word 1) (page_word 2) g1 p1)) keeps) in
    hops_through c 0 x (Imm (pos 0)) (of_page 2) (page_word 2) w2 (omega arith)
    (both _ (λ ne. absurd (ne refl)) (λ _. refl)) (omega arith) (omega arith) (four x h.aligned)
    (nth_says (code_of s.memory) s.pc foreign 2 h.words (omega arith)) (nth_says (code_of s.memory) s.pc foreign 3 h.words (omega arith))
    (λ u k. ap (λ z. wrapped (z + 0)) (first k) ∙ (let e : wrapped (x + 0) ≡ x = omega arith in e)) (λ u. refl) refl
    (can_load m (page_word 2) (still_stored s.memory (page_word 2) (page_word 2) g1 p2))
    (word_stored s.memory (page_word 2) g1 (register_of-range s 1 h.valid) p2)

pub far_goes : FarGoes
far_goes to s h =
    let low = h.low in
    let k = long_jumps_hop to s h.valid h.ready (omega arith) (h.page 0 (omega arith)) h.words h.short h.aligned in
    let more = λ (m : Memory) (z : Stores IsFirstWord s.memory m).
    stores_then IsFirstWord IsPageWord s.memory s.memory m (λ z e. inl e) (stores_none IsPageWord s.memory) z in
    record {
      path = leads_weaker (IsBetween s 4 IsFirstWord) (IsBetween s 4 IsPageWord) s _ 4
          (λ u z. record { past = z.past; before = z.before; stores = more u.memory z.stores }) k.path;
      silent = k.silent;
      stores = more _ k.stores;
    }
