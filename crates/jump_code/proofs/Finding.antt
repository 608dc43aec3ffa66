-- The words of a JMPL that looks its target up, one by one.
use Rattle.jump_code.proofs.Common.{◌≡◌, ◌≢◌, ℕ, zero, suc, ◌+◌, ◌-◌, ◌*◌, ◌/◌, ◌%◌, ◌^◌, ◌<◌, ◌≤◌, inl, inr, false, Ok, length, refl, ap, sym, ◌∙◌, subst, arith, ◌==◌, pos, Op2, Reg, Imm, alu_of, wrapped, Memory, code_of, NoSlot, State, register_of, operand_of, with_register, sum_of, step_of, mem_address_not_aligned, trapped, IsValid, IsValidMemory, register_of-range, wrapped_range, run-valid, Leads, IsBetween, IsSilent, page_word, of_page, store_word, CanStore, Stores, memory_word, Says, StandIn, Is, IsAlike, WorksInTwo, pair, says_step, works_state, works_same, leads_then, leads_weaker, silent_then, Gives, HasTwo, alu, both, equal_or_not, first, goes_on, in_two, ld_in, none_in_two, second, sethi, st_in, two_registers, nth, nth_says, word_stored, other_loaded, other_word_stored, loads_stored, still_stored, can_load, whole_of, memory_word-range, stores_then, TableAt, found_in, IsReady, says_puts, ld_traps, leads_one, silent_one, says_here, unpicked_is, table_word, IsTwoLevel, entry_at, half_at, LooksUp, FindsIt, IsAboutToFind, TrapsFinding, translate_target, found_memory, sought_memory, IsNotIn, address_into, past, IsPageWord}
use Rattle.v8_decode.specs.declared.AluOp.TheVariants as ops
use Rattle.v8_decode.specs.declared.Instr.TheVariants as i
use Rattle.v8_decode.specs.declared.LoadKind.TheVariants as loads
use Rattle.addr_translate.specs.Translator.{StandsAt}
use Rattle.jump_code.proofs.Blocks.{four, not_four, gives_sum, addressed, memory_valid, word1, word2, word7}
use Rattle.jump_code.proofs.Swaps.{swap}

-- the table stays where a word elsewhere is stored
stands_stored : (m : Memory) (t : TableAt) (b v : ℕ) → StandsAt m t → IsValidMemory m
    → t.base + length t.bytes ≤ 2 ^ 31 → 2 ^ 31 ≤ b → StandsAt (store_word m b v) t
stands_stored m t b v h valid below above = record {
  readable = λ z g e f. loads_stored m z b v (h.readable z g e f);
  same = λ z g e f.
      let k = h.readable z g e f in
      other_loaded m z b v k (whole_of m z k.region valid k.at) (inl (omega arith)) ∙ h.same z g e f;
}

gives_right : (u : State) (x t : ℕ) → register_of u x ≡ t → Gives ops.SRL x (Imm (pos 16)) (t / 2 ^ 16) u
unfolding alu_of
gives_right u x t e = ap (λ z. Ok (record { value = z / 2 ^ 16; codes = u.codes; y = u.y })) e

gives_left : (u : State) (x t : ℕ) → register_of u x ≡ t → t < 2 ^ 16 → Gives ops.SLL x (Imm (pos 2)) (4 * t) u
unfolding alu_of
gives_left u x t e low =
    let f : wrapped (t * 2 ^ 2) ≡ 4 * t = omega arith in rw (e, f)

-- what the word of a high half says of a target's low two bits
same_low : (k a : ℕ) → wrapped (k + (a - a % 4)) % 4 ≡ 0 → wrapped (k + a) % 4 ≡ a % 4
same_low k a e = omega arith

half_same : (a : ℕ) → (a - a % 4) / 2 ^ 16 ≡ a / 2 ^ 16
half_same a = omega arith

-- where the entry for an address stands is misaligned where the address is
pub entry_low : (t : TableAt) (a : ℕ) → IsTwoLevel t → a < 2 ^ 32 → entry_at t a % 4 ≡ a % 4
entry_low t a h low =
    let k = h.entries (a - a % 4) (omega arith) (omega arith) in
    same_low (table_word t (half_at t a)) a
    (ap (λ z. wrapped (table_word t (t.base + 4 * z) + (a - a % 4)) % 4) (sym (half_same a)) ∙ k.aligned)

-- the second register of a block: any other
pub another : (x : ℕ) → (b : ℕ) × (0 < b) × (b < 32) × (x ≢ b)
another x = elim (equal_or_not x 1) [
  | inl e ↦ (2, omega arith, omega arith, omega arith)
  | inr n ↦ (1, omega arith, omega arith, n)
]

module _ (x y rd rs1 : ℕ) (op2 : Op2) (address : ℕ) (t : TableAt) (s : State)
    (h : IsAboutToFind x y rd rs1 op2 address t s) where
  abbrev target : ℕ
  target = sum_of s rs1 op2

  abbrev gx : ℕ
  gx = register_of s x

  abbrev gy : ℕ
  gy = register_of s y

  abbrev m1 : Memory
  m1 = store_word s.memory (page_word 7) (register_of s x)

  abbrev m2 : Memory
  m2 = store_word m1 (page_word 2) (register_of s y)

  abbrev m3 : Memory
  m3 = sought_memory s x y rs1 op2

  abbrev m4 : Memory
  m4 = found_memory s x y rs1 op2 t

  abbrev half : ℕ
  half = table_word t (half_at t (sum_of s rs1 op2))

  low_target : sum_of s rs1 op2 < 2 ^ 32
  low_target = wrapped_range (register_of s rs1 + operand_of s op2)

  -- a word of the page, after each store
  can1 : (n : ℕ) → n < 8 → CanStore m1 (page_word n)
  can1 n few = still_stored s.memory (page_word n) (page_word 7) gx (h.page n few)

  can2 : (n : ℕ) → n < 8 → CanStore m2 (page_word n)
  can2 n few = still_stored m1 (page_word n) (page_word 2) gy (can1 n few)

  can3 : (n : ℕ) → n < 8 → CanStore m3 (page_word n)
  can3 n few = still_stored m2 (page_word n) (page_word 1) target (can2 n few)

  can4 : (n : ℕ) → n < 8 → CanStore m4 (page_word n)
  can4 n few = still_stored m3 (page_word n) (page_word 7) (found_in t target) (can3 n few)

  -- the words before the link
  at : (n : ℕ) → n < 12 → Says (code_of s.memory) (s.pc + 4 * n) (nth (translate_target x y rd rs1 op2 t.base address) n)
  at n few =
      nth_says (code_of s.memory) s.pc (translate_target x y rd rs1 op2 t.base address) n h.words (omega arith)

  module _ {count : ℕ} (c : HasTwo s count x y) (many : 10 ≤ count) where
    -- the target, as long as only x and y have changed
    sum_is : {m : Memory} {f : ℕ → ℕ} (u : State) → IsAlike s (pair x y) 2 (Is m) s.codes f u → (o : Op2)
        → IsNotIn x o → IsNotIn y o → sum_of u rs1 o ≡ sum_of s rs1 o
    sum_is u k (Reg r) apart other =
        rw (
          unpicked_is c u rs1 k h.apart.rs1_below (both _ h.apart.rs1_not h.other.rs1_not),
          unpicked_is c u r k apart.0 (both _ apart.1 other.1),
        )
    sum_is u k (Imm n) apart other =
        rw (unpicked_is c u rs1 k h.apart.rs1_below (both _ h.apart.rs1_not h.other.rs1_not))

    begun : WorksInTwo s count IsPageWord x y 0 s.memory gx gy
    begun = none_in_two c

    one : WorksInTwo s count IsPageWord x y 1 m1 gx gy
    one =
        goes_on c begun (omega arith, at 0 (omega arith))
        (st_in c x 0 (of_page 7) (page_word 7) gx (λ u k. refl) refl (h.page 7 (omega arith)) (λ u k. first k) word7)

    two : WorksInTwo s count IsPageWord x y 2 m2 gx gy
    two =
        goes_on c one (omega arith, at 1 (omega arith))
        (st_in c y 0 (of_page 2) (page_word 2) gy (λ u k. refl) refl (can1 2 (omega arith)) (λ u k. second k) word2)

    kept_one : WorksInTwo s count IsPageWord x y 4 m3 target gy
    kept_one =
        let w3 = goes_on c two (omega arith, at 2 (omega arith))
        (alu c 0 ops.ADD rs1 op2 target (omega arith)
        (λ u k. gives_sum u rs1 op2 target (sum_is u k op2 h.apart.op2_not h.other.op2_not))) in
        in_two (goes_on c w3 (omega arith, at 3 (omega arith))
        (st_in c x 0 (of_page 1) (page_word 1) target (λ u k. refl) refl (can2 1 (omega arith)) (λ u k. first k) word1))
        refl refl

    -- the table stands there
    stands : StandsAt m3 t
    stands =
        let above = h.table.below in
        stands_stored m2 t (page_word 1) target
        (stands_stored m1 t (page_word 2) gy
        (stands_stored s.memory t (page_word 7) gx h.stands h.valid.memory above (omega arith))
        (memory_valid h.valid one) above (omega arith))
        (memory_valid h.valid two) above (omega arith)

    half_there : t.base + 4 * (target / 2 ^ 16) + 4 ≤ t.base + length t.bytes
    half_there = let first = h.table.first in let low = low_target in omega arith

    half_aligned : (t.base + 4 * (target / 2 ^ 16)) % 4 ≡ 0
    half_aligned = let e = h.table.aligned in omega arith

    -- x has the target, and y the word for its high half
    sought : WorksInTwo s count IsPageWord x y 9 m3 target half
    sought =
        let low = low_target in
        let limit = h.table.below in
        let from = h.table.first in
        let base_aligned = h.table.aligned in
        let w4 = kept_one in
        let w5 = goes_on c w4 (omega arith, at 4 (omega arith))
        (alu c 1 ops.SRL x (Imm (pos 16)) (target / 2 ^ 16) (omega arith)
        (λ u k. gives_right u x target (first k))) in
        let w6 = goes_on c w5 (omega arith, at 5 (omega arith))
        (alu c 1 ops.SLL y (Imm (pos 2)) (4 * (target / 2 ^ 16)) (omega arith)
        (λ u k. gives_left u y (target / 2 ^ 16) (second k) (omega arith))) in
        let w7 = goes_on c w6 (omega arith, at 6 (omega arith))
        (sethi c 0 (t.base / 1024) t.base (omega arith)
        (let e : wrapped (1024 * (t.base / 1024)) ≡ t.base = omega arith in e)) in
        let w8 = goes_on c w7 (omega arith, at 7 (omega arith))
        (ld_in c 1 x (Reg y) (t.base + 4 * (target / 2 ^ 16)) half (omega arith)
        (λ u k. ap (λ z. wrapped (z + register_of u y)) (first k) ∙ ap (λ z. wrapped (t.base + z)) (second k)
        ∙ (let e : wrapped (t.base + 4 * (target / 2 ^ 16)) ≡ t.base + 4 * (target / 2 ^ 16) = omega arith in e))
        (four (t.base + 4 * (target / 2 ^ 16)) half_aligned)
        (stands.readable (t.base + 4 * (target / 2 ^ 16)) (omega arith) half_there half_aligned)
        (stands.same (t.base + 4 * (target / 2 ^ 16)) (omega arith) half_there half_aligned)) in
        in_two (goes_on c w8 (omega arith, at 8 (omega arith))
        (alu c 0 ops.ADD rs1 op2 target (omega arith)
        (λ u k. gives_sum u rs1 op2 target (sum_is u k op2 h.apart.op2_not h.other.op2_not)))) refl refl

    -- where they lead, the entry's address
    entry_sum : (u : State) → IsAlike s (pair x y) 2 (Is m3) s.codes (pair target half) u
        → sum_of u y (Reg x) ≡ entry_at t target
    entry_sum u k = ap (λ z. wrapped (z + register_of u x)) (second k) ∙ ap (λ z. wrapped (half + z)) (first k)

    -- the load of a misaligned target ends the run
    traps : target % 4 ≢ 0 → 10 ≡ count → TrapsFinding s x y
    traps odd ten =
        let w = sought in
        let k = w.alike in
        let p = w.pc in
        let load = i.Load loads.LD x y (Reg x) in
        let here = says_here c load w (at 9 (omega arith)) in
        let low = entry_low t target h.table low_target in
        let not_aligned : (sum_of w.after y (Reg x) % 4 == 0) ≡ false =
        ap (λ z. z % 4 == 0) (entry_sum w.after k) ∙ not_four (entry_at t target) (λ e. odd (sym low ∙ e)) in
        let end : step_of w.after ≡ trapped w.after mem_address_not_aligned =
        says_step w.after load k.same.live here ∙ ld_traps w.after x y (Reg x) not_aligned in
        let room = c.low in
        record {
          after = trapped w.after mem_address_not_aligned;
          path = leads_then (IsBetween s 10 IsPageWord) s w.after _ 9 1
              (subst (λ z. Leads (IsBetween s z IsPageWord) s w.after 9) (sym ten) w.path) (leads_one _ w.after _ end)
              (λ _ _. record { past = omega arith; before = omega arith; stores = w.stores });
          live = ap (λ (z : State). z.ending) w.path.steps ∙ k.same.live;
          silent = silent_then s w.after 9 1 w.path.steps w.silent
              (silent_one w.after (says_puts w.after load (λ cond r o e. cc) here));
          ending = refl;
          pc = p;
          window = k.same.window;
          valid = k.same.valid;
          codes = k.codes_are;
          y_register = k.same.y_register;
          registers = k.held.count ∙ sym c.registers;
          others = λ q na nb. k.held.others q (both _ na nb);
          input = k.same.input;
          stores = w.stores;
        }

  -- what the page has then
  kept_y : memory_word m4 (page_word 2) ≡ gy
  kept_y =
      other_word_stored m3 (page_word 2) (page_word 7) (found_in t target) (can3 2 (omega arith)) (inl (omega arith))
      ∙ other_word_stored m2 (page_word 2) (page_word 1) target (can2 2 (omega arith)) (inr (omega arith))
      ∙ word_stored m1 (page_word 2) gy (register_of-range s y h.valid) (can1 2 (omega arith))

  -- register x, until it is exchanged
  kept_x : memory_word m3 (page_word 7) ≡ gx
  kept_x =
      other_word_stored m2 (page_word 7) (page_word 1) target (can2 7 (omega arith)) (inr (omega arith))
      ∙ other_word_stored m1 (page_word 7) (page_word 2) gy (can1 7 (omega arith)) (inr (omega arith))
      ∙ word_stored s.memory (page_word 7) gx (register_of-range s x h.valid) (h.page 7 (omega arith))

  kept_target : memory_word m4 (page_word 1) ≡ target
  kept_target =
      other_word_stored m3 (page_word 1) (page_word 7) (found_in t target) (can3 1 (omega arith)) (inl (omega arith))
      ∙ word_stored m2 (page_word 1) target low_target (can2 1 (omega arith))

  kept_found : target % 4 ≡ 0 → memory_word m4 (page_word 7) ≡ found_in t target
  kept_found aligned =
      let e = h.table.entries target low_target aligned in
      word_stored m3 (page_word 7) (found_in t target)
      (subst (λ z. z < 2 ^ 32) (h.stands.same (entry_at t target) e.from e.to e.aligned)
      (memory_word-range s.memory (entry_at t target) h.valid.memory)) (can3 7 (omega arith))

  -- both registers are as they were, where the target is aligned
  restored : {count : ℕ} (c : HasTwo s count x y) → 12 ≤ count → target % 4 ≡ 0
      → WorksInTwo s count IsPageWord x y 12 m4 gx gy
  restored {count} c room aligned =
      let many : 10 ≤ count = omega arith in
      let st = stands c many in
      let found = found_in t target in
      let entry = h.table.entries target low_target aligned in
      let w9 = sought c many in
      let w10 = goes_on c w9 (omega arith, at 9 (omega arith))
      (ld_in c 0 y (Reg x) (entry_at t target) found (omega arith) (entry_sum c many)
      (four (entry_at t target) entry.aligned) (st.readable (entry_at t target) entry.from entry.to entry.aligned)
      (st.same (entry_at t target) entry.from entry.to entry.aligned)) in
      let w11 = goes_on c w10 (omega arith, at 10 (omega arith))
      (swap c 0 0 (of_page 7) (page_word 7) gx (omega arith) (λ u k. refl) refl (can3 7 (omega arith)) kept_x word7) in
      in_two (goes_on c w11 (omega arith, at 11 (omega arith))
      (ld_in c 1 0 (of_page 2) (page_word 2) gy (omega arith) (λ u k. refl) refl
      (can_load m4 (page_word 2) (can4 2 (omega arith))) kept_y)) refl refl

-- the link, in a block of its own
linked : (r address : ℕ) (u : State) → IsValid u → IsReady u → u.pc + 4 * 2 < 2 ^ 32 - 4 → suc r < 32
    → address < 2 ^ 32 → StandIn (code_of u.memory) (u.pc + 4 * 0) (address_into (suc r) address)
    → Leads (IsBetween u 2 IsPageWord) u (past u 2 u.memory (with_register u (suc r) address)) 2 × IsSilent u 2
linked r address u valid ready low below short stand =
    let o = another (suc r) in
    let c = two_registers u 2 o.0 (suc r) valid ready low o.1 o.2 (omega arith) below (λ e. o.3 (sym e)) in
    let w = addressed c address (none_in_two c) short (omega arith) stand in (
      rw (works_state c 1 address (omega arith) w (both _ refl refl) (omega arith)) at w.path,
      w.silent,
    )

beside : (x y rd rs1 : ℕ) (op2 : Op2) (address : ℕ) (t : TableAt) (s : State)
    → IsAboutToFind x y rd rs1 op2 address t s → (count : ℕ) → count ≤ 14 → HasTwo s count x y
beside x y rd rs1 op2 address t s h count few =
    let low = h.low in
    two_registers s count x y h.valid h.ready (omega arith) h.apart.some h.apart.below h.other.some h.other.below h.differ

goes : (x y rd rs1 : ℕ) (op2 : Op2) (address : ℕ) (t : TableAt) (s : State)
    → IsAboutToFind x y rd rs1 op2 address t s → sum_of s rs1 op2 % 4 ≡ 0
    → FindsIt s x y rd rs1 op2 address t (length (translate_target x y rd rs1 op2 t.base address))
goes x y zero rs1 op2 address t s h aligned =
    let c = beside x y zero rs1 op2 address t s h 12 (omega arith) in
    let w = restored x y zero rs1 op2 address t s h c (omega arith) aligned in
    record {
      path = rw (works_same c w (both _ refl refl) (omega arith)) at w.path;
      silent = w.silent;
      stores = rw w.alike.memory at w.stores;
      target = kept_target x y zero rs1 op2 address t s h;
      found = kept_found x y zero rs1 op2 address t s h aligned;
    }
goes x y (suc r) rs1 op2 address t s h aligned =
    let m = found_memory s x y rs1 op2 t in
    let c = beside x y (suc r) rs1 op2 address t s h 14 (omega arith) in
    let w = restored x y (suc r) rs1 op2 address t s h c (omega arith) aligned in
    let inside : Stores IsPageWord s.memory m = rw w.alike.memory at w.stores in
    let low = h.low in
    let u : State = past s 12 m s in
    let is : w.after ≡ past s 12 m s = works_same c w (both _ refl refl) (omega arith) in
    let before : Leads (IsBetween s 14 IsPageWord) s (past s 12 m s) 12 = rw is at w.path in
    let stand : StandIn (code_of m) (s.pc + 4 * 12 + 4 * 0) (address_into (suc r) address) =
    rw (ap code_of (sym w.alike.memory) ∙ w.code)
    (subst (λ z. StandIn (code_of s.memory) z (address_into (suc r) address)) (omega arith)
    h.words.1.1.1.1.1.1.1.1.1.1.1.1) in
    let k = linked r address (past s 12 m s) (subst IsValid before.steps (run-valid s 12 h.valid))
    (record { live = h.ready.live; npc = refl }) (omega arith) h.apart.rd_below h.short stand in
    let whole = leads_then (IsBetween s 14 IsPageWord) s (past s 12 m s) _ 12 2 before
    (leads_weaker (IsBetween (past s 12 m s) 2 IsPageWord) (IsBetween s 14 IsPageWord) (past s 12 m s) _ 2
    (λ v z. let a1 = z.past in let a2 = z.before in record {
      past = omega arith;
      before = omega arith;
      stores = stores_then IsPageWord IsPageWord s.memory m v.memory (λ a b. b) inside z.stores;
    }) k.0)
    (λ _ _. record { past = omega arith; before = omega arith; stores = inside }) in
    record {
      path = subst (λ (z : State). Leads (IsBetween s 14 IsPageWord) s z 14)
          (let e : s.pc + 4 * 12 + 4 * 2 ≡ s.pc + 4 * 14 = omega arith in
          ap (λ z. record (with_register s (suc r) address) { pc = z; npc = z + 4; slot = NoSlot; memory = m }) e) whole;
      silent = silent_then s (past s 12 m s) 12 2 before.steps w.silent k.1;
      stores = inside;
      target = kept_target x y (suc r) rs1 op2 address t s h;
      found = kept_found x y (suc r) rs1 op2 address t s h aligned;
    }

pub looks_up : LooksUp
looks_up x y rd rs1 op2 address t s h = (
  goes x y rd rs1 op2 address t s h,
  λ odd. traps x y rd rs1 op2 address t s h (beside x y rd rs1 op2 address t s h 10 (omega arith)) (omega arith)
      odd refl,
)
