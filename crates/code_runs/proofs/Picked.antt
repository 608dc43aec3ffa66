-- Code that works in picked registers, word by word: what each kind of word does there, and where one more leads.
use Rattle.code_runs.proofs.Common.{◌≡◌, ◌≢◌, ℕ, zero, suc, ◌+◌, ◌*◌, ◌%◌, ◌^◌, ◌-◌, ◌<◌, ◌≤◌, ◌⊎◌, inl, inr, Bool, true, false, Ok, List, length, refl, ap, sym, ◌∙◌, subst, arith, get_or-set_other, if◌then◌else◌, ◌==◌, slice_index, cases_eq, nat_tests, Op2, AluOp, Instr, Codes, wrapped, Memory, code_of, place_of, register_in, register_set, windows, register_in-set, register_in-other, length-register_set, NoSlot, State, register_of, with_register, operand_of, sum_of, next, act, step_of, alu_step, run, IsValid, IsPlain, memory_word, store_word, Stores, CanLoad, CanStore, one_if, stores_at, stores_in_step, Leads, IsBetween, IsSilent, AreHeld, IsAlike, Works, pair, Is, WorksInTwo, IsReady, Says, StandIn}
use Rattle.v8_decode.specs.declared.Instr.TheVariants as i
use Rattle.v8_decode.specs.declared.LoadKind.TheVariants as loads
use Rattle.v8_decode.specs.declared.StoreKind.TheVariants as stores
use Rattle.v8_alu.specs.Alu.{alu_of}
use Rattle.code_runs.proofs.Acts.{says_step, says_puts, ld_acts, st_acts}
use Rattle.code_runs.proofs.Counted.{says_stores}
use Rattle.code_runs.proofs.Leads.{leads_none, leads_one, leads_then, silent_none, silent_one, silent_then}
use Rattle.code_runs.proofs.StoredWords.{code-store_word}
use Rattle.code_runs.proofs.Straight.{nth, nth_says}
use Rattle.code_runs.proofs.Stores.{stores_none, stores_one, stores_then}

pub equal_or_not : (p q : ℕ) → (p ≡ q) ⊎ (p ≢ q)
equal_or_not p q = cases_eq p q

-- ---- a value put in one place: a function with another value there
abbrev pub put : ℕ → ℕ → (ℕ → ℕ) → ℕ → ℕ
put k v f j = if j == k then v else f j

pub put_same : (k v : ℕ) (f : ℕ → ℕ) → put k v f k ≡ v
put_same k v f = ap (λ b. if b then v else f k) (let e : (k == k) ≡ true = grind (arith, nat_tests) in e)

pub put_other : (k v : ℕ) (f : ℕ → ℕ) (j : ℕ) → j ≢ k → put k v f j ≡ f j
put_other k v f j ne = ap (λ b. if b then v else f j) (let e : (j == k) ≡ false = grind (arith, nat_tests) in e)

-- ---- registers of one window stand at different places
pub places_differ : (w r q : ℕ) → w < windows → r < 32 → q < 32 → r ≢ q → place_of w r ≢ place_of w q
places_differ w r q a b c ne = grind (arith, nat_tests)

-- what a write to a register leaves
pub set_stays : (registers : List ℕ) (w r v p : ℕ) → p ≢ place_of w r
    → slice_index (register_set registers w r v) p ≡ slice_index registers p
set_stays registers w zero v p ne = refl
set_stays registers w (suc r) v p ne = get_or-set_other registers (place_of w (suc r)) p v 0 ne

-- ---- blocks

-- `count` words of code that begin where s stands, and `want` registers r 0, r 1, ..
pub record HasBlock (s : State) (count : ℕ) (r : ℕ → ℕ) (want : ℕ) : Type 0 where
  pub ready : IsReady s
  pub low : s.pc + 4 * count < 2 ^ 32 - 4
  pub registers : length s.registers ≡ 136
  pub window : s.window < windows
  pub some : (k : ℕ) → k < want → 0 < r k
  pub below : (k : ℕ) → k < want → r k < 32
  pub differ : (j k : ℕ) → j < want → k < want → j ≢ k → r j ≢ r k

-- What a word does beside going on, in a state: it leads to one of which Q holds, with words stored at some addresses.
pub record ActsIn (May : ℕ → Type 0) (u : State) (x : Instr) (Q : State → Type 0) : Type 0 where
  pub to : State
  pub acts : act u x ≡ next to
  pub plain : IsPlain x
  pub pc : to.pc ≡ u.pc
  pub npc : to.npc ≡ u.npc
  pub stores : Stores May u.memory to.memory
  pub code : code_of to.memory ≡ code_of u.memory
  pub there : Q to

-- and in each of which P holds
abbrev pub Acts : (ℕ → Type 0) → Instr → (State → Type 0) → (State → Type 0) → Type 0
Acts May x P Q = (u : State) → P u → ActsIn May u x Q

-- word n of the block says it
abbrev pub IsNext : State → ℕ → ℕ → Instr → Type 0
IsNext s count n x = (n < count) × Says (code_of s.memory) (s.pc + 4 * n) x

-- an operation gives a value, and leaves the codes and Y
abbrev pub Gives : AluOp → ℕ → Op2 → ℕ → State → Type 0
Gives op rs1 op2 v u =
    alu_of op false (register_of u rs1) (operand_of u op2) u.codes u.y ≡ Ok
    (record { value = v; codes = u.codes; y = u.y })

-- the words of a block, by the list of its instructions
pub word : (s : State) (count : ℕ) (xs : List Instr) → StandIn (code_of s.memory) s.pc xs → length xs ≤ count → (n : ℕ)
    → n < length xs → IsNext s count n (nth xs n)
word s count xs stand room n low = (omega arith, nth_says (code_of s.memory) s.pc xs n stand low)

alu_acts : (u : State) (op : AluOp) (rd rs1 : ℕ) (op2 : Op2) (v : ℕ) → Gives op rs1 op2 v u
    → act u (i.Alu op false rd rs1 op2) ≡ next (with_register u rd v)
unfolding act alu_step
alu_acts u op rd rs1 op2 v e = ap (alu_step u rd) e

module _ {s : State} {count : ℕ} {r : ℕ → ℕ} {want : ℕ} (c : HasBlock s count r want) where
  -- a register that isn't picked
  pub unpicked_is : {M : Memory → Type 0} {codes : Codes} {f : ℕ → ℕ} (u : State) (q : ℕ)
      → IsAlike s r want M codes f u → q < 32 → ((k : ℕ) → k < want → q ≢ r k) → register_of u q ≡ register_of s q
  unpicked_is u zero h low ne = refl
  unpicked_is u (suc q) h low ne =
      ap (λ w. slice_index u.registers (place_of w (suc q))) h.same.window ∙ h.held.others (place_of s.window (suc q))
      (λ k b. places_differ s.window (suc q) (r k) c.window low (c.below k b) (ne k b))

  -- a picked register written
  pub held_put : {f : ℕ → ℕ} {registers : List ℕ} {window : ℕ} (j v : ℕ) → j < want → window ≡ s.window
      → AreHeld s r want f registers window
      → AreHeld s r want (put j v f) (register_set registers window (r j) v) window
  held_put {f} {registers} {window} j v b same h = record {
    count = length-register_set registers window (r j) v ∙ h.count;
    picked = λ k bk. go k bk (equal_or_not k j);
    others = λ p ne. set_stays registers window (r j) v p (rw same (ne j b)) ∙ h.others p ne;
  }
    where
      go : (k : ℕ) → k < want → (k ≡ j) ⊎ (k ≢ j)
          → register_in (register_set registers window (r j) v) window (r k) ≡ put j v f k
      go k bk (inl e) =
          ap (λ z. register_in (register_set registers window (r j) v) window (r z)) e
          ∙ register_in-set registers window (r j) v h.count (c.some j b) ∙ sym (put_same j v f)
          ∙ ap (put j v f) (sym e)
      go k bk (inr n) =
          register_in-other registers window (r j) v window (r k) (rw same
          (places_differ s.window (r j) (r k) c.window (c.below j b) (c.below k bk) (c.differ j k b bk (λ e. n (sym e)))))
          ∙ h.picked k bk ∙ sym (put_other j v f k n)

  -- ---- what words do

  -- a word that writes a picked register, and nothing else
  writes : {May : ℕ → Type 0} {M : Memory → Type 0} {codes : Codes} {f : ℕ → ℕ} (j v : ℕ) (x : Instr) → j < want
      → IsPlain x → ((u : State) → IsAlike s r want M codes f u → act u x ≡ next (with_register u (r j) v))
      → Acts May x (IsAlike s r want M codes f) (IsAlike s r want M codes (put j v f))
  writes {May} j v x b plain acts u h = record {
    to = with_register u (r j) v;
    acts = acts u h;
    plain = plain;
    pc = refl;
    npc = refl;
    stores = stores_none May u.memory;
    code = refl;
    there = record {
      same = h.same;
      codes_are = h.codes_are;
      held = held_put j v b h.same.window h.held;
      memory = h.memory;
    };
  }

  pub sethi : {May : ℕ → Type 0} {M : Memory → Type 0} {codes : Codes} {f : ℕ → ℕ} (j imm v : ℕ) → j < want
      → wrapped (1024 * imm) ≡ v
      → Acts May (i.Sethi (r j) imm) (IsAlike s r want M codes f) (IsAlike s r want M codes (put j v f))
  unfolding act
  sethi j imm v b e =
      writes j v (i.Sethi (r j) imm) b (λ cond rs1 op2 z. cc) (λ u h. ap (λ z. next (with_register u (r j) z)) e)

  -- an operation that leaves the codes and Y
  pub alu : {May : ℕ → Type 0} {M : Memory → Type 0} {codes : Codes} {f : ℕ → ℕ} (j : ℕ) (op : AluOp) (rs1 : ℕ)
      (op2 : Op2) (v : ℕ) → j < want → ((u : State) → IsAlike s r want M codes f u → Gives op rs1 op2 v u)
      → Acts May (i.Alu op false (r j) rs1 op2) (IsAlike s r want M codes f) (IsAlike s r want M codes (put j v f))
  alu j op rs1 op2 v b e =
      writes j v (i.Alu op false (r j) rs1 op2) b (λ cond k o z. cc) (λ u h. alu_acts u op (r j) rs1 op2 v (e u h))

  pub ld : {May : ℕ → Type 0} {M : Memory → Type 0} {codes : Codes} {f : ℕ → ℕ} (j rs1 : ℕ) (op2 : Op2) (a v : ℕ)
      → j < want → ((u : State) → IsAlike s r want M codes f u → sum_of u rs1 op2 ≡ a) → (a % 4 == 0) ≡ true
      → ((m : Memory) → M m → CanLoad m a × (memory_word m a ≡ v))
      → Acts May (i.Load loads.LD (r j) rs1 op2) (IsAlike s r want M codes f) (IsAlike s r want M codes (put j v f))
  ld j rs1 op2 a v b sums aligned known =
      writes j v (i.Load loads.LD (r j) rs1 op2) b (λ cond k o z. cc) (λ u h.
      ld_acts u (r j) rs1 op2 a (sums u h) aligned (known u.memory h.memory).0
      ∙ ap (λ z. next (with_register u (r j) z)) (known u.memory h.memory).1)

  pub st : {May : ℕ → Type 0} {M M' : Memory → Type 0} {codes : Codes} {f : ℕ → ℕ} (rd rs1 : ℕ) (op2 : Op2) (a v : ℕ)
      → ((u : State) → IsAlike s r want M codes f u → sum_of u rs1 op2 ≡ a) → (a % 4 == 0) ≡ true
      → ((u : State) → IsAlike s r want M codes f u → register_of u rd ≡ v) → May a
      → ((m : Memory) → M m → CanStore m a × M' (store_word m a v))
      → Acts May (i.Store stores.ST rd rs1 op2) (IsAlike s r want M codes f) (IsAlike s r want M' codes f)
  st {May} rd rs1 op2 a v sums aligned value may known u h = record {
    to = record u { memory = store_word u.memory a v };
    acts = st_acts u rd rs1 op2 a (sums u h) aligned (known u.memory h.memory).0
        ∙ ap (λ z. next (record u { memory = store_word u.memory a z })) (value u h);
    plain = λ cond k o z. cc;
    pc = refl;
    npc = refl;
    stores = stores_one May u.memory a v may;
    code = code-store_word u.memory a v;
    there = record {
      same = h.same;
      codes_are = h.codes_are;
      held = h.held;
      memory = (known u.memory h.memory).1;
    };
  }

  -- ---- a load and a store where all of memory is known
  pub ld_in : {May : ℕ → Type 0} {m : Memory} {codes : Codes} {f : ℕ → ℕ} (j rs1 : ℕ) (op2 : Op2) (a v : ℕ) → j < want
      → ((u : State) → IsAlike s r want (Is m) codes f u → sum_of u rs1 op2 ≡ a) → (a % 4 == 0) ≡ true → CanLoad m a
      → memory_word m a ≡ v → Acts May (i.Load loads.LD (r j) rs1 op2) (IsAlike s r want (Is m) codes f)
      (IsAlike s r want (Is m) codes (put j v f))
  ld_in j rs1 op2 a v b sums aligned can value =
      ld j rs1 op2 a v b sums aligned (λ z e. (rw e can, rw e value))

  pub st_in : {May : ℕ → Type 0} {m : Memory} {codes : Codes} {f : ℕ → ℕ} (rd rs1 : ℕ) (op2 : Op2) (a v : ℕ)
      → ((u : State) → IsAlike s r want (Is m) codes f u → sum_of u rs1 op2 ≡ a) → (a % 4 == 0) ≡ true → CanStore m a
      → ((u : State) → IsAlike s r want (Is m) codes f u → register_of u rd ≡ v) → May a
      → Acts May (i.Store stores.ST rd rs1 op2) (IsAlike s r want (Is m) codes f)
      (IsAlike s r want (Is (store_word m a v)) codes f)
  st_in rd rs1 op2 a v sums aligned can value may =
      st rd rs1 op2 a v sums aligned value may (λ z e. (rw e can, ap (λ (y : Memory). store_word y a v) e))

  -- ---- where words lead

  -- before the first word
  pub works_none : {May : ℕ → Type 0} {M : Memory → Type 0} → M s.memory
      → Works s count May r want 0 0 M s.codes (λ k. register_of s (r k))
  works_none {May = May} known = record {
    after = s;
    few = omega arith;
    path = leads_none _ s;
    silent = silent_none s;
    pc = omega arith;
    npc = (let e = c.ready.npc in omega arith);
    slot = λ z. elim z [
      | inl e ↦ e
      | inr some ↦ absurd (omega arith)
    ];
    alike = record {
      same = record { live = c.ready.live; window = refl; valid = refl; input = refl; y_register = refl };
      codes_are = refl;
      held = record { count = c.registers; picked = λ k h. refl; others = λ p h. refl };
      memory = known;
    };
    stores = stores_none May s.memory;
    code = refl;
  }

  -- j steps more, to behind m words
  pub works_to : {May : ℕ → Type 0} {k n : ℕ} {M M' : Memory → Type 0} {codes codes' : Codes} {f f' : ℕ → ℕ}
      (w : Works s count May r want k n M codes f) (v : State) (j l m : ℕ) → k + j ≡ l → n < count → n + j ≤ m
      → 0 < j → Leads (IsBetween s count May) w.after v j → IsSilent w.after j → v.pc ≡ s.pc + 4 * m
      → v.npc ≡ s.pc + 4 * m + 4 → v.slot ≡ NoSlot → IsAlike s r want M' codes' f' v → Stores May s.memory v.memory
      → code_of v.memory ≡ code_of s.memory → Works s count May r want l m M' codes' f'
  works_to {May = May} {k = k} w v j l m e below more some path silent pc npc slot alike stores code =
      let low = c.low in
      let p = w.pc in
      let few = w.few in
      record {
        after = v;
        few = omega arith;
        path = subst (λ z. Leads (IsBetween s count May) s v z) e
            (leads_then (IsBetween s count May) s w.after v k j w.path path
            (λ one _. record { past = omega arith; before = omega arith; stores = w.stores }));
        silent = subst (λ z. IsSilent s z) e (silent_then s w.after k j w.path.steps w.silent silent);
        pc = pc;
        npc = npc;
        slot = λ _. slot;
        alike = alike;
        stores = stores;
        code = code;
      }

  -- the word of the code, where the machine stands
  pub says_here : {May : ℕ → Type 0} {k n : ℕ} {M : Memory → Type 0} {codes : Codes} {f : ℕ → ℕ} (x : Instr)
      (w : Works s count May r want k n M codes f) → Says (code_of s.memory) (s.pc + 4 * n) x
      → Says (code_of w.after.memory) w.after.pc x
  says_here x w says = rw w.code (rw w.pc says)

  -- what it stores, where stores are counted
  pub stores_next : {May : ℕ → Type 0} {k n : ℕ} {M : Memory → Type 0} {codes : Codes} {f : ℕ → ℕ} (counted : ℕ → Bool)
      (x : Instr) (w : Works s count May r want k n M codes f) → Says (code_of s.memory) (s.pc + 4 * n) x
      → stores_in_step counted (run s k) ≤ one_if counted (stores_at w.after x)
  stores_next counted x w says =
      rw w.path.steps (says_stores counted w.after x w.alike.same.live (says_here x w says))

  -- one word more
  pub goes_on : {May : ℕ → Type 0} {k n : ℕ} {M M' : Memory → Type 0} {codes codes' : Codes} {f f' : ℕ → ℕ} {x : Instr}
      (w : Works s count May r want k n M codes f) → IsNext s count n x
      → Acts May x (IsAlike s r want M codes f) (IsAlike s r want M' codes' f')
      → Works s count May r want (suc k) (suc n) M' codes' f'
  goes_on {May = May} {k = k} {n = n} {x = x} w is acts =
      let a = acts w.after w.alike in
      let low = c.low in
      let below = is.0 in
      let p = w.npc in
      let q = a.npc in
      let t = a.there in
      let here = says_here x w is.1 in
      let one : step_of w.after ≡ next a.to = says_step w.after x w.alike.same.live here ∙ a.acts in
      works_to w (next a.to) 1 (suc k) (suc n) (omega arith) below (omega arith) (omega arith)
      (leads_one _ w.after (next a.to) one) (silent_one w.after (says_puts w.after x a.plain here))
      (let z : a.to.npc ≡ s.pc + 4 * suc n = omega arith in z)
      (let z : wrapped (a.to.npc + 4) ≡ s.pc + 4 * suc n + 4 = omega arith in z) refl
      (record { same = t.same; codes_are = t.codes_are; held = t.held; memory = t.memory })
      (stores_then May May s.memory w.after.memory a.to.memory (λ z h. h) w.stores a.stores) (a.code ∙ w.code)

-- the same, of which something else is known
pub works_like : {s : State} {count : ℕ} {May : ℕ → Type 0} {r : ℕ → ℕ} {want k n : ℕ} {M M' : Memory → Type 0}
    {codes codes' : Codes} {f f' : ℕ → ℕ} (w : Works s count May r want k n M codes f)
    → IsAlike s r want M' codes' f' w.after → Works s count May r want k n M' codes' f'
works_like w alike = record {
  after = w.after;
  few = w.few;
  path = w.path;
  silent = w.silent;
  pc = w.pc;
  npc = w.npc;
  slot = w.slot;
  alike = alike;
  stores = w.stores;
  code = w.code;
}

-- ---- two registers

pub both : (P : ℕ → Type 0) → P 0 → P 1 → (k : ℕ) → k < 2 → P k
both P p q zero h = p
both P p q (suc zero) h = q
both P p q (suc (suc k)) h = absurd (omega arith)

abbrev pub HasTwo : State → ℕ → ℕ → ℕ → Type 0
HasTwo s count a b = HasBlock s count (pair a b) 2

pub two_registers : (s : State) (count a b : ℕ) → IsValid s → IsReady s → s.pc + 4 * count < 2 ^ 32 - 4 → 0 < a
    → a < 32 → 0 < b → b < 32 → a ≢ b → HasTwo s count a b
two_registers s count a b valid ready low some below others within differ = record {
  ready = ready;
  low = low;
  registers = valid.registers.count;
  window = valid.window;
  some = both _ some others;
  below = both _ below within;
  differ = λ j k x y. both (λ j. (k : ℕ) → k < 2 → j ≢ k → pair a b j ≢ pair a b k)
      (both _ (λ ne. absurd (ne refl)) (λ ne. differ)) (both _ (λ ne e. differ (sym e)) (λ ne. absurd (ne refl))) j x k y;
}

module _ {s : State} {a b : ℕ} {M : Memory → Type 0} {codes : Codes} {f : ℕ → ℕ} {u : State}
    (h : IsAlike s (pair a b) 2 M codes f u) where
  pub first : register_of u a ≡ f 0
  first = h.held.picked 0 (omega arith)

  pub second : register_of u b ≡ f 1
  second = h.held.picked 1 (omega arith)

-- what they hold, by name
pub in_two : {s : State} {count a b : ℕ} {May : ℕ → Type 0} {n : ℕ} {m : Memory} {f : ℕ → ℕ} {x y : ℕ}
    → Works s count May (pair a b) 2 n n (Is m) s.codes f → f 0 ≡ x → f 1 ≡ y → WorksInTwo s count May a b n m x y
in_two {f = f} {x} {y} w first second =
    let h = w.alike in
    let same : (k : ℕ) → k < 2 → f k ≡ pair x y k = both _ first second in
    works_like w (record {
      same = h.same;
      codes_are = h.codes_are;
      held = record { count = h.held.count; picked = λ k l. h.held.picked k l ∙ same k l; others = h.held.others };
      memory = h.memory;
    })

pub none_in_two : {s : State} {count a b : ℕ} {May : ℕ → Type 0} → HasTwo s count a b
    → WorksInTwo s count May a b 0 s.memory (register_of s a) (register_of s b)
none_in_two c = in_two (works_none c refl) refl refl
