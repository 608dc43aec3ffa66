-- The run of the program, in a memory that has its text: ways of several steps, none of which judges a byte.
use Rattle.workload.proofs.Common.{◌≡◌, ℕ, zero, suc, ◌+◌, ◌-◌, ◌*◌, ◌%◌, ◌^◌, ◌<◌, ◌≤◌, true, false, inl, inr, List, [], ◌∷◌, ◌++◌, length, Some, None, refl, ap, ◌∙◌, arith, cases_lt, sum_by-cons, flat_map, range_with_len, sum_by, instr_at, judged_in, Codes, Instr, word_of, fetch_of, run, State, Exit, call_of, caller_code, code_of, exit_code, first_word, routine_code, IsTextWord, routine_steps, routine_sum, Routine, w32, le-ltb, nat_eq, pos, negsuc, Memory, act, alu_step, move, nop, cast_unsigned, eq-eqb, lt-leb, ne_eqb, register_of, zeros, live_step}
use Rattle.v8_decode.specs.declared.Op2.TheVariants.{Imm}
use Rattle.v8_step.proofs.RunsOn.{run_add}
use Rattle.v8_step.specs.Judged.{judged_by}
use Rattle.v8_step.specs.Transfers.{ended, branch_step, call_step, jump_step}
use Rattle.v8_step.specs.declared.Slot.TheVariants.{NoSlot, Taken, Untaken}
use Rattle.std.specs.Int.Bits.{or_zero_l}
use Rattle.v8_decode.specs.declared.Instr.TheVariants as i
use Rattle.v8_decode.specs.declared.AluOp.TheVariants as ops
use Rattle.v8_decode.specs.Words.{decode_of}
use Rattle.v8_alu.specs.Numbers.{wrapped}
use Rattle.v8_alu.specs.Alu.{alu_of, out}
use Rattle.v8_alu.specs.Conditions.{holds_of}
use Rattle.v8_step.specs.declared.Slot.{Slot}
use Rattle.v8_step.specs.Calls.{system_call, trap_step}
use Rattle.workload.proofs.Made.{length-caller}

-- the codes where a loop has so many turns left
abbrev left : ℕ → Codes
left n = record { n = false; z = nat_eq n 0; v = false; c = false }

immediate : (n : ℕ) → n < 2 ^ 32 → wrapped (cast_unsigned w32 (pos n)) ≡ n
immediate n fits = omega arith

-- one turn less
subtracted : (n : ℕ) (k : Codes) → n < 2 ^ 30 → alu_of ops.SUB true (suc n) 1 k 0 ≡ out n (left n) 0
unfolding alu_of
subtracted n k few =
    let value : wrapped (2 ^ 33 + suc n - (1 + 0)) ≡ n = omega arith in
    rw (value, lt-leb (2 ^ 31) (suc n) (omega arith), lt-leb (2 ^ 31) n (omega arith), le-ltb (suc n) (1 + 0) (omega arith)) refl

-- a routine that was drawn
pub record IsDrawn (r : Routine) : Type 0 where
  pub more : ℕ
  pub turns : r.turns ≡ suc more
  pub few : more < 16
  pub small : r.amount < 64

abbrev pub AreDrawn : List Routine → Type 0
AreDrawn [] = Unit {0}
AreDrawn (r ∷ rs) = IsDrawn r × AreDrawn rs

module _ (count : ℕ) where
  -- a state that goes on
  pub record IsGood (s : State) : Type 0 where
    pub live : s.ending ≡ None
    pub inside : IsTextWord count s.pc
    pub judges_none : judged_in s (instr_at s) ≡ []

  -- so many steps lead from one state to another, and each state before that goes on
  pub record Way (s t : State) (k : ℕ) : Type 0 where
    pub arrives : run s k ≡ t
    pub during : (j : ℕ) → j < k → IsGood (run s j)

  pub later : {s t : State} {k : ℕ} → Way s t k → (j : ℕ) → k ≤ j → run s j ≡ run t (j - k)
  later {s} {t} {k} w j late =
      (let f : j ≡ (j - k) + k = omega arith in ap (run s) f) ∙ run_add s k (j - k) ∙ ap (λ z. run z (j - k)) w.arrives

  follows : {s t u : State} {k l : ℕ} → Way s t k → Way t u l → Way s u (k + l)
  follows {s} {t} {u} {k} {l} w v = record {
    arrives = later w (k + l) (omega arith) ∙ (let e : k + l - k ≡ l = omega arith in rw e v.arrives);
    during = λ j b. elim (cases_lt j k) [
      | inl early ↦ w.during j early
      | inr late ↦ rw (later w j late) (v.during (j - k) (omega arith))
    ];
  }

  as_long : {s t : State} {k l : ℕ} → Way s t k → k ≡ l → Way s t l
  as_long w e = rw (← e) w

  -- a run that ends, by an exit with the low byte of a sum
  pub record Ends (s : State) (sum k : ℕ) : Type 0 where
    pub last : State
    pub ending : last.ending ≡ Some (Exit (sum % 256))
    pub holds : register_of last 8 ≡ sum
    pub inside : IsTextWord count last.pc
    pub way : Way s last k

  module _ (m : Memory) where
    -- a word of the text is fetched there, and says this instruction
    pub record Says (a : ℕ) (x : Instr) : Type 0 where
      pub fetched : fetch_of m a ≡ Some (word_of x)
      pub decodes : decode_of (word_of x) ≡ x
      pub inside : IsTextWord count a

    -- the words from there on say these instructions
    abbrev pub Stand : ℕ → List Instr → Type 0
    Stand a [] = Unit {0}
    Stand a (x ∷ xs) = Says a x × Stand (a + 4) xs

    pub both : (a : ℕ) (xs ys : List Instr) → Stand a (xs ++ ys) → Stand a xs × Stand (a + 4 * length xs) ys
    both a [] ys s = (tt, (let e : a + 4 * 0 ≡ a = omega arith in rw e s))
    both a (x ∷ xs) ys s =
        let rest = both (a + 4) xs ys s.1 in
        let here : a + 4 * suc (length xs) ≡ a + 4 + 4 * length xs = omega arith in
        ((s.0, rest.0), rw here rest.1)

    module _ (sp : ℕ) where
      -- a state of the run: what the program changes, beside where it stands, are four registers and the codes
      abbrev at : ℕ → ℕ → Slot → ℕ → ℕ → ℕ → ℕ → Codes → State
      at pc npc slot g1 g2 o0 o7 codes = record {
        pc = pc;
        npc = npc;
        slot = slot;
        registers = 0 ∷ g1 ∷ g2 ∷ 0 ∷ 0 ∷ 0 ∷ 0 ∷ 0 ∷ o0 ∷ 0 ∷ 0 ∷ 0 ∷ 0 ∷ 0 ∷ sp ∷ o7 ∷ zeros 120;
        window = 0;
        valid = 1;
        codes = codes;
        y = 0;
        memory = m;
        input = [];
        ending = None;
      }

      -- what the instructions of the program do, one by one
      module _ {pc npc o0 o7 : ℕ} {codes : Codes} where
        step : {g1 g2 : ℕ} {slot : Slot} {x : Instr} {t : State} → Says pc x → judged_by (at pc npc slot g1 g2 o0 o7 codes) x ≡ []
            → act (at pc npc slot g1 g2 o0 o7 codes) x ≡ t → Way (at pc npc slot g1 g2 o0 o7 codes) t 1
        step {g1} {g2} {slot} {x} says none acts =
            let s = at pc npc slot g1 g2 o0 o7 codes in
            record {
              arrives = live_step s (word_of x) refl says.fetched ∙ ap (act s) says.decodes ∙ acts;
              during = λ j l. let zero : j ≡ 0 = omega arith in rw zero (record {
                live = refl;
                inside = says.inside;
                judges_none = rw (says.fetched, says.decodes) none;
              });
            }

        goes : {to g1 g2 : ℕ} {slot : Slot} → Says pc nop → wrapped (npc + 4) ≡ to
            → Way (at pc npc slot g1 g2 o0 o7 codes) (at npc to NoSlot g1 g2 o0 o7 codes) 1
        unfolding act
        goes says e = step says refl (rw e refl)

        calls_to : {to g1 g2 distance : ℕ} → Says pc (i.Call (pos distance))
            → wrapped (pc + 4 * cast_unsigned w32 (pos distance)) ≡ to
            → Way (at pc npc NoSlot g1 g2 o0 o7 codes) (at npc to Taken g1 g2 o0 pc codes) 1
        unfolding act call_step
        calls_to says e = step says refl (rw e refl)

        -- mov value,%g2
        counts : {to g1 g2 value : ℕ} {slot : Slot} → Says pc (move 2 value) → wrapped (npc + 4) ≡ to → value < 2 ^ 32
            → Way (at pc npc slot g1 g2 o0 o7 codes) (at npc to NoSlot g1 value o0 o7 codes) 1
        unfolding act alu_step alu_of
        counts {value = value} says e fits =
            step says refl (rw (e, or_zero_l (wrapped (cast_unsigned w32 (pos value))), immediate value fits) refl)

        -- mov 1,%g1
        numbers : {to g1 g2 : ℕ} {slot : Slot} → Says pc (move 1 1) → wrapped (npc + 4) ≡ to
            → Way (at pc npc slot g1 g2 o0 o7 codes) (at npc to NoSlot 1 g2 o0 o7 codes) 1
        unfolding act alu_step alu_of
        numbers says e = step says refl (rw e refl)

        adds : {to g1 g2 amount sum : ℕ} {slot : Slot} → Says pc (i.Alu ops.ADD false 8 8 (Imm (pos amount))) → wrapped (npc + 4) ≡ to
            → wrapped (o0 + wrapped (cast_unsigned w32 (pos amount)) + 0) ≡ sum
            → Way (at pc npc slot g1 g2 o0 o7 codes) (at npc to NoSlot g1 g2 sum o7 codes) 1
        unfolding act alu_step alu_of
        adds says e f = step says refl (rw (e, f) refl)

        -- subcc %g2,1,%g2
        subtracts : {to g1 n : ℕ} {slot : Slot} → Says pc (i.Alu ops.SUB true 2 2 (Imm (pos 1))) → wrapped (npc + 4) ≡ to → n < 2 ^ 30
            → Way (at pc npc slot g1 (suc n) o0 o7 codes) (at npc to NoSlot g1 n o0 o7 (left n)) 1
        unfolding act alu_step
        subtracts {n = n} says e few = step says refl (rw (subtracted n codes few, e) refl)

        -- bne, with turns left or without
        turns_back : {to g1 g2 : ℕ} → Says pc (i.Branch 9 false (negsuc 1)) → wrapped (pc + 4 * cast_unsigned w32 (negsuc 1)) ≡ to
            → codes.z ≡ false
            → Way (at pc npc NoSlot g1 g2 o0 o7 codes) (at npc to Taken g1 g2 o0 o7 codes) 1
        unfolding act branch_step holds_of
        turns_back says e more = step says refl (rw (more, e) refl)

        passes : {to g1 g2 : ℕ} → Says pc (i.Branch 9 false (negsuc 1)) → wrapped (npc + 4) ≡ to → codes.z ≡ true
            → Way (at pc npc NoSlot g1 g2 o0 o7 codes) (at npc to Untaken g1 g2 o0 o7 codes) 1
        unfolding act branch_step holds_of
        passes says e none = step says refl (rw (none, e) refl)

        -- retl
        returns : {to g1 g2 : ℕ} → Says pc (i.Jmpl 0 15 (Imm (pos 8))) → wrapped (o7 + 8) ≡ to → to % 4 ≡ 0
            → Way (at pc npc NoSlot g1 g2 o0 o7 codes) (at npc to Taken g1 g2 o0 o7 codes) 1
        unfolding act jump_step
        returns {to = to} says e aligned = step says refl (rw (e, eq-eqb (to % 4) 0 aligned) refl)

        -- ta 16, which judges no byte
        exits : {g2 : ℕ} {slot : Slot} → Says pc (i.Ticc 8 0 (Imm (pos 16)))
            → Way (at pc npc slot 1 g2 o0 o7 codes) (ended (at pc npc slot 1 g2 o0 o7 codes) (Exit (o0 % 256))) 1
        unfolding act trap_step system_call holds_of
        exits says = step says refl refl

      -- a routine at t, and the state in which its k-th word is next
      module _ (t : ℕ) (r : Routine) (s : Stand t (routine_code r)) (low : t < 2 ^ 30) (small : r.amount < 64) where
        abbrev word : ℕ → ℕ
        word zero = t
        word (suc k) = word k + 4

        abbrev before : ℕ → ℕ → ℕ → ℕ → Codes → State
        before k g2 sum o7 codes = at (word k) (word k + 4) NoSlot 0 g2 sum o7 codes

        -- add and subcc
        turn : {n sum o7 : ℕ} {codes : Codes} → n < 16 → sum + r.amount < 2 ^ 32
            → Way (before 1 (suc n) sum o7 codes) (before 3 n (sum + r.amount) o7 (left n)) 2
        turn few fits = follows (adds s.1.0 (omega arith) (omega arith)) (subtracts s.1.1.0 (omega arith) (omega arith))

        -- all turns of the loop
        turns : {o7 : ℕ} (n sum : ℕ) (codes : Codes) → n < 16 → sum + suc n * r.amount < 2 ^ 32
            → Way (before 1 (suc n) sum o7 codes) (before 5 0 (sum + suc n * r.amount) o7 (left 0)) (4 * suc n)
        turns zero sum codes few fits =
            let once : sum + 1 * r.amount ≡ sum + r.amount = omega arith in
            rw once
            (follows (turn few (omega arith))
            (follows (passes s.1.1.1.0 (omega arith) refl) (goes s.1.1.1.1.0 (omega arith))))
        turns (suc n) sum codes few fits =
            let all : sum + suc (suc n) * r.amount ≡ sum + r.amount + suc n * r.amount = omega arith in
            rw all
            (as_long (follows (turn few (omega arith))
            (follows (turns_back s.1.1.1.0 (omega arith) (ne_eqb (suc n) 0 (λ (e : suc n ≡ 0). omega arith)))
            (follows (goes s.1.1.1.1.0 (omega arith))
            (turns n (sum + r.amount) (left (suc n)) (omega arith) (omega arith))))) (omega arith))

        routine : {sum o7 : ℕ} {codes : Codes} → IsDrawn r → o7 < 2 ^ 30 → o7 % 4 ≡ 0 → sum + routine_sum r < 2 ^ 32
            → Way (before 0 0 sum o7 codes) (at (o7 + 8) (o7 + 8 + 4) NoSlot 0 0 (sum + routine_sum r) o7 (left 0))
            (routine_steps r)
        routine {sum} {o7} {codes} drawn below aligned fits =
            let is = drawn.turns in
            let few = drawn.few in
            let same : r.turns * r.amount ≡ suc drawn.more * r.amount = ap (λ n. n * r.amount) is in
            let all : Way (before 1 r.turns sum o7 codes) (before 5 0 (sum + routine_sum r) o7 (left 0)) (4 * r.turns) =
            rw is (turns drawn.more sum codes few (omega (arith, same, fits))) in
            as_long (follows (counts s.0 (omega arith) (omega (arith, is, few)))
            (follows all (follows (returns s.1.1.1.1.1.0 (omega arith) (omega arith)) (goes s.1.1.1.1.1.1.0 (omega arith)))))
            (omega arith)

      ends : {s t : State} {k l n sum : ℕ} → Way s t k → Ends t sum l → k + l ≡ n → Ends s sum n
      ends w e long =
          rw (← long)
          (record { last = e.last; ending = e.ending; holds = e.holds; inside = e.inside; way = follows w e.way })

      -- all calls from one on, and the exit
      calls : (rs : List Routine) (n c t sum o7 all k : ℕ) (codes : Codes) → AreDrawn rs → n + length rs ≤ count
          → count ≤ 100000 → c ≡ 0x10054 + 8 * n → t ≡ 0x10054 + 4 * first_word count n
          → Stand c (flat_map (call_of count) (range_with_len n (length rs)) ++ exit_code)
          → Stand t (flat_map routine_code rs) → sum + sum_by routine_sum rs ≡ all → all < 2 ^ 32
          → 2 * length rs + 2 + sum_by routine_steps rs ≡ k → Ends (at c (c + 4) NoSlot 0 0 sum o7 codes) all k
      calls [] n c t sum o7 all k codes drawn within few at_c at_t cs ts adds fits long =
          let same : sum ≡ all = omega (arith, adds) in
          rw (← same, ← long) (record {
            last = ended (at (c + 4) (c + 4 + 4) NoSlot 1 0 sum o7 codes) (Exit (sum % 256));
            ending = refl;
            holds = refl;
            inside = cs.1.0.inside;
            way = follows (numbers cs.0 (omega arith)) (exits cs.1.0);
          })
      calls (r ∷ rs) n c t sum o7 all k codes drawn within few at_c at_t cs ts adds fits long =
          let all_steps = sum_by-cons routine_steps r rs in
          let all_sums = sum_by-cons routine_sum r rs in
          let more : n + suc (length rs) ≤ count = within in
          let parts = both t (routine_code r) (flat_map routine_code rs) ts in
          let next : c + 8 ≡ c + 4 + 4 = omega arith in
          ends
          (follows (follows (calls_to cs.0 (omega (arith, more))) (goes cs.1.0 (omega (arith, more))))
          (routine t r parts.0 (omega (arith, more)) drawn.0.small drawn.0 (omega (arith, more)) (omega arith)
          (omega (arith, all_sums, adds, fits))))
          (calls rs (n + 1) (c + 8) (t + 28) (sum + routine_sum r) c all _ (left 0) drawn.1 (omega (arith, more)) few
          (omega arith) (omega arith) (rw next cs.1.1) parts.1 (omega (arith, all_sums, adds)) fits refl)
          (omega (arith, all_steps, long))

      pub whole_run : (rs : List Routine) (codes : Codes) → AreDrawn rs → length rs ≡ count → count ≤ 100000
          → Stand 0x10054 (code_of rs count) → sum_by routine_sum rs < 2 ^ 32
          → Ends (at 0x10054 0x10058 NoSlot 0 0 0 0 codes) (sum_by routine_sum rs)
          (2 * count + 2 + sum_by routine_steps rs)
      whole_run rs codes drawn size few stand fits =
          let parts = both 0x10054 (caller_code count) (flat_map routine_code rs) stand in
          let long = length-caller count in
          let bodies : 0x10054 + 4 * first_word count 0 ≡ 0x10054 + 4 * length (caller_code count) = omega (arith, long) in
          calls rs 0 0x10054 (0x10054 + 4 * first_word count 0) 0 0 _ _ codes drawn (omega (arith, size)) few
          (omega arith) (omega arith) (rw size parts.0) (rw bodies parts.1) (omega arith) fits (omega (arith, size))
