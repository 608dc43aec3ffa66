-- What an instruction does to the registers is what the table says.
use Rattle.switch_runs.proofs.Common.{◌≡◌, ℕ, suc, ◌+◌, ◌%◌, ◌^◌, ◌<◌, Bool, true, false, ◌&&◌, Some, None, Result, Ok, Err, List, length, refl, ap, ◌∙◌, arith, ◌==◌, nat_lt, ltb-true, nat_tests, Words, word_at, IsText, Op2, Instr, bytes_at, register_set, length-register_set, Codes, alu_of, keeping, result_of, wrapped, State, operand_of, register_of, sum_of, branch_step, call_step, jump_step, ldstub_step, load_step, store_step, swap_step, word_of, act, alu_step, register_in-range, Value, Unknown, Place, after, all_unknown, loaded_at, operand_in, put, sum_in, value_in, sets_codes, HoldsText}
use Rattle.v8_decode.specs.declared.Op2.TheVariants as o
use Rattle.v8_decode.specs.declared.AluOp.TheVariants as ops
use Rattle.v8_decode.specs.declared.LoadKind.TheVariants as loads
use Rattle.v8_decode.specs.declared.Instr.TheVariants as i
use Rattle.v8_decode.specs.Ranges.{has_even_pair, is_in_range, op2_in_range, operands_in_range}
use Rattle.v8_windows.specs.Code.{AreRegisters}
use Rattle.v8_alu.specs.declared.AluOut.{AluOut}
use Rattle.v8_alu.specs.declared.AluTrap.{AluTrap}
use Rattle.v8_alu.specs.declared.AluTrap.TheVariants.{DivZero}
use Rattle.switch_runs.proofs.Meaning.{AllMean, Meaning, all_with, length-put, none_known, put_means}
use Rattle.switch_runs.proofs.Sums.{either_means, plus_means, shifted_means}
use Rattle.switch_runs.proofs.Held.{read_text}

pub record AreOperands (rd rs1 : ℕ) (op2 : Op2) : Type 0 where
  pub target : rd < 32
  pub first : rs1 < 32
  pub second : op2_in_range op2 ≡ true

pub operands : (rd rs1 : ℕ) (op2 : Op2) → (nat_lt rd 32 && operands_in_range rs1 op2) ≡ true → AreOperands rd rs1 op2
operands rd rs1 op2 h = record { target = grind (arith, nat_tests); first = grind (arith, nat_tests); second = grind arith }

-- the number after an even one below 32 is below 32, too
pair_below : (rd : ℕ) → rd < 32 → (rd % 2 == 0) ≡ true → suc rd < 32
pair_below rd l e = let even : rd % 2 ≡ 0 = grind (arith, nat_tests) in omega arith

module _ (text : Words) (is_text : IsText text) (x : ℕ) (K : Codes → Type 0) where
  -- the values hold in the state
  abbrev pub Holds : List Value → State → Type 0
  Holds values s = AllMean text x (K s.codes) values s.registers s.window

  -- they do if the run goes on
  abbrev Good : List Value → State → Type 0
  Good values t = t.ending ≡ None → Holds values t

  good_unknown : (t : State) → Good all_unknown t
  good_unknown t e = none_known text x (K t.codes) t.registers t.window

  module _ (values : List Value) (s : State) (vs : length values ≡ 32) (valid : AreRegisters s.registers)
      (h : Holds values s) where
    -- a register is written
    written : (rd : ℕ) (v : Value) (n : ℕ) → rd < 32 → Meaning text x (K s.codes) v n
        → AllMean text x (K s.codes) (put values rd v) (register_set s.registers s.window rd n) s.window
    written rd v n l m = put_means text x (K s.codes) values s.registers s.window rd v n vs valid.count l h m

    good_pair : (rd n m : ℕ) → rd < 32 → suc rd < 32
        → AllMean text x (K s.codes) (put (put values rd Unknown) (suc rd) Unknown)
        (register_set (register_set s.registers s.window rd n) s.window (suc rd) m) s.window
    good_pair rd n m l l' =
        put_means text x (K s.codes) (put values rd Unknown) (register_set s.registers s.window rd n) s.window
        (suc rd) Unknown m (length-put text x values rd Unknown ∙ vs)
        (length-register_set s.registers s.window rd n ∙ valid.count) l' (written rd Unknown n l tt) tt

    range : (r : ℕ) → register_of s r < 2 ^ 32
    range r = register_in-range s.registers s.window r valid

    operand_range : (op2 : Op2) → operand_of s op2 < 2 ^ 32
    operand_range (o.Reg r) = range r
    operand_range (o.Imm n) = omega arith

    operand_means : (op2 : Op2) → op2_in_range op2 ≡ true
        → Meaning text x (K s.codes) (operand_in values op2) (operand_of s op2)
    operand_means (o.Reg r) l = h r (ltb-true r 32 l)
    operand_means (o.Imm n) l = refl

    pub sum_means : (rs1 : ℕ) (op2 : Op2) → rs1 < 32 → op2_in_range op2 ≡ true
        → Meaning text x (K s.codes) (sum_in values rs1 op2) (sum_of s rs1 op2)
    sum_means rs1 op2 l m =
        plus_means text x (K s.codes) (value_in values rs1) (operand_in values op2) (register_of s rs1)
        (operand_of s op2) (range rs1) (operand_range op2) (h rs1 l) (operand_means op2 m)

    -- ---- arithmetic

    -- an operation of which nothing is known; where it sets the codes, what was known stays so with others
    good_alu : (cc : Bool) (rd : ℕ) (r : Result AluOut AluTrap) → rd < 32
        → ((k : Codes) → cc ≡ true → K s.codes → K k)
        → Good (put values rd Unknown) (alu_step s rd (keeping cc s.codes r))
    unfolding alu_step
    good_alu true rd (Ok out) l keeps e =
        all_with text x (K s.codes) (K out.codes) (keeps out.codes refl) (put values rd Unknown) _ s.window
        (written rd Unknown out.value l tt)
    good_alu false rd (Ok out) l keeps e = written rd Unknown out.value l tt
    good_alu true rd (Err DivZero) l keeps e = absurd (cc)
    good_alu false rd (Err DivZero) l keeps e = absurd (cc)
    good_alu _ rd _ l keeps e = absurd (cc)

    -- ---- loads

    loaded_means : (v : Value) (a : ℕ) (bytes : List ℕ) → HoldsText text s.memory
        → Meaning text x (K s.codes) v a → bytes_at s.memory a 4 ≡ Some bytes
        → Meaning text x (K s.codes) (loaded_at v) (word_of bytes)
    loaded_means (Place c) a bytes holds m e = (
      m.0,
      λ k at. read_text text s.memory a k bytes is_text holds (ap (word_at text) m.1 ∙ at) e,
    )
    loaded_means _ a bytes holds m e = tt

    -- ---- every instruction

    pub acts : (instr : Instr) → is_in_range instr ≡ true → has_even_pair instr ≡ true → HoldsText text s.memory
        → ((k : Codes) → sets_codes instr ≡ true → K s.codes → K k) → Good (after values instr) (act s instr)
    unfolding act after alu_of alu_step load_step store_step ldstub_step swap_step branch_step call_step jump_step
    acts (i.Sethi rd imm22) r p t k = λ e. written rd _ _ (ltb-true rd 32 r) refl
    acts (i.Call disp30) r p t k = λ e.
        let set = written 15 Unknown s.pc (omega arith) tt in grind (arith, set)
    acts (i.Alu ops.ADD false rd rs1 op2) r p t k = λ e.
        let q = operands rd rs1 op2 r in
        written rd _ _ q.target
        (rw (sum_zero (register_of s rs1) (operand_of s op2)) at (sum_means rs1 op2 q.first q.second))
      where
        sum_zero : (a b : ℕ) → wrapped (a + b) ≡ wrapped (a + b + 0)
        sum_zero a b = omega arith
    acts (i.Alu ops.OR false rd rs1 op2) r p t k = λ e.
        let q = operands rd rs1 op2 r in
        written rd _ _ q.target (either_means text x (K s.codes) (value_in values rs1) (operand_in values op2) _ _
        (h rs1 q.first) (operand_means op2 q.second))
    acts (i.Alu ops.SLL false rd rs1 op2) r p t k = λ e.
        let q = operands rd rs1 op2 r in
        written rd _ _ q.target (shifted_means text x (K s.codes) (value_in values rs1) (operand_in values op2) _ _
        (h rs1 q.first) (operand_means op2 q.second))
    acts (i.Alu op cc rd rs1 op2) r p t k =
        good_alu cc rd (result_of op (register_of s rs1) (operand_of s op2) s.codes s.y)
        (operands rd rs1 op2 r).target k
    acts (i.ReadY rd) r p t k = λ e. written rd Unknown _ (ltb-true rd 32 r) tt
    acts (i.Jmpl rd rs1 op2) r p t k = λ e.
        let set = written rd Unknown s.pc (operands rd rs1 op2 r).target tt in grind (arith, set)
    acts (i.Ticc cond rs1 op2) r p t k = good_unknown (act s (i.Ticc cond rs1 op2))
    acts (i.Save rd rs1 op2) r p t k = good_unknown (act s (i.Save rd rs1 op2))
    acts (i.Restore rd rs1 op2) r p t k = good_unknown (act s (i.Restore rd rs1 op2))
    acts (i.Load loads.LD rd rs1 op2) r p t k = λ e.
        let q = operands rd rs1 op2 r in
        let set = λ (bytes : List ℕ) (at : bytes_at s.memory (sum_of s rs1 op2) 4 ≡ Some bytes).
        written rd _ _ q.target
        (loaded_means (sum_in values rs1 op2) (sum_of s rs1 op2) bytes t (sum_means rs1 op2 q.first q.second) at) in
        grind (arith, set)
    acts (i.Load loads.LDD rd rs1 op2) r p t k = λ e.
        let q = operands rd rs1 op2 r in
        let set = λ (n m : ℕ). good_pair rd n m q.target (pair_below rd q.target p) in grind (arith, set)
    acts (i.Load kind rd rs1 op2) r p t k = λ e.
        let set = λ (v : ℕ). written rd Unknown v (operands rd rs1 op2 r).target tt in grind (arith, set)
    acts (i.Ldstub rd rs1 op2) r p t k = λ e.
        let set = λ (v : ℕ). written rd Unknown v (operands rd rs1 op2 r).target tt in grind (arith, set)
    acts (i.Swap rd rs1 op2) r p t k = λ e.
        let set = λ (v : ℕ). written rd Unknown v (operands rd rs1 op2 r).target tt in grind (arith, set)
    acts _ r p t k = λ e. grind (arith, h)
