-- Texts in print: names and operands have neither a space nor a newline.
use Rattle.v8_text.proofs.Common.{◌≡◌, ℕ, suc, ◌*◌, ◌/◌, ◌%◌, ◌<◌, ◌≤◌, ◌^◌, Bool, true, false, nat_lt, ◌&&◌, List, [], ◌∷◌, ◌++◌, codes, decimal, ℤ, pos, negsuc, refl, arith, list_all, and_parts, ltb-true, nat_tests, hex_digit, hex_digit_at, hex_of, is_digit, register_text, decimal_digits, is_whole, Instr, Op2, AluOp, LoadKind, StoreKind, is_in_range, op2_in_range, operands_in_range, fits_signed, has_word, op2_fits, alu_text, branch_text, comma, instr_text, integer_text, load_text, loaded, named, number_text, op2_text, operands, sources, store_text, stored, target_of, trap_text}
use Rattle.v8_decode.specs.declared.Instr.TheVariants as i
use Rattle.v8_decode.specs.declared.Op2.TheVariants as o
use Rattle.v8_text.proofs.Found.{at_each, whole_append}

-- all bytes stand behind the space
abbrev pub is_plain : List ℕ → Bool
is_plain word = list_all (λ byte. nat_lt 32 byte) word

pub plain_whole : (mark : ℕ) → mark ≤ 32 → (word : List ℕ) → is_plain word ≡ true → is_whole mark word ≡ true
plain_whole mark low [] h = refl
plain_whole mark low (byte ∷ word) h = grind (arith, nat_tests, plain_whole mark low word)

plain_append : (one other : List ℕ) → is_plain one ≡ true → is_plain other ≡ true → is_plain (one ++ other) ≡ true
plain_append [] other a b = b
plain_append (byte ∷ one) other a b = grind (arith, nat_tests, plain_append one other)

-- ---- names

pub branch_plain : (cond : ℕ) (annul : Bool) → cond < 16 → is_plain (branch_text cond annul) ≡ true
branch_plain cond true low = at_each (λ k. is_plain (branch_text k true)) 16 refl cond low
branch_plain cond false low = at_each (λ k. is_plain (branch_text k false)) 16 refl cond low

pub trap_plain : (cond : ℕ) → cond < 16 → is_plain (trap_text cond) ≡ true
trap_plain cond low = at_each (λ k. is_plain (trap_text k)) 16 refl cond low

pub alu_plain : (op : AluOp) (cc : Bool) → is_plain (alu_text op cc) ≡ true
alu_plain op cc = grind arith

pub load_plain : (kind : LoadKind) → is_plain (load_text kind) ≡ true
load_plain kind = grind arith

pub store_plain : (kind : StoreKind) → is_plain (store_text kind) ≡ true
store_plain kind = grind arith

-- ---- operands

digits_plain : (word : List ℕ) → list_all is_digit word ≡ true → is_plain word ≡ true
digits_plain [] h = refl
digits_plain (byte ∷ word) h = grind (arith, nat_tests, digits_plain word)

decimal_plain : (n : ℕ) → n < 2 ^ 32 → is_plain (decimal n) ≡ true
decimal_plain n fits = digits_plain (decimal n) (decimal_digits n fits)

register_plain : (reg : ℕ) → reg < 32 → is_plain (register_text reg) ≡ true
register_plain = at_each (λ reg. is_plain (register_text reg)) 32 refl

digit_plain : (n : ℕ) → nat_lt 32 (hex_digit (n % 16)) ≡ true
digit_plain n = at_each (λ k. nat_lt 32 (hex_digit k)) 16 refl (n % 16) (omega arith)

pub hex_plain : (n : ℕ) → is_plain (hex_of n) ≡ true
hex_plain n =
    let at : (place : ℕ) → nat_lt 32 (hex_digit_at n place) ≡ true = λ place. digit_plain (n / 2 ^ (4 * place)) in
    rw (at 7, at 6, at 5, at 4, at 3, at 2, at 1, at 0) refl

integer_plain : (z : ℤ) → fits_signed 13 z ≡ true → is_plain (integer_text z) ≡ true
integer_plain (pos n) fits = let low = ltb-true n (2 ^ 12) fits in decimal_plain n (omega arith)
integer_plain (negsuc n) fits = let low = ltb-true n (2 ^ 12) fits in decimal_plain (suc n) (omega arith)

op2_plain : (op2 : Op2) → op2_in_range op2 ≡ true → op2_fits op2 ≡ true → is_plain (op2_text op2) ≡ true
op2_plain (o.Reg reg) range fits = register_plain reg (ltb-true reg 32 range)
op2_plain (o.Imm z) range fits = integer_plain z fits

sources_plain : (rs1 : ℕ) (op2 : Op2) → operands_in_range rs1 op2 ≡ true → op2_fits op2 ≡ true
    → is_plain (sources rs1 op2) ≡ true
sources_plain rs1 op2 range fits =
    let parts = and_parts (nat_lt rs1 32) (op2_in_range op2) range in
    plain_append (register_text rs1) (44 ∷ op2_text op2) (register_plain rs1 (ltb-true rs1 32 parts.0))
    (op2_plain op2 parts.1 fits)

-- an instruction with a register besides
module _ (rd rs1 : ℕ) (op2 : Op2) (range : (nat_lt rd 32 && operands_in_range rs1 op2) ≡ true)
    (fits : op2_fits op2 ≡ true) where
  last : is_plain (register_text rd) ≡ true
  last = register_plain rd (ltb-true rd 32 (and_parts (nat_lt rd 32) (operands_in_range rs1 op2) range).0)

  two : is_plain (sources rs1 op2) ≡ true
  two = sources_plain rs1 op2 (and_parts (nat_lt rd 32) (operands_in_range rs1 op2) range).1 fits

  operands_plain : is_plain (operands rd rs1 op2) ≡ true
  operands_plain =
      let parts = and_parts (nat_lt rs1 32) (op2_in_range op2) (and_parts (nat_lt rd 32) (operands_in_range rs1 op2) range).1 in
      plain_append (register_text rs1) (44 ∷ comma (op2_text op2) (register_text rd))
      (register_plain rs1 (ltb-true rs1 32 parts.0))
      (plain_append (op2_text op2) (44 ∷ register_text rd) (op2_plain op2 parts.1 fits) last)

  loaded_plain : is_plain (loaded rd rs1 op2) ≡ true
  loaded_plain = plain_append (91 ∷ sources rs1 op2) (93 ∷ 44 ∷ register_text rd) two last

  stored_plain : is_plain (stored rd rs1 op2) ≡ true
  stored_plain =
      plain_append (register_text rd) (44 ∷ (91 ∷ sources rs1 op2) ++ (93 ∷ [])) last
      (plain_append (91 ∷ sources rs1 op2) (93 ∷ []) two refl)

-- ---- and so no text has a newline

pub named_whole : (name others : List ℕ) → is_plain name ≡ true → is_plain others ≡ true
    → is_whole 10 (named name others) ≡ true
named_whole name others a b =
    whole_append 10 name (32 ∷ others) (plain_whole 10 (omega arith) name a) (plain_whole 10 (omega arith) others b)

pub instr_whole : (at : ℕ) (instr : Instr) → is_in_range instr ≡ true → has_word instr ≡ true
    → is_whole 10 (instr_text at instr) ≡ true
instr_whole at (i.Sethi rd imm22) range has =
    let low = ltb-true imm22 (2 ^ 22) has in
    named_whole (codes "sethi") (comma (decimal imm22) (register_text rd)) refl
    (plain_append (decimal imm22) (44 ∷ register_text rd) (decimal_plain imm22 (omega arith))
    (register_plain rd (ltb-true rd 32 range)))
instr_whole at (i.Branch cond annul disp22) range has =
    let target = target_of at disp22 in
    named_whole (branch_text cond annul) (number_text target) (branch_plain cond annul (ltb-true cond 16 range)) (hex_plain target)
instr_whole at (i.Call disp30) range has =
    let target = target_of at disp30 in named_whole (codes "call") (number_text target) refl (hex_plain target)
instr_whole at (i.Alu op cc rd rs1 op2) range has =
    named_whole (alu_text op cc) (operands rd rs1 op2) (alu_plain op cc)
    (operands_plain rd rs1 op2 range (and_parts _ (op2_fits op2) has).1)
instr_whole at (i.ReadY rd) range has =
    named_whole (codes "rd") (comma (codes "%y") (register_text rd)) refl (register_plain rd (ltb-true rd 32 range))
instr_whole at (i.WriteY rs1 op2) range has =
    let parts = and_parts (nat_lt rs1 32) (op2_in_range op2) range in
    named_whole (codes "wr") (comma (register_text rs1) (comma (op2_text op2) (codes "%y"))) refl
    (plain_append (register_text rs1) (44 ∷ comma (op2_text op2) (codes "%y")) (register_plain rs1 (ltb-true rs1 32 parts.0))
    (plain_append (op2_text op2) (44 ∷ codes "%y") (op2_plain op2 parts.1 has) refl))
instr_whole at (i.Jmpl rd rs1 op2) range has =
    named_whole (codes "jmpl") (operands rd rs1 op2) refl (operands_plain rd rs1 op2 range has)
instr_whole at (i.Ticc cond rs1 op2) range has =
    let parts = and_parts (nat_lt cond 16) (operands_in_range rs1 op2) range in
    named_whole (trap_text cond) (sources rs1 op2) (trap_plain cond (ltb-true cond 16 parts.0))
    (sources_plain rs1 op2 parts.1 has)
instr_whole at (i.Flush rs1 op2) range has =
    named_whole (codes "flush") (sources rs1 op2) refl (sources_plain rs1 op2 range has)
instr_whole at (i.Save rd rs1 op2) range has =
    named_whole (codes "save") (operands rd rs1 op2) refl (operands_plain rd rs1 op2 range has)
instr_whole at (i.Restore rd rs1 op2) range has =
    named_whole (codes "restore") (operands rd rs1 op2) refl (operands_plain rd rs1 op2 range has)
instr_whole at (i.Load kind rd rs1 op2) range has =
    named_whole (load_text kind) (loaded rd rs1 op2) (load_plain kind)
    (loaded_plain rd rs1 op2 range (and_parts _ (op2_fits op2) has).1)
instr_whole at (i.Store kind rd rs1 op2) range has =
    named_whole (store_text kind) (stored rd rs1 op2) (store_plain kind)
    (stored_plain rd rs1 op2 range (and_parts _ (op2_fits op2) has).1)
instr_whole at (i.Ldstub rd rs1 op2) range has =
    named_whole (codes "ldstub") (loaded rd rs1 op2) refl (loaded_plain rd rs1 op2 range has)
instr_whole at (i.Swap rd rs1 op2) range has =
    named_whole (codes "swap") (loaded rd rs1 op2) refl (loaded_plain rd rs1 op2 range has)
instr_whole at instr range has = refl
