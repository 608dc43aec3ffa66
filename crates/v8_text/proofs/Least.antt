-- The word of an instruction is the least that decodes to it.
use Rattle.v8_text.proofs.Common.{rules, ◌≡◌, ℕ, zero, suc, ◌+◌, ◌<◌, ◌≤◌, ◌-◌, ◌*◌, ◌^◌, Bool, true, false, ◌&&◌, ◌==◌, List, [], ◌∷◌, get_or, codes, Option, Some, None, pos, refl, sym, ap, ◌∙◌, arith, list_any, range_with_len, and_from, and_parts, eqb-false, eqb-true, false_from_ne_true, true≢false, get_or-range_with_len, length-range_with_len, tested, Instr, Op2, AluOp, LoadKind, arithmetic, branch_or_sethi, decode_of, field, memory, decode_of-ranges, cleared, encode_of, has_word, ignored_of, is_instruction, word_of, is_least, is_spelled, lines_from, same_instr, word_text}
use Rattle.std.specs.Fmt.{digits}
use Rattle.std.proofs.lemmas.List.Folds.{list_any_at}
use Rattle.v8_decode.specs.declared.Instr.TheVariants as i
use Rattle.v8_decode.specs.declared.Op2.TheVariants as o
use Rattle.v8_decode.specs.contracts.InstrEq.TheImpl.Laws.{laws-law}
use Rattle.v8_decode.specs.contracts.Op2PartialEq.TheImpl as op2_eq
use Rattle.v8_decode.specs.contracts.AluOpPartialEq.TheImpl as alu_eq
use Rattle.v8_decode.specs.contracts.LoadKindPartialEq.TheImpl as load_eq
use Rattle.v8_encode.proofs.Decoded.{decode_of-word_of}
use Rattle.v8_encode.proofs.Encoded.{encode_of-decode_of}
use Rattle.std.proofs.lemmas.Option.{same_Some}

abbrev op2_same : Op2 → Op2 → Bool
op2_same = (op2_eq.ghosts).eq

abbrev alu_same : AluOp → AluOp → Bool
alu_same = (alu_eq.ghosts).eq

abbrev load_same : LoadKind → LoadKind → Bool
load_same = (load_eq.ghosts).eq

op2_true : (one other : Op2) → op2_same one other ≡ true → one ≡ other
op2_true (o.Reg r) (o.Reg q) same = ap o.Reg (eqb-true r q same)
op2_true (o.Imm m) (o.Imm n) same = search rules
op2_true _ _ same = cc same

load_true : (one other : LoadKind) → load_same one other ≡ true → one ≡ other
load_true one other same = search rules

alu_true : (one other : AluOp) → alu_same one other ≡ true → one ≡ other
alu_true one other same = search rules

bit_true : (b g : Bool) → same_instr (i.Branch 0 b (pos 0)) (i.Branch 0 g (pos 0)) ≡ true → b ≡ g
bit_true true true same = refl
bit_true false false same = refl
bit_true _ _ same = cc same

pub same_true : (one other : Instr) → same_instr one other ≡ true → one ≡ other
same_true (i.Sethi a b) (i.Sethi f g) same = search rules
same_true (i.Branch a b c) (i.Branch f g h) same = search rules
same_true (i.Call a) (i.Call f) same = search rules
same_true (i.Alu a b c d e) (i.Alu f g h j k) same =
    let (op, rest) = and_parts (alu_same a f) _ same in
    let (sets, operands) = and_parts _ _ rest in
    let sets_is = bit_true b g (and_from _ true sets refl) in
    let (rd, sources) = and_parts (c == h) _ operands in
    let (rs1, op2) = and_parts (d == j) _ sources in
    rw (alu_true a f op, sets_is, eqb-true c h rd, eqb-true d j rs1, op2_true e k op2) refl
same_true (i.ReadY a) (i.ReadY f) same = search rules
same_true (i.WriteY a b) (i.WriteY f g) same = search (rules, op2_true)
same_true (i.Jmpl a b c) (i.Jmpl f g h) same = search (rules, op2_true)
same_true (i.Ticc a b c) (i.Ticc f g h) same = search (rules, op2_true)
same_true (i.Flush a b) (i.Flush f g) same = search (rules, op2_true)
same_true i.Stbar i.Stbar same = refl
same_true (i.Save a b c) (i.Save f g h) same = search (rules, op2_true)
same_true (i.Restore a b c) (i.Restore f g h) same = search (rules, op2_true)
same_true (i.Load a b c d) (i.Load f g h j) same = search (rules, load_true, op2_true)
same_true (i.Store a b c d) (i.Store f g h j) same = search (rules, op2_true)
same_true (i.Ldstub a b c) (i.Ldstub f g h) same = search (rules, op2_true)
same_true (i.Swap a b c) (i.Swap f g h) same = search (rules, op2_true)
same_true i.Illegal i.Illegal same = refl
same_true i.Privileged i.Privileged same = refl
same_true i.FpOff i.FpOff same = refl
same_true i.CpOff i.CpOff same = refl
same_true _ _ same = absurd (true≢false (sym same))

pub same_self : (instr : Instr) → same_instr instr instr ≡ true
same_self = laws-law.refl

-- what is no instruction has no word
no_word : (instr : Instr) → is_instruction instr ≡ false → has_word instr ≡ false
no_word i.Illegal none = refl
no_word i.Privileged none = refl
no_word i.FpOff none = refl
no_word i.CpOff none = refl
no_word _ none = cc none

unencoded : (instr : Instr) → is_instruction instr ≡ false → encode_of instr ≡ None
unfolding encode_of
unencoded instr none = rw (no_word instr none) refl

cleared-le : (fields : List (ℕ × ℕ)) (w : ℕ) → cleared fields w ≤ w
cleared-le [] w = omega arith
cleared-le (f ∷ fields) w = omega (arith, cleared-le fields (w - field w f.0 f.1 * 2 ^ f.0))

-- the word of a word's instruction, where it is one: a word that isn't greater, and the same instruction
record Again (w v : ℕ) : Type 0 where
  encoded : encode_of (decode_of w) ≡ Some v
  most : v ≤ w
  decoded : decode_of v ≡ decode_of w

again : (w : ℕ) → w < 2 ^ 32 → is_instruction (decode_of w) ≡ true → Again w (cleared (ignored_of (decode_of w)) w)
unfolding encode_of
again w fits is =
    let v = cleared (ignored_of (decode_of w)) w in
    let encoded = encode_of-decode_of w fits is in
    let (has, word) = tested (has_word (decode_of w)) (word_of (decode_of w)) v encoded in
    record {
      encoded = encoded;
      most = cleared-le (ignored_of (decode_of w)) w;
      decoded = ap decode_of (sym word) ∙ decode_of-word_of (decode_of w) (decode_of-ranges w).0 has;
    }

none_less : (w : ℕ) → w < 2 ^ 32 → is_instruction (decode_of w) ≡ true → cleared (ignored_of (decode_of w)) w ≡ w
    → (v : ℕ) → v < w → same_instr (decode_of v) (decode_of w) ≡ false
none_less w fits is least v less = false_from_ne_true _ (λ same.
    let one = same_true _ _ same in
    let other = again v (omega arith) (ap is_instruction one ∙ is) in
    let these : cleared (ignored_of (decode_of w)) v ≡ w =
    same_Some _ _ (sym (rw one at other.encoded) ∙ (again w fits is).encoded ∙ ap Some least) in
    let most : cleared (ignored_of (decode_of w)) v ≤ v = rw one at other.most in
    omega arith)

none_from : (p : ℕ → Bool) (from n : ℕ) → ((v : ℕ) → v < from + n → p v ≡ false) → list_any p (range_with_len from n) ≡ false
none_from p from zero none = refl
none_from p from (suc n) none = rw (none from (omega arith), none_from p (from + 1) n (λ v less. none v (omega (arith, less)))) refl

-- a word without the bits that its instruction ignores
abbrev own : ℕ → ℕ
own w = cleared (ignored_of (decode_of w)) w

pub least_is : (w : ℕ) → w < 2 ^ 32 → is_instruction (decode_of w) ≡ true → is_least w ≡ (own w == w)
unfolding is_least
least_is w fits is = by (own w == w) refl
  where
    by : (b : Bool) → (own w == w) ≡ b → is_least w ≡ b
    by true same =
        let none : (v : ℕ) → v < 0 + w → same_instr (decode_of v) (decode_of w) ≡ false =
        λ v less. none_less w fits is (eqb-true (own w) w same) v (omega (arith, less)) in
        rw (none_from (λ v. same_instr (decode_of v) (decode_of w)) 0 w none) refl
    by false differs =
        let less : own w < w = omega (arith, (again w fits is).most, eqb-false (own w) w differs) in
        let at : get_or (range_with_len 0 w) (own w) 0 ≡ own w = omega (arith, get_or-range_with_len 0 w (own w) 0 less) in
        let there : same_instr (decode_of (get_or (range_with_len 0 w) (own w) 0)) (decode_of w) ≡ true = rw (at, (again w fits is).decoded) (same_self (decode_of w)) in
        rw (list_any_at (λ v. same_instr (decode_of v) (decode_of w)) (range_with_len 0 w) (own w) 0 (omega (arith, less, length-range_with_len 0 w)) there) refl

-- the word is what its instruction is encoded as
abbrev pub is_word : ℕ → Option ℕ → Bool
is_word w None = false
is_word w (Some again) = again == w

pub spelled_is : (w : ℕ) → w < 2 ^ 32 → is_spelled w ≡ is_word w (encode_of (decode_of w))
spelled_is w fits = by (is_instruction (decode_of w)) refl
  where
    by : (b : Bool) → is_instruction (decode_of w) ≡ b → (b && is_least w) ≡ is_word w (encode_of (decode_of w))
    by true is = rw (encode_of-decode_of w fits is, least_is w fits is) refl
    by false none = rw (unencoded (decode_of w) none) refl

-- ---- some texts

branch_back : word_text 0x10060 0x12bffffe ≡ codes "bne 0x00010058"
unfolding word_text decode_of branch_or_sethi arithmetic memory digits
branch_back = rw (least_is 0x12bffffe (omega arith) refl) refl

a_frame : word_text 0 0x9de3bfa0 ≡ codes "save %o6,-96,%o6"
unfolding word_text decode_of branch_or_sethi arithmetic memory digits
a_frame = rw (least_is 0x9de3bfa0 (omega arith) refl) refl

a_load : word_text 0 0xc2004008 ≡ codes "ld [%g1,%o0],%g1"
unfolding word_text decode_of branch_or_sethi arithmetic memory digits
a_load = rw (least_is 0xc2004008 (omega arith) refl) refl

an_ignored_bit : word_text 0 0xc2004028 ≡ codes ".word 0xc2004028"
unfolding word_text decode_of branch_or_sethi arithmetic memory digits
an_ignored_bit = rw (least_is 0xc2004028 (omega arith) refl) refl

no_instruction : word_text 0 0 ≡ codes ".word 0x00000000"
unfolding word_text decode_of branch_or_sethi arithmetic memory digits
no_instruction = refl

three_words : lines_from 0x10054 (0x82102001 ∷ 0x90102003 ∷ 0x91d02010 ∷ [])
    ≡ codes "00010054 or %g0,1,%g1\n00010058 or %g0,3,%o0\n0001005c ta %g0,16\n"
unfolding word_text decode_of branch_or_sethi arithmetic memory digits
three_words = rw (least_is 0x82102001 (omega arith) refl, least_is 0x90102003 (omega arith) refl, least_is 0x91d02010 (omega arith) refl) refl
