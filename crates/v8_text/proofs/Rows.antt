-- Operands in a row.
use Rattle.v8_text.proofs.Common.{◌≡◌, ℕ, ◌<◌, ◌^◌, ◌==◌, true, List, [], ◌∷◌, ◌++◌, length, Some, decimal, codes, refl, ap, ap₂, subst, ◌∙◌, arith, eqb-true, register_text, register_of, split_at, number_back, register_back, register_read, decimal_whole, is_whole, split_back, split_read, step, tested, Op2, op2_in_range, op2_fits, comma, loaded, op2_text, operands, sources, stored, behind, loaded_of, op2_of, operands_of, read_y_of, sethi_of, sources_of, stored_of, write_y_of}
use Rattle.v8_decode.specs.declared.Instr.TheVariants as i
use Rattle.v8_text.proofs.Found.{behind_back, behind_read, register_whole-44, register_whole-93, whole_append}
use Rattle.v8_text.proofs.Integers.{op2_back, op2_read, op2_whole-44, op2_whole-93}

-- what may stand in operands
pub record AreFit (rs1 : ℕ) (op2 : Op2) : Type 0 where
  pub low : rs1 < 32
  pub range : op2_in_range op2 ≡ true
  pub fits : op2_fits op2 ≡ true

-- ---- rs1,op2

pub sources_back : (rs1 : ℕ) (op2 : Op2) → AreFit rs1 op2 → sources_of (sources rs1 op2) ≡ Some (rs1, op2)
unfolding sources_of
sources_back rs1 op2 h =
    rw (
      split_back 44 (register_text rs1) (op2_text op2) (register_whole-44 rs1 h.low),
      register_back rs1 h.low,
      op2_back op2 h.range h.fits,
    ) refl

pub sources_read : (word : List ℕ) (p : ℕ × Op2) → sources_of word ≡ Some p → word ≡ sources p.0 p.1
unfolding sources_of
sources_read word p h =
    step (λ (p : ℕ × Op2). word ≡ sources p.0 p.1) (split_at 44 word) _ (λ parts a.
    step (λ (p : ℕ × Op2). word ≡ sources p.0 p.1) (register_of parts.0) _ (λ rs1 b.
    step (λ (p : ℕ × Op2). word ≡ sources p.0 p.1) (op2_of parts.1) _ (λ op2 c p same.
    subst (λ (p : ℕ × Op2). word ≡ sources p.0 p.1) (cc same)
    (split_read 44 word parts a ∙ ap₂ comma (register_read parts.0 rs1 b).0 (op2_read parts.1 op2 c))))) p h

-- ---- rs1,op2,rd

pub operands_back : (rd rs1 : ℕ) (op2 : Op2) → rd < 32 → AreFit rs1 op2
    → operands_of (operands rd rs1 op2) ≡ Some (rd, rs1, op2)
unfolding operands_of
operands_back rd rs1 op2 low h =
    rw (
      split_back 44 (register_text rs1) (comma (op2_text op2) (register_text rd)) (register_whole-44 rs1 h.low),
      register_back rs1 h.low,
      split_back 44 (op2_text op2) (register_text rd) (op2_whole-44 op2 h.range h.fits),
      op2_back op2 h.range h.fits,
      register_back rd low,
    ) refl

abbrev AreOperands : List ℕ → ℕ × ℕ × Op2 → Type 0
AreOperands word p = word ≡ operands p.0 p.1 p.2

pub operands_read : (word : List ℕ) (p : ℕ × ℕ × Op2) → operands_of word ≡ Some p → word ≡ operands p.0 p.1 p.2
unfolding operands_of
operands_read word p h =
    step (AreOperands word) (split_at 44 word) _ (λ first a.
    step (AreOperands word) (register_of first.0) _ (λ rs1 b.
    step (AreOperands word) (split_at 44 first.1) _ (λ second c.
    step (AreOperands word) (op2_of second.0) _ (λ op2 d.
    step (AreOperands word) (register_of second.1) _ (λ rd e p same.
    subst (AreOperands word) (cc same)
    (split_read 44 word first a ∙ ap₂ comma (register_read first.0 rs1 b).0
    (split_read 44 first.1 second c ∙ ap₂ comma (op2_read second.0 op2 d) (register_read second.1 rd e).0))))))) p h

-- ---- [rs1,op2],rd and rd,[rs1,op2]

address_whole : (rs1 : ℕ) (op2 : Op2) → AreFit rs1 op2 → is_whole 93 (91 ∷ sources rs1 op2) ≡ true
address_whole rs1 op2 h =
    whole_append 93 (register_text rs1) (44 ∷ op2_text op2) (register_whole-93 rs1 h.low)
    (op2_whole-93 op2 h.range h.fits)

pub loaded_back : (rd rs1 : ℕ) (op2 : Op2) → rd < 32 → AreFit rs1 op2
    → loaded_of (loaded rd rs1 op2) ≡ Some (rd, rs1, op2)
unfolding loaded_of
loaded_back rd rs1 op2 low h =
    rw (
      split_back 93 (91 ∷ sources rs1 op2) (44 ∷ register_text rd) (address_whole rs1 op2 h),
      behind_back 91 (sources rs1 op2),
      sources_back rs1 op2 h,
      behind_back 44 (register_text rd),
      register_back rd low,
    ) refl

abbrev AreLoaded : List ℕ → ℕ × ℕ × Op2 → Type 0
AreLoaded word p = word ≡ loaded p.0 p.1 p.2

glue : List ℕ → List ℕ → List ℕ
glue one other = one ++ (93 ∷ other)

pub loaded_read : (word : List ℕ) (p : ℕ × ℕ × Op2) → loaded_of word ≡ Some p → word ≡ loaded p.0 p.1 p.2
unfolding loaded_of glue
loaded_read word p h =
    step (AreLoaded word) (split_at 93 word) _ (λ parts a.
    step (AreLoaded word) (behind 91 parts.0) _ (λ inner b.
    step (AreLoaded word) (sources_of inner) _ (λ from c.
    step (AreLoaded word) (behind 44 parts.1) _ (λ last d.
    step (AreLoaded word) (register_of last) _ (λ rd e p same.
    subst (AreLoaded word) (cc same)
    (split_read 93 word parts a
    ∙ ap₂ glue (behind_read 91 parts.0 inner b ∙ ap (λ (rest : List ℕ). 91 ∷ rest) (sources_read inner from c))
    (behind_read 44 parts.1 last d ∙ ap (λ (rest : List ℕ). 44 ∷ rest) (register_read last rd e).0))))))) p h

pub stored_back : (rd rs1 : ℕ) (op2 : Op2) → rd < 32 → AreFit rs1 op2
    → stored_of (stored rd rs1 op2) ≡ Some (rd, rs1, op2)
unfolding stored_of
stored_back rd rs1 op2 low h =
    rw (
      split_back 44 (register_text rd) ((91 ∷ sources rs1 op2) ++ (93 ∷ [])) (register_whole-44 rd low),
      register_back rd low,
      behind_back 91 (sources rs1 op2 ++ (93 ∷ [])),
      split_back 93 (sources rs1 op2) [] (address_whole rs1 op2 h),
      sources_back rs1 op2 h,
    ) refl

empty : (rest : List ℕ) → (length rest == 0) ≡ true → rest ≡ []
empty [] h = refl
empty (byte ∷ bytes) h = let none = eqb-true (length (byte ∷ bytes)) 0 h in absurd (omega (arith, none))

abbrev AreStored : List ℕ → ℕ × ℕ × Op2 → Type 0
AreStored word p = word ≡ stored p.0 p.1 p.2

pub stored_read : (word : List ℕ) (p : ℕ × ℕ × Op2) → stored_of word ≡ Some p → word ≡ stored p.0 p.1 p.2
unfolding stored_of glue
stored_read word p h =
    step (AreStored word) (split_at 44 word) _ (λ first a.
    step (AreStored word) (register_of first.0) _ (λ rd b.
    step (AreStored word) (behind 91 first.1) _ (λ rest c.
    step (AreStored word) (split_at 93 rest) _ (λ parts d.
    step (AreStored word) (sources_of parts.0) _ (λ from e p last.
    let ends = tested (length parts.1 == 0) (rd, from.0, from.1) p last in
    subst (AreStored word) ends.1
    (split_read 44 word first a ∙ ap₂ comma (register_read first.0 rd b).0
    (behind_read 91 first.1 rest c ∙ ap (λ (others : List ℕ). 91 ∷ others)
    (split_read 93 rest parts d ∙ ap₂ glue (sources_read parts.0 from e) (empty parts.1 ends.0))))))))) p h

-- ---- SETHI, RDY and WRY

pub sethi_back : (rd imm22 : ℕ) → rd < 32 → imm22 < 2 ^ 22
    → sethi_of (comma (decimal imm22) (register_text rd)) ≡ Some (i.Sethi rd imm22)
unfolding sethi_of
sethi_back rd imm22 low fits =
    rw (
      split_back 44 (decimal imm22) (register_text rd) (decimal_whole 44 refl imm22 (omega arith)),
      number_back imm22 (omega arith),
      register_back rd low,
    ) refl

pub read_y_back : (rd : ℕ) → rd < 32 → read_y_of (comma (codes "%y") (register_text rd)) ≡ Some (i.ReadY rd)
unfolding read_y_of
read_y_back rd low = rw (split_back 44 (codes "%y") (register_text rd) refl, register_back rd low) refl

pub write_y_back : (rs1 : ℕ) (op2 : Op2) → AreFit rs1 op2
    → write_y_of (comma (register_text rs1) (comma (op2_text op2) (codes "%y"))) ≡ Some (i.WriteY rs1 op2)
unfolding write_y_of
write_y_back rs1 op2 h =
    rw (
      split_back 44 (register_text rs1) (comma (op2_text op2) (codes "%y")) (register_whole-44 rs1 h.low),
      register_back rs1 h.low,
      split_back 44 (op2_text op2) (codes "%y") (op2_whole-44 op2 h.range h.fits),
      op2_back op2 h.range h.fits,
    ) refl
