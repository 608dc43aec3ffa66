-- Instructions.
use Rattle.v8_text.proofs.Common.{◌≡◌, ℕ, ◌<◌, ◌^◌, true, false, nat_lt, ◌&&◌, List, codes, Option, Some, None, ℤ, inl, inr, refl, ap, ap₂, sym, subst, ◌∙◌, arith, bytes_eq, option_map, and_parts, ltb-true, true≢false, false_from_ne_true, nat_tests, number_of, register_of, split_at, number_read, register_read, is_whole, split_back, split_read, chosen, mapped, step, tested, Instr, Op2, has_form, has_even_pair, is_in_range, op2_in_range, operands_in_range, fits_signed, has_word, op2_fits, Name, alu_text, branch_text, comma, instr_text, load_text, named, number_text, sources, store_text, target_of, trap_text, displacement_of, instr_in, instr_of, joined_of, name_of, single_of, op2_of, read_y_of, sethi_of, sources_of, with_operands, with_sources, write_y_of}
use Rattle.v8_decode.specs.declared.Instr.TheVariants as i
use Rattle.v8_text.specs.declared.names.Name.TheVariants as n
use Rattle.v8_text.proofs.Found.{text_is}
use Rattle.v8_text.proofs.Integers.{op2_read}
use Rattle.v8_text.proofs.Rows.{AreFit, loaded_back, loaded_read, operands_back, operands_read, read_y_back, sethi_back, sources_back, sources_read, stored_back, stored_read, write_y_back}
use Rattle.v8_text.proofs.Plain.{alu_plain, branch_plain, is_plain, load_plain, plain_whole, store_plain, trap_plain}
use Rattle.v8_text.proofs.Targets.{displacement_back, displacement_read}
use Rattle.v8_text.proofs.Named.{alu_back, branch_back, load_back, name_read, name_text, store_back, trap_back}

-- ---- a text with operands

one_word : split_at 32 (codes "stbar") ≡ None
unfolding split_at
one_word = refl

pub apart : (name rest : List ℕ) → is_whole 32 name ≡ true → bytes_eq (named name rest) (codes "stbar") ≡ false
apart name rest whole = false_from_ne_true _ (λ is.
    cc (sym (split_back 32 name rest whole) ∙ ap (split_at 32) (text_is (named name rest) (codes "stbar") is) ∙ one_word))

named_back : (at : ℕ) (name rest : List ℕ) (what : Name) (instr : Instr) → is_plain name ≡ true
    → name_of name ≡ Some what → instr_in at what rest ≡ Some instr → instr_of at (named name rest) ≡ Some instr
unfolding instr_of
named_back at name rest what instr plain is of =
    let whole = plain_whole 32 (omega arith) name plain in
    rw (apart name rest whole, split_back 32 name rest whole, is, of) refl

fit : (rs1 : ℕ) (op2 : Op2) → operands_in_range rs1 op2 ≡ true → op2_fits op2 ≡ true → AreFit rs1 op2
fit rs1 op2 range fits =
    let parts = and_parts (nat_lt rs1 32) (op2_in_range op2) range in
    record { low = ltb-true rs1 32 parts.0; range = parts.1; fits = fits }

-- operands that are read, of an instruction with three
three : (make : ℕ → ℕ → Op2 → Instr) {rd rs1 : ℕ} {op2 : Op2} {found : Option (ℕ × ℕ × Op2)}
    → (rd < 32 → AreFit rs1 op2 → found ≡ Some (rd, rs1, op2)) → (nat_lt rd 32 && operands_in_range rs1 op2) ≡ true
    → op2_fits op2 ≡ true → with_operands make found ≡ Some (make rd rs1 op2)
three make {rd} {rs1} {op2} back range fits =
    let parts = and_parts (nat_lt rd 32) (operands_in_range rs1 op2) range in
    ap (with_operands make) (back (ltb-true rd 32 parts.0) (fit rs1 op2 parts.1 fits))

two : (make : ℕ → Op2 → Instr) (rs1 : ℕ) (op2 : Op2) → operands_in_range rs1 op2 ≡ true → op2_fits op2 ≡ true
    → with_sources make (sources_of (sources rs1 op2)) ≡ Some (make rs1 op2)
two make rs1 op2 range fits = ap (with_sources make) (sources_back rs1 op2 (fit rs1 op2 range fits))

wider : (z : ℤ) → fits_signed 22 z ≡ true → fits_signed 30 z ≡ true
wider z fits = grind (arith, nat_tests)

stbar_back : (at : ℕ) → instr_of at (codes "stbar") ≡ Some i.Stbar
unfolding instr_of
stbar_back at = refl

-- what is written is read
pub instr_back : (at : ℕ) (instr : Instr) → at < 2 ^ 32 → is_in_range instr ≡ true → has_word instr ≡ true
    → instr_of at (instr_text at instr) ≡ Some instr
unfolding instr_in name_of joined_of single_of
instr_back at (i.Sethi rd imm22) low range has =
    named_back at (codes "sethi") _ n.Sethi _ refl refl
    (sethi_back rd imm22 (ltb-true rd 32 range) (ltb-true imm22 (2 ^ 22) has))
instr_back at (i.Branch cond annul disp22) low range has =
    let small = ltb-true cond 16 range in
    named_back at (branch_text cond annul) _ (n.Branch cond annul) _ (branch_plain cond annul small)
    (branch_back cond annul small)
    (ap (option_map (i.Branch cond annul)) (displacement_back at disp22 low (wider disp22 has)))
instr_back at (i.Call disp30) low range has =
    named_back at (codes "call") _ n.Call _ refl refl (ap (option_map i.Call) (displacement_back at disp30 low has))
instr_back at (i.Alu op cc rd rs1 op2) low range has =
    let parts = and_parts (has_form op cc) (op2_fits op2) has in
    named_back at (alu_text op cc) _ (n.Alu op cc) _ (alu_plain op cc) (alu_back op cc parts.0)
    (three (i.Alu op cc) (operands_back rd rs1 op2) range parts.1)
instr_back at (i.ReadY rd) low range has =
    named_back at (codes "rd") _ n.ReadY _ refl refl (read_y_back rd (ltb-true rd 32 range))
instr_back at (i.WriteY rs1 op2) low range has =
    named_back at (codes "wr") _ n.WriteY _ refl refl (write_y_back rs1 op2 (fit rs1 op2 range has))
instr_back at (i.Jmpl rd rs1 op2) low range has =
    named_back at (codes "jmpl") _ n.Jmpl _ refl refl (three i.Jmpl (operands_back rd rs1 op2) range has)
instr_back at (i.Ticc cond rs1 op2) low range has =
    let parts = and_parts (nat_lt cond 16) (operands_in_range rs1 op2) range in
    let small = ltb-true cond 16 parts.0 in
    named_back at (trap_text cond) _ (n.Ticc cond) _ (trap_plain cond small) (trap_back cond small)
    (two (i.Ticc cond) rs1 op2 parts.1 has)
instr_back at (i.Flush rs1 op2) low range has =
    named_back at (codes "flush") _ n.Flush _ refl refl (two i.Flush rs1 op2 range has)
instr_back at i.Stbar low range has = stbar_back at
instr_back at (i.Save rd rs1 op2) low range has =
    named_back at (codes "save") _ n.Save _ refl refl (three i.Save (operands_back rd rs1 op2) range has)
instr_back at (i.Restore rd rs1 op2) low range has =
    named_back at (codes "restore") _ n.Restore _ refl refl (three i.Restore (operands_back rd rs1 op2) range has)
instr_back at (i.Load kind rd rs1 op2) low range has =
    let parts = and_parts (has_even_pair (i.Load kind rd rs1 op2)) (op2_fits op2) has in
    named_back at (load_text kind) _ (n.Load kind) _ (load_plain kind) (load_back kind)
    (three (i.Load kind) (loaded_back rd rs1 op2) range parts.1)
instr_back at (i.Store kind rd rs1 op2) low range has =
    let parts = and_parts (has_even_pair (i.Store kind rd rs1 op2)) (op2_fits op2) has in
    named_back at (store_text kind) _ (n.Store kind) _ (store_plain kind) (store_back kind)
    (three (i.Store kind) (stored_back rd rs1 op2) range parts.1)
instr_back at (i.Ldstub rd rs1 op2) low range has =
    named_back at (codes "ldstub") _ n.Ldstub _ refl refl (three i.Ldstub (loaded_back rd rs1 op2) range has)
instr_back at (i.Swap rd rs1 op2) low range has =
    named_back at (codes "swap") _ n.Swap _ refl refl (three i.Swap (loaded_back rd rs1 op2) range has)
instr_back at instr low range has = absurd (true≢false (sym has))

-- ---- and nothing else

module _ (at : ℕ) where
  -- the operands of a name are those of an instruction
  abbrev IsText : List ℕ → List ℕ → Instr → Type 0
  IsText name word instr = named name word ≡ instr_text at instr

  sethi_read : (word : List ℕ) (instr : Instr) → sethi_of word ≡ Some instr → IsText (codes "sethi") word instr
  unfolding sethi_of
  sethi_read word instr h =
      step (IsText (codes "sethi") word) (split_at 44 word) _ (λ parts a.
      step (IsText (codes "sethi") word) (number_of parts.0) _ (λ imm22 b.
      step (IsText (codes "sethi") word) (register_of parts.1) _ (λ rd c instr same.
      let one : i.Sethi rd imm22 ≡ instr = cc same in
      subst (IsText (codes "sethi") word) one
      (ap (named (codes "sethi")) (split_read 44 word parts a
      ∙ ap₂ comma (number_read parts.0 imm22 b).0 (register_read parts.1 rd c).0))))) instr h

  read_y_read : (word : List ℕ) (instr : Instr) → read_y_of word ≡ Some instr → IsText (codes "rd") word instr
  unfolding read_y_of
  read_y_read word instr h =
      step (IsText (codes "rd") word) (split_at 44 word) _ (λ parts a.
      step (IsText (codes "rd") word) (register_of parts.1) _ (λ rd b instr last.
      let end = tested (bytes_eq parts.0 (codes "%y")) (i.ReadY rd) instr last in
      subst (IsText (codes "rd") word) end.1
      (ap (named (codes "rd")) (split_read 44 word parts a
      ∙ ap₂ comma (text_is parts.0 (codes "%y") end.0) (register_read parts.1 rd b).0)))) instr h

  write_y_read : (word : List ℕ) (instr : Instr) → write_y_of word ≡ Some instr → IsText (codes "wr") word instr
  unfolding write_y_of
  write_y_read word instr h =
      step (IsText (codes "wr") word) (split_at 44 word) _ (λ first a.
      step (IsText (codes "wr") word) (register_of first.0) _ (λ rs1 b.
      step (IsText (codes "wr") word) (split_at 44 first.1) _ (λ second c.
      step (IsText (codes "wr") word) (op2_of second.0) _ (λ op2 d instr last.
      let end = tested (bytes_eq second.1 (codes "%y")) (i.WriteY rs1 op2) instr last in
      subst (IsText (codes "wr") word) end.1
      (ap (named (codes "wr")) (split_read 44 word first a ∙ ap₂ comma (register_read first.0 rs1 b).0
      (split_read 44 first.1 second c
      ∙ ap₂ comma (op2_read second.0 op2 d) (text_is second.1 (codes "%y") end.0)))))))) instr h

  module _ (name word : List ℕ) (instr : Instr) where
    by_operands : (make : ℕ → ℕ → Op2 → Instr) {parts : Option (ℕ × ℕ × Op2)} {rest : ℕ × ℕ × Op2 → List ℕ}
        → ((p : ℕ × ℕ × Op2) → parts ≡ Some p → word ≡ rest p)
        → ((p : ℕ × ℕ × Op2) → named name (rest p) ≡ instr_text at (make p.0 p.1 p.2))
        → with_operands make parts ≡ Some instr → IsText name word instr
    by_operands make {parts} read spelled h =
        let found = mapped (λ (p : ℕ × ℕ × Op2). make p.0 p.1 p.2) parts instr h in
        ap (named name) (read found.got found.is) ∙ spelled found.got ∙ ap (instr_text at) found.same

    by_sources : (make : ℕ → Op2 → Instr) → ((p : ℕ × Op2) → named name (sources p.0 p.1) ≡ instr_text at (make p.0 p.1))
        → with_sources make (sources_of word) ≡ Some instr → IsText name word instr
    by_sources make spelled h =
        let found = mapped (λ (p : ℕ × Op2). make p.0 p.1) (sources_of word) instr h in
        ap (named name) (sources_read word found.got found.is) ∙ spelled found.got ∙ ap (instr_text at) found.same

    by_displacement : (make : ℤ → Instr) → at < 2 ^ 32
        → ((z : ℤ) → named name (number_text (target_of at z)) ≡ instr_text at (make z))
        → option_map make (displacement_of at word) ≡ Some instr → IsText name word instr
    by_displacement make low each h =
        let found = mapped make (displacement_of at word) instr h in
        ap (named name) (displacement_read at word found.got low found.is) ∙ each found.got
        ∙ ap (instr_text at) found.same

  in_read : (what : Name) (word : List ℕ) (instr : Instr) → at < 2 ^ 32 → instr_in at what word ≡ Some instr
      → IsText (name_text what) word instr
  unfolding instr_in
  in_read n.Sethi word instr low h = sethi_read word instr h
  in_read (n.Branch cond annul) word instr low h =
      by_displacement (branch_text cond annul) word instr (i.Branch cond annul) low (λ z. refl) h
  in_read n.Call word instr low h = by_displacement (codes "call") word instr i.Call low (λ z. refl) h
  in_read (n.Alu op cc) word instr low h =
      by_operands (alu_text op cc) word instr (i.Alu op cc) (operands_read word) (λ p. refl) h
  in_read n.ReadY word instr low h = read_y_read word instr h
  in_read n.WriteY word instr low h = write_y_read word instr h
  in_read n.Jmpl word instr low h = by_operands (codes "jmpl") word instr i.Jmpl (operands_read word) (λ p. refl) h
  in_read (n.Ticc cond) word instr low h = by_sources (trap_text cond) word instr (i.Ticc cond) (λ p. refl) h
  in_read n.Flush word instr low h = by_sources (codes "flush") word instr i.Flush (λ p. refl) h
  in_read n.Save word instr low h = by_operands (codes "save") word instr i.Save (operands_read word) (λ p. refl) h
  in_read n.Restore word instr low h = by_operands (codes "restore") word instr i.Restore (operands_read word) (λ p. refl) h
  in_read (n.Load kind) word instr low h = by_operands (load_text kind) word instr (i.Load kind) (loaded_read word) (λ p. refl) h
  in_read (n.Store kind) word instr low h =
      by_operands (store_text kind) word instr (i.Store kind) (stored_read word) (λ p. refl) h
  in_read n.Ldstub word instr low h = by_operands (codes "ldstub") word instr i.Ldstub (loaded_read word) (λ p. refl) h
  in_read n.Swap word instr low h = by_operands (codes "swap") word instr i.Swap (loaded_read word) (λ p. refl) h

  pub instr_read : (text : List ℕ) (instr : Instr) → at < 2 ^ 32 → instr_of at text ≡ Some instr
      → text ≡ instr_text at instr
  unfolding instr_of
  instr_read text instr low h =
      elim (chosen (bytes_eq text (codes "stbar")) (Some i.Stbar) _ instr h) as (λ _. text ≡ instr_text at instr) [
        | inl is ↦ let same : i.Stbar ≡ instr = cc is.1 in
            text_is text (codes "stbar") is.0 ∙ ap (instr_text at) same
        | inr is ↦ step (λ (x : Instr). text ≡ instr_text at x) (split_at 32 text) _ (λ parts a.
            step (λ (x : Instr). text ≡ instr_text at x) (name_of parts.0) _ (λ what b x c.
            split_read 32 text parts a ∙ ap (λ (name : List ℕ). named name parts.1) (name_read parts.0 what b)
            ∙ in_read what parts.1 x low c)) instr is.1
      ]
