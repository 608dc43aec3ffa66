-- What contracts of this crate's code and laws cite beyond the statement.
use Rattle.std.specs.Prelude.{ℕ, ◌-◌, ◌^◌, Bool, ℤ, pos, negsuc, nat_lt, true, false, ◌&&◌, Option, Some, None, if◌then◌else◌, List, [], ◌∷◌, ◌*◌, ◌≡◌, ◌<◌, IsTrue, map}
use Rattle.v8_decode.specs.declared.Op2.{Op2}
use Rattle.v8_decode.specs.declared.Op2.TheVariants as o
use Rattle.v8_decode.specs.declared.Instr.{Instr}
use Rattle.v8_decode.specs.declared.Instr.TheVariants as i
use Rattle.v8_decode.specs.Forms.{has_form}
use Rattle.v8_decode.specs.Ranges.{has_even_pair}
use Rattle.v8_decode.specs.Words.{field, decode_of}
use Rattle.v8_encode.specs.Encoding.{word_of, is_instruction}

-- whether a number fits a field of `width` bits in two's complement
abbrev pub fits_signed : ℕ → ℤ → Bool
fits_signed width (pos n) = nat_lt n (2 ^ (width - 1))
fits_signed width (negsuc n) = nat_lt n (2 ^ (width - 1))

abbrev pub op2_fits : Op2 → Bool
op2_fits (o.Reg rs2) = true
op2_fits (o.Imm simm13) = fits_signed 13 simm13

-- Whether some word is this instruction: each immediate is within its field, the operation has the form
-- that sets codes or the one that leaves them, and a doubleword's rd is even.
abbrev pub has_word : Instr → Bool
has_word (i.Sethi rd imm22) = nat_lt imm22 (2 ^ 22)
has_word (i.Branch cond annul disp22) = fits_signed 22 disp22
has_word (i.Call disp30) = fits_signed 30 disp30
has_word (i.Alu op cc rd rs1 op2) = has_form op cc && op2_fits op2
has_word (i.ReadY rd) = true
has_word (i.WriteY rs1 op2) = op2_fits op2
has_word (i.Jmpl rd rs1 op2) = op2_fits op2
has_word (i.Ticc cond rs1 op2) = op2_fits op2
has_word (i.Flush rs1 op2) = op2_fits op2
has_word i.Stbar = true
has_word (i.Save rd rs1 op2) = op2_fits op2
has_word (i.Restore rd rs1 op2) = op2_fits op2
has_word (i.Load kind rd rs1 op2) = has_even_pair (i.Load kind rd rs1 op2) && op2_fits op2
has_word (i.Store kind rd rs1 op2) = has_even_pair (i.Store kind rd rs1 op2) && op2_fits op2
has_word (i.Ldstub rd rs1 op2) = op2_fits op2
has_word (i.Swap rd rs1 op2) = op2_fits op2
has_word i.Illegal = false
has_word i.Privileged = false
has_word i.FpOff = false
has_word i.CpOff = false

abbrev pub words_of : List Instr → List ℕ
words_of instrs = map word_of instrs

unfoldable pub encode_of : Instr → Option ℕ
encode_of instr = if has_word instr then Some (word_of instr) else None

-- The fields that a form ignores, each as its lowest bit and its width: bits 12 to 5 beside rs2, the
-- reserved bit 29 of Ticc, all below rs1 in RDY and STBAR, rd of FLUSH.
abbrev pub ignored_beside : Op2 → List (ℕ × ℕ)
ignored_beside (o.Reg rs2) = (5, 8) ∷ []
ignored_beside (o.Imm simm13) = []

abbrev pub ignored_of : Instr → List (ℕ × ℕ)
ignored_of (i.Alu op cc rd rs1 op2) = ignored_beside op2
ignored_of (i.ReadY rd) = (0, 14) ∷ []
ignored_of (i.WriteY rs1 op2) = ignored_beside op2
ignored_of (i.Jmpl rd rs1 op2) = ignored_beside op2
ignored_of (i.Ticc cond rs1 op2) = (29, 1) ∷ ignored_beside op2
ignored_of (i.Flush rs1 op2) = (25, 5) ∷ ignored_beside op2
ignored_of i.Stbar = (0, 14) ∷ []
ignored_of (i.Save rd rs1 op2) = ignored_beside op2
ignored_of (i.Restore rd rs1 op2) = ignored_beside op2
ignored_of (i.Load kind rd rs1 op2) = ignored_beside op2
ignored_of (i.Store kind rd rs1 op2) = ignored_beside op2
ignored_of (i.Ldstub rd rs1 op2) = ignored_beside op2
ignored_of (i.Swap rd rs1 op2) = ignored_beside op2
ignored_of _ = []

-- a word with 0 in each of these fields
abbrev pub cleared : List (ℕ × ℕ) → ℕ → ℕ
cleared [] w = w
cleared (f ∷ fields) w = cleared fields (w - field w f.0 f.1 * 2 ^ f.0)

-- what an instruction's encoding is for each word that decodes to it
abbrev pub EncodesAgain : Instr → Option ℕ → Type 0
EncodesAgain instr encoded = (w : ℕ) → w < 2 ^ 32 → decode_of w ≡ instr → IsTrue (is_instruction instr) → encoded ≡ Some (cleared (ignored_of instr) w)
