-- Which forms an arithmetic instruction has: one that sets the codes, one that leaves them, or both. Sections are
-- those of The SPARC Architecture Manual, Version 8.
use Rattle.std.specs.Prelude.{Bool, true, not}
use Rattle.v8_decode.specs.declared.AluOp.{AluOp}
use Rattle.v8_decode.specs.declared.AluOp.TheVariants as ops

-- whether a word can have the operation with this cc: shifts never set the codes (B.12), tagged operations
-- and the multiply step always do (B.14, B.16, B.17)
abbrev pub has_form : AluOp → Bool → Bool
has_form ops.SLL cc = not cc
has_form ops.SRL cc = not cc
has_form ops.SRA cc = not cc
has_form ops.TADDcc cc = cc
has_form ops.TSUBcc cc = cc
has_form ops.TADDccTV cc = cc
has_form ops.TSUBccTV cc = cc
has_form ops.MULScc cc = cc
has_form _ cc = true
