-- Facts that compute: what some of the definitions say of one case.
use Rattle.snippet_code.proofs.Common.{◌≡◌, false, [], ◌∷◌, pos, refl, length, Reg, Icc, Add, Top, registers, snippet_words}
use Rattle.v8_decode.specs.declared.AluOp.TheVariants as ops
use Rattle.v8_decode.specs.declared.Op2.TheVariants as o
use Rattle.v8_decode.specs.declared.Instr.TheVariants as i
use Rattle.v8_decode.specs.declared.LoadKind.TheVariants as loads
use Rattle.v8_decode.specs.declared.StoreKind.TheVariants as stores

-- They compute.
pub one_more : snippet_words 0x20000000 (Reg 1 ∷ Reg 2 ∷ []) [] (Add 0 1 ∷ [])
    ≡ i.Sethi 1 0x80000 ∷ i.Load loads.LD 2 1 (o.Imm (pos 0)) ∷ i.Alu ops.ADD false 2 2 (o.Imm (pos 1))
    ∷ i.Store stores.ST 2 1 (o.Imm (pos 0)) ∷ []
unfolding registers
one_more = refl

top_with_none_dead : length (snippet_words 0x20000000 [] (Reg 2 ∷ []) (Top 1 2 ∷ [])) ≡ 21
unfolding registers
top_with_none_dead = refl

top_with_codes_dead : length (snippet_words 0x20000000 (Icc ∷ Reg 1 ∷ []) (Reg 2 ∷ []) (Top 1 2 ∷ [])) ≡ 7
unfolding registers
top_with_codes_dead = refl
