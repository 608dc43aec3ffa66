-- The words compute.
use Rattle.jump_code.proofs.Common.{◌≡◌, [], ◌∷◌, map, Some, pos, refl, Imm, Reg, encode_of, translate_target, jump_translated, free_register, other_register, link, foreign, save_load_address, switch_jump}

-- jmpl %o7 + 8, %g0 at 0x10058, through %g1 and %g2, with the table at 0x20000
pub returns : map encode_of (translate_target (free_register 0 15 (Imm (pos 8))) (other_register 0 15 (Imm (pos 8))) 0 15
    (Imm (pos 8)) 0x20000 0x10058) ≡ map Some (
    0xc220301c ∷ 0xc4203008 ∷ 0x8203e008 ∷ 0xc2203004 ∷ 0x85306010 ∷ 0x8528a002
    ∷ 0x03000080 ∷ 0xc4004002 ∷ 0x8203e008 ∷ 0xc2008001 ∷ 0xc278301c ∷ 0xc4003008 ∷ [])
unfolding encode_of
returns = refl

-- jmpl %g1 + %g2, %o7 at 0x10a5c, through %g3 and %g4
calls_by_register : map encode_of (translate_target (free_register 15 1 (Reg 2)) (other_register 15 1 (Reg 2)) 15 1 (Reg 2)
    0x20000 0x10a5c) ≡ map Some (
    0xc620301c ∷ 0xc8203008 ∷ 0x86004002 ∷ 0xc6203004 ∷ 0x8930e010 ∷ 0x89292002
    ∷ 0x07000080 ∷ 0xc800c004 ∷ 0x86004002 ∷ 0xc6010003 ∷ 0xc678301c ∷ 0xc8003008
    ∷ 0x1f000042 ∷ 0x9e03e25c ∷ [])
unfolding encode_of
calls_by_register = refl

-- a CALL at 0x10a5c
calls : map encode_of (link 15 0x10a5c) ≡ map Some (0x1f000042 ∷ 0x9e03e25c ∷ [])
unfolding encode_of
calls = refl

-- through %g1
goes_on : map encode_of (jump_translated 1) ≡ map Some (0xc278301c ∷ 0x81c06000 ∷ 0xc200301c ∷ [])
unfolding encode_of
goes_on = refl

leaves : map encode_of foreign ≡ map Some (0xc2203008 ∷ 0xc2003004 ∷ 0x81c06000 ∷ 0xc2003008 ∷ [])
unfolding encode_of
leaves = refl

-- ld [%o1 + %g2], %o1
keeps : map encode_of (save_load_address 9 (Reg 2)) ≡ map Some (0xc2203000 ∷ 0x82024002 ∷ 0xc2783000 ∷ [])
unfolding encode_of
keeps = refl

-- jmpl %g1, %g0 at a switch, with the words 0xedcbc bytes below its table
chooses : map encode_of (switch_jump 0 0x10058 0xfff12344) ≡ map Some (
    0xc2203008 ∷ 0xc420301c ∷ 0xc2003000 ∷ 0x053ffc48 ∷ 0x8400a344 ∷ 0xc2004002
    ∷ 0xc400301c ∷ 0x81c06000 ∷ 0xc2003008 ∷ [])
unfolding encode_of
chooses = refl

-- jmpl %g1, %o7 at 0x10a5c, with them 0x12344 bytes above it
links_and_chooses : map encode_of (switch_jump 15 0x10a5c 0x12344) ≡ map Some (
    0x1f000042 ∷ 0x9e03e25c ∷ 0xc2203008 ∷ 0xc420301c ∷ 0xc2003000 ∷ 0x05000048
    ∷ 0x8400a344 ∷ 0xc2004002 ∷ 0xc400301c ∷ 0x81c06000 ∷ 0xc2003008 ∷ [])
unfolding encode_of
links_and_chooses = refl
