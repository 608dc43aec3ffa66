-- A program that is made from a number: a caller, and routines that add in a loop. The sections named are those of
-- The SPARC Architecture Manual, Version 8.
use Rattle.std.specs.Prelude.{ℕ, zero, suc, ◌+◌, ◌-◌, ◌*◌, ◌/◌, ◌%◌, ◌^◌, true, false, List, [], ◌∷◌, ◌++◌, length, map, pos, negsuc}
use Rattle.std.specs.Int.{w32, to_be_bytes}
use Rattle.std.specs.List.{flat_map, range_with_len}
use Rattle.v8_decode.specs.declared.Instr.{Instr}
use Rattle.v8_decode.specs.declared.Instr.TheVariants as i
use Rattle.v8_decode.specs.declared.Op2.TheVariants.{Imm}
use Rattle.v8_decode.specs.declared.AluOp.TheVariants as ops
use Rattle.v8_encode.specs.Encoding.{word_of}
use Rattle.v8_alu.specs.Numbers.{wrapped}
use Rattle.workload.specs.declared.draws.Routine.{Routine}

-- ---- draws

-- the next state of the generator, and the number that is drawn with it: its upper half
abbrev pub stirred : ℕ → ℕ
stirred x = wrapped (1103515245 * x + 12345)

abbrev pub drawn : ℕ → ℕ
drawn x = stirred x / 2 ^ 16

-- A routine by two draws: how often its loop turns, 1 to 16 times, and what each turn adds, below 64.
abbrev pub routine_from : ℕ → Routine
routine_from x = record { turns = 1 + drawn x % 16; amount = drawn (stirred x) % 64 }

-- so many routines, one after the other
abbrev pub routines_from : ℕ → ℕ → List Routine
routines_from zero x = []
routines_from (suc count) x = routine_from x ∷ routines_from count (stirred (stirred x))

-- ---- instructions

-- nop (B.10)
abbrev pub nop : Instr
nop = i.Sethi 0 0

-- mov value,%rd (appendix A)
abbrev pub move : ℕ → ℕ → Instr
move rd value = i.Alu ops.OR false rd 0 (Imm (pos value))

-- The caller's words come first, two for each routine and two that exit, and then the seven of each routine.
abbrev pub first_word : ℕ → ℕ → ℕ
first_word count routine = 2 * count + 2 + 7 * routine

-- the call of a routine, from its place among the caller's words (B.24)
abbrev pub call_of : ℕ → ℕ → List Instr
call_of count routine = i.Call (pos (first_word count routine - 2 * routine)) ∷ nop ∷ []

-- mov 1,%g1 and ta 16: the system call exit (B.27)
abbrev pub exit_code : List Instr
exit_code = move 1 1 ∷ i.Ticc 8 0 (Imm (pos 16)) ∷ []

-- a routine: the loop counts down in %g2, and adds to %o0
abbrev pub routine_code : Routine → List Instr
routine_code r =
    move 2 r.turns  -- mov turns,%g2
    ∷ i.Alu ops.ADD false 8 8 (Imm (pos r.amount))  -- add %o0,amount,%o0 (B.13)
    ∷ i.Alu ops.SUB true 2 2 (Imm (pos 1))  -- subcc %g2,1,%g2 (B.15)
    ∷ i.Branch 9 false (negsuc 1)  -- bne to the add (B.21)
    ∷ nop
    ∷ i.Jmpl 0 15 (Imm (pos 8))  -- retl (B.25)
    ∷ nop ∷ []

abbrev pub caller_code : ℕ → List Instr
caller_code count = flat_map (call_of count) (range_with_len 0 count) ++ exit_code

abbrev pub code_of : List Routine → ℕ → List Instr
code_of routines count = caller_code count ++ flat_map routine_code routines

-- ---- the file

-- big-endian words
abbrev pub bytes_of : List ℕ → List ℕ
bytes_of words = flat_map (to_be_bytes w32) words

-- The header of the file, and that of its one segment, which holds a text of so many bytes (System V ABI, figures 4-3,
-- "ELF Header", and 5-1, "Program Header").
abbrev pub header_words : ℕ → List ℕ
header_words size =
    0x7f454c46 ∷ 0x01020100 ∷ 0 ∷ 0  -- e_ident: ELFCLASS32, ELFDATA2MSB, EV_CURRENT
    ∷ 0x00020002  -- e_type and e_machine: ET_EXEC, EM_SPARC
    ∷ 1  -- e_version
    ∷ 0x10054  -- e_entry: the first word
    ∷ 52 ∷ 0 ∷ 0  -- e_phoff, e_shoff, e_flags
    ∷ 0x00340020 ∷ 0x00010000 ∷ 0  -- e_ehsize and e_phentsize, e_phnum and e_shentsize, e_shnum and e_shstrndx
    ∷ 1 ∷ 84 ∷ 0x10054 ∷ 0x10054  -- p_type: PT_LOAD; p_offset, p_vaddr, p_paddr
    ∷ size ∷ size  -- p_filesz, p_memsz
    ∷ 5 ∷ 0x10000 ∷ []  -- p_flags: PF_R and PF_X; p_align

abbrev pub file_of : List ℕ → List ℕ
file_of words = bytes_of (header_words (4 * length words) ++ words)

unfoldable pub generated : ℕ → ℕ → List ℕ
generated number count = file_of (map word_of (code_of (routines_from count number) count))
