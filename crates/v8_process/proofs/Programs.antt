-- Small programs, as whole files or as words, and their runs from the first state: they compute. Each is spelled in
-- assembly above its words; `.+8` is the address eight bytes further on. The first word stands at 0x10054.
use Rattle.std.specs.Prelude.{ℕ, true, false, List, length, ◌*◌, ◌∷◌, [], Option, ◌≡◌, refl, Some, map, take, None, ◌++◌}
use Rattle.std.specs.Int.{w32, to_be_bytes}
use Rattle.std.specs.List.{flat_map}
use Rattle.v8_decode.specs.Words.{decode_of, branch_or_sethi, arithmetic, memory}
use Rattle.v8_alu.specs.Alu.{alu_of}
use Rattle.v8_alu.specs.Conditions.{holds_of}
use Rattle.elf32_sparc.specs.Header.{half_at, word_at, program_header, program_headers}
use Rattle.elf32_sparc.specs.Mapping.{mappings}
use Rattle.v8_memory.specs.Regions.{Region, bytes_at, with_bytes, fetch_of}
use Rattle.v8_memory.specs.Segments.{empty_heap}
use Rattle.v8_step.specs.Transfers.{branch_step, call_step, jump_step}
use Rattle.v8_step.specs.Accesses.{load_step, store_step, ldstub_step, swap_step}
use Rattle.v8_step.specs.WindowMoves.{save_step, restore_step}
use Rattle.v8_step.specs.Calls.{system_call, trap_step}
use Rattle.v8_step.specs.Step.{alu_step, act, step_of, puts_by, puts_of}
use Rattle.v8_step.specs.State.{State, register_of}
use Rattle.v8_step.specs.Run.{run, zeros, first_state, run_puts}
use Rattle.v8_step.specs.declared.Ending.{Ending}
use Rattle.v8_step.specs.declared.Ending.TheVariants.{Exit, Trap, Couple, Window}
use Rattle.v8_process.specs.Start.{start_of, first_sp, program_name, stack_top}

-- a region of data with these bytes
abbrev pub data_region : ℕ → List ℕ → Region
data_region start bytes = record {
  start = start;
  size = length bytes;
  readable = true;
  writable = true;
  executable = false;
  bytes = bytes;
}

abbrev pub bytes_of : List ℕ → List ℕ
bytes_of words = flat_map (to_be_bytes w32) words

-- A file with these words as its text, at 0x10054: a file header, one program header and the words.
abbrev pub file_of : List ℕ → List ℕ
file_of words = bytes_of (
    0x7f454c46 ∷ 0x01020100 ∷ 0 ∷ 0
    ∷ 0x00020002 ∷ 1 ∷ 0x00010054 ∷ 0x34 ∷ 0 ∷ 0 ∷ 0x00340020 ∷ 0x00010000 ∷ 0
    ∷ 1 ∷ 0x54 ∷ 0x10054 ∷ 0x10054 ∷ 4 * length words ∷ 4 * length words ∷ 5 ∷ 0x10000
    ∷ words)

-- A state after so many steps. Where this unfolds, all unfolds by which files are loaded and machines compute.
unfoldable pub after : State → ℕ → State
unfolding start_of half_at word_at program_header program_headers mappings decode_of branch_or_sethi arithmetic memory step_of act alu_step branch_step call_step jump_step load_step store_step ldstub_step swap_step save_step restore_step system_call trap_step alu_of holds_of fetch_of bytes_at with_bytes
after s steps = run s steps

-- how the run of these words as a file, without arguments and input, has ended after so many steps
abbrev pub ending_of : List ℕ → ℕ → Option Ending
ending_of words steps = (after (start_of (file_of words) [] []) steps).ending

-- exits with 3
--   mov 1,%g1; mov 3,%o0; ta 16
abbrev pub three_words : List ℕ
three_words = 0x82102001 ∷ 0x90102003 ∷ 0x91d02010 ∷ []

pub without_arguments : first_sp (program_name ∷ []) ≡ 0xefffffa0
without_arguments = refl

three_words_ends : ending_of three_words 3 ≡ Some (Exit 3)
unfolding after
three_words_ends = refl

-- counts carries that stay live from one turn of the loop to the next, and exits with 4
--   mov 5,%g2; addx %o0,0,%o0; addcc %g2,-1,%g2; bne .-8; nop; mov 1,%g1; ta 16
abbrev pub carry_loop : List ℕ
carry_loop = 0x84102005 ∷ 0x90422000 ∷ 0x8480bfff ∷ 0x12bffffe ∷ 0x01000000 ∷ 0x82102001 ∷ 0x91d02010 ∷ []

carry_loop_ends : ending_of carry_loop 23 ≡ Some (Exit 4)
unfolding after
carry_loop_ends = refl

-- a branch that is taken, with its slot
--   cmp %g0,0; be .+16; cmp %g0,1; ba .+12; mov 1,%o0; mov 2,%o0; mov 1,%g1; ta 16
abbrev pub taken_branch : List ℕ
taken_branch =
    0x80a02000 ∷ 0x02800004 ∷ 0x80a02001 ∷ 0x10800003 ∷ 0x90102001 ∷ 0x90102002 ∷ 0x82102001 ∷ 0x91d02010 ∷ []

taken_branch_ends : ending_of taken_branch 6 ≡ Some (Exit 2)
unfolding after
taken_branch_ends = refl

-- be,a untaken, bn,a, ba,a and be,a taken
--   cmp %g0,1; be,a .+12; add %o0,1,%o0; bn,a .+8; add %o0,2,%o0; ba,a .+8; add %o0,4,%o0; cmp %g0,0; be,a .+8;
--   add %o0,8,%o0; mov 1,%g1; ta 16
abbrev pub annulled_branches : List ℕ
annulled_branches =
    0x80a02001 ∷ 0x22800003 ∷ 0x90022001 ∷ 0x20800002 ∷ 0x90022002 ∷ 0x30800002 ∷ 0x90022004 ∷ 0x80a02000
    ∷ 0x22800002 ∷ 0x90022008 ∷ 0x82102001 ∷ 0x91d02010 ∷ []

annulled_branches_ends : ending_of annulled_branches 9 ≡ Some (Exit 8)
unfolding after
annulled_branches_ends = refl

-- a branch to the word after its slot
--   cmp %g0,0; be .+8; nop; mov 1,%g1; mov 0,%o0; ta 16
abbrev pub branch_over_nop : List ℕ
branch_over_nop =
    0x80a02000 ∷ 0x02800002 ∷ 0x01000000 ∷ 0x82102001 ∷ 0x90102000 ∷ 0x91d02010 ∷ []

branch_over_nop_ends : ending_of branch_over_nop 6 ≡ Some (Exit 0)
unfolding after
branch_over_nop_ends = refl

-- a call whose link is the answer
--   call .+16; nop; mov 1,%g1; ta 16; jmp %o7+8; and %o7,255,%o0
abbrev pub call_and_return : List ℕ
call_and_return =
    0x40000004 ∷ 0x01000000 ∷ 0x82102001 ∷ 0x91d02010 ∷ 0x81c3e008 ∷ 0x900be0ff ∷ []

call_and_return_ends : ending_of call_and_return 6 ≡ Some (Exit 84)
unfolding after
call_and_return_ends = refl

-- a jump to an address that is not aligned
--   mov 2,%g1; jmp %g1; st %g1,[%sp+64]
abbrev pub misaligned_jump : List ℕ
misaligned_jump =
    0x82102002 ∷ 0x81c06000 ∷ 0xc223a040 ∷ []

misaligned_jump_ends : ending_of misaligned_jump 2 ≡ Some (Trap 7)
unfolding after
misaligned_jump_ends = refl

-- returns into the middle of straight code
--   call .+8; nop; jmp %o7+24; nop; add %o0,1,%o0; add %o0,2,%o0; add %o0,4,%o0; jmp %o7+40; nop; ba .+8;
--   add %o0,8,%o0; mov 1,%g1; ta 16
abbrev pub inner_landings : List ℕ
inner_landings =
    0x40000002 ∷ 0x01000000 ∷ 0x81c3e018 ∷ 0x01000000 ∷ 0x90022001 ∷ 0x90022002 ∷ 0x90022004 ∷ 0x81c3e028
    ∷ 0x01000000 ∷ 0x10800002 ∷ 0x90022008 ∷ 0x82102001 ∷ 0x91d02010 ∷ []

inner_landings_ends : ending_of inner_landings 10 ≡ Some (Exit 12)
unfolding after
inner_landings_ends = refl

-- calls without a return
--   call .+8; nop; call .+8; nop; call .+8; nop; mov 1,%g1; mov 0,%o0; ta 16
abbrev pub exit_three_calls_deep : List ℕ
exit_three_calls_deep =
    0x40000002 ∷ 0x01000000 ∷ 0x40000002 ∷ 0x01000000 ∷ 0x40000002 ∷ 0x01000000 ∷ 0x82102001 ∷ 0x90102000
    ∷ 0x91d02010 ∷ []

exit_three_calls_deep_ends : ending_of exit_three_calls_deep 9 ≡ Some (Exit 0)
unfolding after
exit_three_calls_deep_ends = refl

-- a jump by a table in the text
--   mov 3,%o0; cmp %o0,3; bgu .+48; sll %o0,2,%o0; sethi %hi(0x10000),%g1; or %g1,120,%g1; ld [%g1+%o0],%g1; jmp %g1;
--   nop; .word 0x0001008c; .word 0x0001008c; .word 0x0001008c; .word 0x00010088; mov 5,%o0; mov 1,%g1; ta 16
abbrev pub switch_of_four : List ℕ
switch_of_four =
    0x90102003 ∷ 0x80a22003 ∷ 0x1880000c ∷ 0x912a2002 ∷ 0x03000040 ∷ 0x82106078 ∷ 0xc2004008 ∷ 0x81c04000
    ∷ 0x01000000 ∷ 0x0001008c ∷ 0x0001008c ∷ 0x0001008c ∷ 0x00010088 ∷ 0x90102005 ∷ 0x82102001 ∷ 0x91d02010 ∷ []

switch_of_four_ends : ending_of switch_of_four 12 ≡ Some (Exit 5)
unfolding after
switch_of_four_ends = refl

-- a run that leaves the text
--   nop
abbrev pub one_nop : List ℕ
one_nop =
    0x01000000 ∷ []

one_nop_ends : ending_of one_nop 2 ≡ Some (Trap 1)
unfolding after
one_nop_ends = refl

-- a jump to where nothing is mapped
--   jmp 0; nop
abbrev pub jump_to_zero : List ℕ
jump_to_zero =
    0x81c02000 ∷ 0x01000000 ∷ []

jump_to_zero_ends : ending_of jump_to_zero 3 ≡ Some (Trap 1)
unfolding after
jump_to_zero_ends = refl

-- a load from where nothing is mapped
--   ld [%g0],%g1
abbrev pub load_from_zero : List ℕ
load_from_zero =
    0xc2002000 ∷ []

load_from_zero_ends : ending_of load_from_zero 1 ≡ Some (Trap 9)
unfolding after
load_from_zero_ends = refl

-- a branch in the slot of another
--   ba .+8; ba .+8; nop
abbrev pub transfer_in_slot : List ℕ
transfer_in_slot =
    0x10800002 ∷ 0x10800002 ∷ 0x01000000 ∷ []

transfer_in_slot_ends : ending_of transfer_in_slot 2 ≡ Some Couple
unfolding after
transfer_in_slot_ends = refl

-- ---- programs that read their stack: it is a short list here, since zeros without number don't compute

abbrev pub text_region : List ℕ → Region
text_region words = record {
  start = 0x10054;
  size = 4 * length words;
  readable = true;
  writable = false;
  executable = true;
  bytes = bytes_of words;
}

abbrev pub first_of : List ℕ → State
first_of words =
    first_state (record { heap = empty_heap; regions = text_region words ∷ data_region 0xeffffc00 (zeros 1024) ∷ [] })
    0x10054 0xefffffa0 []

abbrev pub ending_on_stack : List ℕ → ℕ → Option Ending
ending_on_stack words steps = (after (first_of words) steps).ending

-- seven SAVEs, the last of which saves the first window; its %l0 is written out from its frame
--   mov %sp,%g3; mov 7,%l0; save %sp,-96,%sp; save %sp,-96,%sp; save %sp,-96,%sp; save %sp,-96,%sp; save %sp,-96,%sp;
--   save %sp,-96,%sp; save %sp,-96,%sp; mov 4,%g1; mov 1,%o0; mov %g3,%o1; mov 4,%o2; ta 16; mov 1,%g1; mov 0,%o0;
--   ta 16
abbrev pub window_overflow : List ℕ
window_overflow =
    0x8610000e ∷ 0xa0102007 ∷ 0x9de3bfa0 ∷ 0x9de3bfa0 ∷ 0x9de3bfa0 ∷ 0x9de3bfa0 ∷ 0x9de3bfa0 ∷ 0x9de3bfa0
    ∷ 0x9de3bfa0 ∷ 0x82102004 ∷ 0x90102001 ∷ 0x92100003 ∷ 0x94102004 ∷ 0x91d02010 ∷ 0x82102001 ∷ 0x90102000
    ∷ 0x91d02010 ∷ []

window_overflow_ends : ending_on_stack window_overflow 17 ≡ Some (Exit 0)
unfolding after
window_overflow_ends = refl

window_overflow_puts : run_puts (first_of window_overflow) 17 1 ≡ 0 ∷ 0 ∷ 0 ∷ 7 ∷ []
unfolding after puts_of puts_by
window_overflow_puts = refl

-- a saved window whose frame is changed before it is loaded again
--   save %sp,-96,%sp; ta 3; mov 9,%g2; st %g2,[%fp]; restore; mov %l0,%o0; mov 1,%g1; ta 16
abbrev pub flushed_windows : List ℕ
flushed_windows =
    0x9de3bfa0 ∷ 0x91d02003 ∷ 0x84102009 ∷ 0xc427a000 ∷ 0x81e80000 ∷ 0x90100010 ∷ 0x82102001 ∷ 0x91d02010 ∷ []

flushed_windows_ends : ending_on_stack flushed_windows 8 ≡ Some (Exit 9)
unfolding after
flushed_windows_ends = refl

-- a window that cannot be loaded, since %fp is 0
--   restore
abbrev pub restore_from_nowhere : List ℕ
restore_from_nowhere =
    0x81e80000 ∷ []

restore_from_nowhere_ends : ending_on_stack restore_from_nowhere 1 ≡ Some Window
unfolding after
restore_from_nowhere_ends = refl

-- a window that cannot be saved, since its %sp is 0
--   save; save; save; save; save; save; save; save
abbrev pub save_to_nowhere : List ℕ
save_to_nowhere =
    0x81e00000 ∷ 0x81e00000 ∷ 0x81e00000 ∷ 0x81e00000 ∷ 0x81e00000 ∷ 0x81e00000 ∷ 0x81e00000 ∷ 0x81e00000 ∷ []

save_to_nowhere_ends : ending_on_stack save_to_nowhere 8 ≡ Some Window
unfolding after
save_to_nowhere_ends = refl

-- STD, LDSB, LDUB, LDSH, LDUH, SWAP, LDSTUB and LDD at the top of the stack
--   mov -2,%g2; mov 5,%g3; std %g2,[%sp]; ldsb [%sp+3],%o0; ldub [%sp+3],%o1; ldsh [%sp+2],%o2; lduh [%sp+2],%o3;
--   swap [%sp+4],%g2; ldstub [%sp+4],%g4; ldd [%sp],%g6
abbrev pub accesses : List ℕ
accesses =
    0x84103ffe ∷ 0x86102005 ∷ 0xc43ba000 ∷ 0xd04ba003 ∷ 0xd20ba003 ∷ 0xd453a002 ∷ 0xd613a002 ∷ 0xc47ba004
    ∷ 0xc86ba004 ∷ 0xcc1ba000 ∷ []

accesses_give : map (register_of (after (first_of accesses) 10)) (2 ∷ 3 ∷ 4 ∷ 6 ∷ 7 ∷ 8 ∷ 9 ∷ 10 ∷ 11 ∷ [])
    ≡ 5 ∷ 5 ∷ 0xff ∷ 0xfffffffe ∷ 0xfffffffe ∷ 0xfffffffe ∷ 0xfe ∷ 0xfffffffe ∷ 0xfffe ∷ []
unfolding after
accesses_give = refl

-- WRY, RDY, UMUL, WRY with an exclusive or, RDY
--   wr 3,%y; rd %y,%o0; umul %o0,%o0,%o1; wr %o0,1,%y; rd %y,%o2
abbrev pub y_register : List ℕ
y_register =
    0x81802003 ∷ 0x91400000 ∷ 0x92520008 ∷ 0x81822001 ∷ 0x95400000 ∷ []

y_register_gives : map (register_of (after (first_of y_register) 5)) (8 ∷ 9 ∷ 10 ∷ []) ≡ 3 ∷ 9 ∷ 2 ∷ []
unfolding after
y_register_gives = refl

-- reads three bytes of input; is refused for a descriptor that does not read, and for a call that is not there
--   mov 3,%g1; mov 0,%o0; mov %sp,%o1; mov 8,%o2; ta 16; ldub [%sp+1],%g2; mov 1,%o0; ta 16; mov 99,%g1; or %o0,0,%o3;
--   ta 16
abbrev pub system_calls : List ℕ
system_calls =
    0x82102003 ∷ 0x90102000 ∷ 0x9210000e ∷ 0x94102008 ∷ 0x91d02010 ∷ 0xc40ba001 ∷ 0x90102001 ∷ 0x91d02010
    ∷ 0x82102063 ∷ 0x96122000 ∷ 0x91d02010 ∷ []

abbrev pub with_input : List ℕ → State → State
with_input bytes s = record s { input = bytes }

system_calls_give :
    map (register_of (after (with_input (10 ∷ 20 ∷ 30 ∷ []) (first_of system_calls)) 11)) (2 ∷ 8 ∷ 11 ∷ []) ≡ 20 ∷ 90 ∷ 9 ∷ []
unfolding after
system_calls_give = refl

system_calls_refuse : (after (with_input (10 ∷ 20 ∷ 30 ∷ []) (first_of system_calls)) 11).codes.c ≡ true
unfolding after
system_calls_refuse = refl

system_calls_read : register_of (after (with_input (10 ∷ 20 ∷ 30 ∷ []) (first_of system_calls)) 5) 8 ≡ 3
unfolding after
system_calls_read = refl

-- a call takes no more of the input than it has room for
abbrev pub ten_bytes : List ℕ
ten_bytes = 1 ∷ 2 ∷ 3 ∷ 4 ∷ 5 ∷ 6 ∷ 7 ∷ 8 ∷ 9 ∷ 10 ∷ []

system_calls_take : (after (with_input ten_bytes (first_of system_calls)) 5).input ≡ 9 ∷ 10 ∷ []
unfolding after
system_calls_take = refl

-- what a read or a write of so many bytes answers where nothing is mapped
abbrev pub answer_at_zero : ℕ → ℕ → ℕ → ℕ
answer_at_zero number descriptor count =
    register_of (system_call (with_input (1 ∷ []) (first_of [])) number descriptor 0 count) 8

reads_at_zero : map (answer_at_zero 3 0) (0 ∷ 1 ∷ []) ≡ 0 ∷ 14 ∷ []
unfolding system_call bytes_at with_bytes
reads_at_zero = refl

writes_at_zero : map (answer_at_zero 4 1) (0 ∷ 1 ∷ []) ≡ 0 ∷ 14 ∷ []
unfolding system_call bytes_at with_bytes
writes_at_zero = refl

-- A file whose segment begins with its header, and which prints the first 52 bytes of that segment.
--   sethi %hi(0x10000),%o1; mov 52,%o2; mov 1,%o0; mov 4,%g1; ta 16; mov 0,%o0; mov 1,%g1; ta 16
abbrev pub prints_its_header : List ℕ
prints_its_header = bytes_of (
    0x7f454c46 ∷ 0x01020100 ∷ 0 ∷ 0
    ∷ 0x00020002 ∷ 1 ∷ 0x00010054 ∷ 0x34 ∷ 0 ∷ 0 ∷ 0x00340020 ∷ 0x00010000 ∷ 0
    ∷ 1 ∷ 0 ∷ 0x10000 ∷ 0x10000 ∷ 0x74 ∷ 0x74 ∷ 5 ∷ 0x10000
    ∷ 0x13000040 ∷ 0x94102034 ∷ 0x90102001 ∷ 0x82102004 ∷ 0x91d02010 ∷ 0x90102000 ∷ 0x82102001 ∷ 0x91d02010 ∷ [])

prints_its_header_ends : (after (start_of prints_its_header [] []) 8).ending ≡ Some (Exit 0)
unfolding after
prints_its_header_ends = refl

prints_its_header_puts : run_puts (start_of prints_its_header [] []) 8 1 ≡ take 52 prints_its_header
unfolding after puts_of puts_by
prints_its_header_puts = refl

-- ---- more of what one instruction or one call does

-- a jump whose own address, that of its word, is the answer
--   call .+8; nop; jmpl %o7+16,%o0; nop; mov 1,%g1; ta 16
abbrev pub jump_link : List ℕ
jump_link =
    0x40000002 ∷ 0x01000000 ∷ 0x91c3e010 ∷ 0x01000000 ∷ 0x82102001 ∷ 0x91d02010 ∷ []

jump_link_ends : ending_on_stack jump_link 6 ≡ Some (Exit 0x5c)
unfolding after
jump_link_ends = refl

-- a branch in the slot of one that is not taken
--   bn .+8; ba .+8; nop
abbrev pub transfer_in_untaken_slot : List ℕ
transfer_in_untaken_slot =
    0x00800002 ∷ 0x10800002 ∷ 0x01000000 ∷ []

transfer_in_untaken_slot_ends : ending_on_stack transfer_in_untaken_slot 2 ≡ Some Couple
unfolding after
transfer_in_untaken_slot_ends = refl

-- Six SAVEs make seven windows valid, and save none. The seventh saves the first window, which alone has a %sp; the
-- eighth has to save the second, and ends save_to_nowhere.
seven_saves_go_on : ending_on_stack save_to_nowhere 7 ≡ None
unfolding after
seven_saves_go_on = refl

-- RESTORE adds registers of the old window, and gives a register of the new one
--   save %sp,-96,%sp; mov 5,%l0; restore %l0,1,%o0; mov 1,%g1; ta 16
abbrev pub restore_adds : List ℕ
restore_adds =
    0x9de3bfa0 ∷ 0xa0102005 ∷ 0x91ec2001 ∷ 0x82102001 ∷ 0x91d02010 ∷ []

restore_adds_ends : ending_on_stack restore_adds 5 ≡ Some (Exit 6)
unfolding after
restore_adds_ends = refl

-- a window that cannot be saved, since its %sp is no multiple of 8
--   add %sp,4,%sp; save %sp,-96,%sp; ta 3
abbrev pub flush_misaligned : List ℕ
flush_misaligned =
    0x9c03a004 ∷ 0x9de3bfa0 ∷ 0x91d02003 ∷ []

flush_misaligned_ends : ending_on_stack flush_misaligned 3 ≡ Some Window
unfolding after
flush_misaligned_ends = refl

-- a window that cannot be loaded, since %fp is no multiple of 8
--   add %sp,-4,%fp; restore
abbrev pub restore_misaligned : List ℕ
restore_misaligned =
    0xbc03bffc ∷ 0x81e80000 ∷ []

restore_misaligned_ends : ending_on_stack restore_misaligned 2 ≡ Some Window
unfolding after
restore_misaligned_ends = refl

-- STH, STB and ST at the top of the stack, and LDD of the two words
--   mov 258,%g2; mov 7,%g3; sth %g2,[%sp]; stb %g2,[%sp+2]; st %g3,[%sp+4]; ldd [%sp],%g4
abbrev pub parts_of_words : List ℕ
parts_of_words =
    0x84102102 ∷ 0x86102007 ∷ 0xc4338000 ∷ 0xc42ba002 ∷ 0xc623a004 ∷ 0xc81b8000 ∷ []

parts_of_words_give : map (register_of (after (first_of parts_of_words) 6)) (4 ∷ 5 ∷ []) ≡ 0x01020200 ∷ 7 ∷ []
unfolding after
parts_of_words_give = refl

-- how a program of one word ends
abbrev pub ending_of_word : ℕ → Option Ending
ending_of_word word = ending_on_stack (word ∷ []) 1

-- LDUH, LDSH, LD, LDD, STH, ST, STD and SWAP at half of what they are aligned to
abbrev pub misaligned_accesses : List ℕ
misaligned_accesses =
    0xc413a001 ∷ 0xc453a001 ∷ 0xc403a002 ∷ 0xc41ba004 ∷ 0xc433a001 ∷ 0xc423a002 ∷ 0xc43ba004 ∷ 0xc47ba002
    ∷ []

misaligned_accesses_end : map ending_of_word misaligned_accesses
    ≡ Some (Trap 7) ∷ Some (Trap 7) ∷ Some (Trap 7) ∷ Some (Trap 7)
    ∷ Some (Trap 7) ∷ Some (Trap 7) ∷ Some (Trap 7) ∷ Some (Trap 7) ∷ []
unfolding after
misaligned_accesses_end = refl

-- exits with -1
--   mov 1,%g1; mov -1,%o0; ta 16
abbrev pub exit_of_a_byte : List ℕ
exit_of_a_byte =
    0x82102001 ∷ 0x90103fff ∷ 0x91d02010 ∷ []

exit_of_a_byte_ends : ending_on_stack exit_of_a_byte 3 ≡ Some (Exit 255)
unfolding after
exit_of_a_byte_ends = refl

-- calls the system by the number 144
--   mov 1,%g1; mov 144,%g2; mov 3,%o0; ta %g2,%g0
abbrev pub high_trap_number : List ℕ
high_trap_number =
    0x82102001 ∷ 0x84102090 ∷ 0x90102003 ∷ 0x91d08000 ∷ []

high_trap_number_ends : ending_on_stack high_trap_number 4 ≡ Some (Exit 3)
unfolding after
high_trap_number_ends = refl

-- writes three bytes to descriptor 2, with C set before
--   cmp %g0,1; mov 4,%g1; mov 2,%o0; mov %sp,%o1; mov 3,%o2; ta 16
abbrev pub write_to_two : List ℕ
write_to_two =
    0x80a02001 ∷ 0x82102004 ∷ 0x90102002 ∷ 0x9210000e ∷ 0x94102003 ∷ 0x91d02010 ∷ []

write_to_two_gives : map (register_of (after (first_of write_to_two) 6)) (8 ∷ []) ≡ 3 ∷ []
unfolding after
write_to_two_gives = refl

write_to_two_clears : (after (first_of write_to_two) 6).codes.c ≡ false
unfolding after
write_to_two_clears = refl

write_to_two_puts : map (run_puts (first_of write_to_two) 6) (0 ∷ 1 ∷ 2 ∷ [])
    ≡ [] ∷ [] ∷ (0 ∷ 0 ∷ 0 ∷ []) ∷ []
unfolding after puts_of puts_by
write_to_two_puts = refl

-- writes to descriptor 0, which takes no output
--   mov 4,%g1; mov %sp,%o1; mov 4,%o2; mov 0,%o0; ta 16
abbrev pub write_to_zero : List ℕ
write_to_zero =
    0x82102004 ∷ 0x9210000e ∷ 0x94102004 ∷ 0x90102000 ∷ 0x91d02010 ∷ []

write_to_zero_gives : register_of (after (first_of write_to_zero) 5) 8 ≡ 9
unfolding after
write_to_zero_gives = refl

write_to_zero_puts : run_puts (first_of write_to_zero) 5 0 ≡ []
unfolding after puts_of puts_by
write_to_zero_puts = refl

-- UNIMP, RDPSR, LDF, a coprocessor's operation, UDIV by 0, TADDccTV of a tag, TA 5 and TN 5
abbrev pub words_that_trap : List ℕ
words_that_trap =
    0x00000000 ∷ 0x85480000 ∷ 0xc1038000 ∷ 0x81b00000 ∷ 0x84738000 ∷ 0x85102001 ∷ 0x91d02005 ∷ 0x81d02005
    ∷ []

words_that_trap_end : map ending_of_word words_that_trap
    ≡ Some (Trap 0x02) ∷ Some (Trap 0x03) ∷ Some (Trap 0x04) ∷ Some (Trap 0x24)
    ∷ Some (Trap 0x2a) ∷ Some (Trap 0x0a) ∷ Some (Trap 0x85) ∷ None ∷ []
unfolding after
words_that_trap_end = refl

-- a store into the text
--   call .+8; st %g0,[%o7]
abbrev pub store_into_text : List ℕ
store_into_text =
    0x40000002 ∷ 0xc023c000 ∷ []

store_into_text_ends : ending_on_stack store_into_text 2 ≡ Some (Trap 9)
unfolding after
store_into_text_ends = refl

-- a jump into the stack
--   jmp %sp; nop
abbrev pub jump_into_stack : List ℕ
jump_into_stack =
    0x81c38000 ∷ 0x01000000 ∷ []

jump_into_stack_ends : ending_on_stack jump_into_stack 3 ≡ Some (Trap 1)
unfolding after
jump_into_stack_ends = refl

-- ---- the heap, with sixteen bytes of room here

abbrev pub with_short_heap : List ℕ → State
with_short_heap words = first_state (record {
  heap = record (data_region 0x80000000 (zeros 16)) { size = 0 };
  regions = text_region words ∷ [];
}) 0x10054 0xefffffa0 []

-- what 17 answers to these ends of the heap
abbrev pub heap_answer : ℕ → ℕ
heap_answer end = register_of (system_call (with_short_heap []) 17 end 0 0) 8

heap_ends : map heap_answer (0x7fffffff ∷ 0x80000000 ∷ 0x81000000 ∷ 0x81000001 ∷ []) ≡ 12 ∷ 0 ∷ 0 ∷ 12 ∷ []
unfolding system_call
heap_ends = refl

-- a word above an end of the heap that falls and rises again
--   mov 17,%g1; sethi %hi(0x80000000),%g2; add %g2,8,%o0; ta 16; mov 5,%g3; st %g3,[%g2+4]; mov %g2,%o0; ta 16;
--   add %g2,8,%o0; ta 16; ld [%g2+4],%o0; mov 1,%g1; ta 16
abbrev pub heap_falls_and_rises : List ℕ
heap_falls_and_rises =
    0x82102011 ∷ 0x05200000 ∷ 0x9000a008 ∷ 0x91d02010 ∷ 0x86102005 ∷ 0xc620a004 ∷ 0x90100002 ∷ 0x91d02010
    ∷ 0x9000a008 ∷ 0x91d02010 ∷ 0xd000a004 ∷ 0x82102001 ∷ 0x91d02010 ∷ []

heap_falls_and_rises_ends : (after (with_short_heap heap_falls_and_rises) 13).ending ≡ Some (Exit 5)
unfolding after
heap_falls_and_rises_ends = refl

-- stores a word below the heap's end, and one above it
--   mov 17,%g1; sethi %hi(0x80000000),%g2; add %g2,8,%o0; ta 16; st %g0,[%g2+4]; st %g0,[%g2+8]
abbrev pub store_above_heap : List ℕ
store_above_heap =
    0x82102011 ∷ 0x05200000 ∷ 0x9000a008 ∷ 0x91d02010 ∷ 0xc020a004 ∷ 0xc020a008 ∷ []

store_above_heap_goes_on : (after (with_short_heap store_above_heap) 5).ending ≡ None
unfolding after
store_above_heap_goes_on = refl

store_above_heap_ends : (after (with_short_heap store_above_heap) 6).ending ≡ Some (Trap 9)
unfolding after
store_above_heap_ends = refl

-- ---- the stack of a program with the argument "a", from its argument words to its end

one_argument_sp : first_sp (program_name ∷ (97 ∷ []) ∷ []) ≡ 0xefffff90
one_argument_sp = refl

one_argument_stack : stack_top (program_name ∷ (97 ∷ []) ∷ [])
    ≡ bytes_of (2 ∷ 0xeffffff0 ∷ 0xeffffff8 ∷ zeros 5) ++ program_name ++ 0 ∷ 97 ∷ 0 ∷ zeros 6
one_argument_stack = refl
