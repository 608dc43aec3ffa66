-- Visits, trails and refusals of small runs: they compute.
use Rattle.std.specs.Prelude.{[], ◌∷◌, true, false, ℕ, ◌≡◌, Some, refl, None, ◌++◌}
use Rattle.v8_decode.specs.Words.{decode_of, arithmetic, memory as memory_row}
use Rattle.v8_alu.specs.Alu.{alu_of}
use Rattle.v8_alu.specs.Conditions.{holds_of}
use Rattle.notes.specs.Format.{Notes}
use Rattle.v8_memory.specs.Regions.{Region, fetch_of, bytes_at, with_bytes}
use Rattle.v8_memory.specs.Segments.{empty_heap}
use Rattle.v8_step.specs.Run.{first_state, zeros}
use Rattle.v8_step.specs.State.{State}
use Rattle.v8_step.specs.declared.Ending.TheVariants.{Couple, Trap, Window}
use Rattle.v8_step.specs.Accesses.{load_step}
use Rattle.v8_step.specs.WindowMoves.{restore_step, save_step}
use Rattle.v8_step.specs.Calls.{system_call, trap_step, succeeds}
use Rattle.v8_step.specs.Step.{act, alu_step, step_of}
use Rattle.two_runs.specs.Visits.{visit_of, own_trail}
use Rattle.two_runs.specs.Refused.{is_refusal, IsFaulted}

-- A page of 16 bytes: at 0x20000 stands the instruction of 0x10054 in two words, and at 0x2000c that of 0x10058.
abbrev one_page : Notes
one_page = record {
  version = 2;
  delta = 4096;
  length = 96;
  tool = 0;
  start = 0x10054;
  words = 3;
  entry = 0;
  base = 0;
  cells = 0;
  segments = record { start = 0x20000; length = 16 } ∷ [];
  blocks = 0 ∷ [];
  edges = [];
  ranges =
      record { lo = 0x20000; hi = 0x20008; address = 0x10054; node = 0 }
      ∷ record { lo = 0x2000c; hi = 0x20010; address = 0x10058; node = 0 } ∷ [];
}

-- A text of three words, which exits with 3:
--   mov 1,%g1; mov 3,%o0; ta 16
abbrev text : Region
text = record {
  start = 0x10054;
  size = 12;
  readable = true;
  writable = false;
  executable = true;
  bytes = 0x82 ∷ 0x10 ∷ 0x20 ∷ 0x01 ∷ 0x90 ∷ 0x10 ∷ 0x20 ∷ 0x03 ∷ 0x91 ∷ 0xd0 ∷ 0x20 ∷ 0x10 ∷ [];
}

abbrev at : ℕ → State
at pc = first_state (record { heap = empty_heap; regions = text ∷ [] }) pc 0 []

-- a place is visited at its first address alone
pub first_word : visit_of one_page (at 0x20000) ≡ Some 0x10054
first_word = refl

second_word : visit_of one_page (at 0x20004) ≡ None
second_word = refl

-- the editor's own code, between places, visits nothing
between_places : visit_of one_page (at 0x20008) ≡ None
between_places = refl

other_place : visit_of one_page (at 0x2000c) ≡ Some 0x10058
other_place = refl

-- outside the page an address is visited as itself
outside_the_page : visit_of one_page (at 0x20010) ≡ Some 0x20010
outside_the_page = refl

-- a run that has ended visits nothing
after_the_end : visit_of one_page (record (at 0x20000) { ending = Some Couple }) ≡ None
after_the_end = refl

-- the last state has ended
three_words_trail : own_trail (at 0x10054) 4 ≡ 0x10054 ∷ 0x10058 ∷ 0x1005c ∷ []
unfolding decode_of arithmetic step_of act alu_step system_call trap_step alu_of holds_of fetch_of
three_words_trail = refl

-- ---- refusals

-- a fetch outside the text ends the run by one
unmapped_fetch : is_refusal (step_of (at 0x20000)).ending ≡ true
unfolding step_of fetch_of
unmapped_fetch = refl

-- `ta 16`, as a call to write a byte at an address to descriptor 1
abbrev at_write : ℕ → State
at_write address = record (at 0x1005c) { registers = 0 ∷ 4 ∷ zeros 6 ++ 1 ∷ address ∷ 1 ∷ zeros 125 }

unmapped_write : IsFaulted (at_write 0x20000)
unfolding decode_of arithmetic step_of act system_call trap_step holds_of fetch_of bytes_at
unmapped_write = (refl, refl)

mapped_write : step_of (at_write 0x10054) ≡ succeeds 1 (at_write 0x10054)
unfolding decode_of arithmetic step_of act system_call trap_step holds_of fetch_of bytes_at
mapped_write = refl

-- A text whose first word is refused where %g1 is 0, the second where the frame's window is at 0, and the third where all
-- windows are in use, and the oldest is at 0:
--   ld [%g1],%g2; restore; save
abbrev accesses : Region
accesses = record text {
  bytes = 0xc4 ∷ 0x00 ∷ 0x40 ∷ 0x00 ∷ 0x81 ∷ 0xe8 ∷ 0x00 ∷ 0x00 ∷ 0x81 ∷ 0xe0 ∷ 0x00 ∷ 0x00 ∷ [];
}

abbrev about : ℕ → State
about pc = first_state (record { heap = empty_heap; regions = accesses ∷ [] }) pc 0 []

-- trap 9
unmapped_load : (step_of (about 0x10054)).ending ≡ Some (Trap 9)
unfolding decode_of memory_row step_of act load_step fetch_of bytes_at
unmapped_load = refl

load_refused : is_refusal (step_of (about 0x10054)).ending ≡ true
unfolding decode_of memory_row step_of act load_step fetch_of bytes_at
load_refused = refl

mapped_load : is_refusal (step_of (record (about 0x10054) { registers = 0 ∷ 0x10054 ∷ zeros 134 })).ending ≡ false
unfolding decode_of memory_row step_of act load_step fetch_of bytes_at
mapped_load = refl

-- a window that is loaded, and one that is saved
unmapped_window : (step_of (about 0x10058)).ending ≡ Some Window
unfolding decode_of arithmetic step_of act restore_step fetch_of bytes_at
unmapped_window = refl

window_refused : is_refusal (step_of (about 0x10058)).ending ≡ true
unfolding decode_of arithmetic step_of act restore_step fetch_of bytes_at
window_refused = refl

unmapped_save : is_refusal (step_of (record (about 0x1005c) { valid = 7 })).ending ≡ true
unfolding decode_of arithmetic step_of act save_step fetch_of with_bytes
unmapped_save = refl

-- with a window that is free none is saved
free_window : is_refusal (step_of (about 0x1005c)).ending ≡ false
unfolding decode_of arithmetic step_of act save_step fetch_of with_bytes
free_window = refl
