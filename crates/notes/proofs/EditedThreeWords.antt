-- The notes of a file of three words that was edited, by computation.
use Rattle.notes.proofs.Common.{ℕ, List, [], ◌∷◌, ◌≡◌, Ok, refl, Err, take, ◌++◌, drop, replicate, flat_map, Notes, segments_at, blocks_at, edges_at, ranges_at, read_notes, head_of, tables_of, block_count_at, Bad, notes_of, Absent}
use Rattle.std.specs.Int.{w32, to_be_bytes}
use Rattle.elf32_sparc.specs.Header.{word_at}

abbrev bytes : List ℕ → List ℕ
bytes words = flat_map (to_be_bytes w32) words

abbrev noted : List ℕ
noted = bytes (65536 ∷ 96 ∷ 0 ∷ 0x10054 ∷ 3 ∷ 0 ∷ 0x20000 ∷ 0 ∷ 2 ∷ 0x20000 ∷ 12 ∷ 0xfffff000 ∷ 4096 ∷ 1 ∷ 0 ∷ 0 ∷ 3 ∷ 0x20000 ∷ 0x20004 ∷ 0x10054 ∷ 0 ∷ 0x20004 ∷ 0x20008 ∷ 0x10058 ∷ 0 ∷ 0x20008 ∷ 0x2000c ∷ 0x1005c ∷ 0 ∷ [])

abbrev notes_read : Notes
notes_read = record {
  version = 1;
  delta = 65536;
  length = 96;
  tool = 0;
  start = 0x10054;
  words = 3;
  entry = 0;
  base = 0x20000;
  cells = 0;
  segments = record { start = 0x20000; length = 12 } ∷ record { start = 0xfffff000; length = 4096 } ∷ [];
  blocks = 0 ∷ [];
  edges = [];
  ranges = record { lo = 0x20000; hi = 0x20004; address = 0x10054; node = 0 } ∷ record { lo = 0x20004; hi = 0x20008; address = 0x10058; node = 0 } ∷ record { lo = 0x20008; hi = 0x2000c; address = 0x1005c; node = 0 } ∷ [];
}

pub reads : read_notes 1 77940 noted ≡ Ok notes_read
unfolding read_notes head_of tables_of block_count_at segments_at blocks_at edges_at ranges_at
reads = refl

-- a file that ends before the original does
short_file : read_notes 1 65631 noted ≡ Err (Bad 4)
unfolding read_notes head_of tables_of block_count_at segments_at blocks_at edges_at ranges_at
short_file = refl

-- cut in the last row
cut : read_notes 1 77940 (take 112 noted) ≡ Err (Bad 112)
unfolding read_notes head_of tables_of block_count_at segments_at blocks_at edges_at ranges_at
cut = refl

-- with a byte left over
left_over : read_notes 1 77940 (noted ++ 0 ∷ []) ≡ Err (Bad 116)
unfolding read_notes head_of tables_of block_count_at segments_at blocks_at edges_at ranges_at
left_over = refl

-- no block
no_block : read_notes 1 77940 (take 52 noted ++ bytes (0 ∷ [])) ≡ Err (Bad 20)
unfolding read_notes head_of tables_of block_count_at segments_at blocks_at edges_at ranges_at
no_block = refl

-- an address of the cells that is no multiple of 4, before the number of cells, and after it
odd_base : read_notes 1 77940 (take 24 noted ++ bytes (2 ∷ [])) ≡ Err (Bad 28)
unfolding read_notes head_of tables_of block_count_at segments_at blocks_at edges_at ranges_at
odd_base = refl

odd_base_of_cells : read_notes 1 77940 (take 24 noted ++ bytes (2 ∷ 0xffffffff ∷ [])) ≡ Err (Bad 24)
unfolding read_notes head_of tables_of block_count_at segments_at blocks_at edges_at ranges_at
odd_base_of_cells = refl

-- a page that begins before the one before it ends
overlap : read_notes 1 77940 (take 36 noted ++ bytes (0x20000 ∷ 12 ∷ 0x20008 ∷ 4 ∷ [])) ≡ Err (Bad 44)
unfolding read_notes head_of tables_of block_count_at segments_at blocks_at edges_at ranges_at
overlap = refl

-- a place outside the pages
outside : read_notes 1 77940 (take 68 noted ++ bytes (0x2000c ∷ 0x20010 ∷ 0x10054 ∷ 0 ∷ [])) ≡ Err (Bad 68)
unfolding read_notes head_of tables_of block_count_at segments_at blocks_at edges_at ranges_at
outside = refl

-- a whole file, of which only the locator and the notes are looked at
abbrev small_notes : List ℕ
small_notes = bytes (4096 ∷ 0 ∷ []) ++ drop 8 noted

abbrev small_file : ℕ → List ℕ
small_file version = replicate 4032 0 ++ bytes (0x45454c4e ∷ version ∷ 4096 ∷ 116 ∷ []) ++ replicate 48 0 ++ small_notes

located : notes_of (small_file 1) ≡ Ok (record notes_read { delta = 4096; length = 0 })
unfolding word_at notes_of read_notes head_of tables_of block_count_at segments_at blocks_at edges_at ranges_at
located = refl

-- the other version, and a tool of its own
located_wide : notes_of (small_file 2) ≡ Ok (record notes_read { version = 2; delta = 4096; length = 0 })
unfolding word_at notes_of read_notes head_of tables_of block_count_at segments_at blocks_at edges_at ranges_at
located_wide = refl

trace : read_notes 2 77940 (take 8 noted ++ bytes (3 ∷ []) ++ drop 12 noted) ≡ Ok (record notes_read { version = 2; tool = 3 })
unfolding read_notes head_of tables_of block_count_at segments_at blocks_at edges_at ranges_at
trace = refl

no_version : notes_of (small_file 0) ≡ Err Absent
unfolding word_at notes_of
no_version = refl

next_version : notes_of (small_file 3) ≡ Err Absent
unfolding word_at notes_of
next_version = refl

-- the locator's last word is missing
too_short : notes_of (take 4095 (small_file 1)) ≡ Err Absent
unfolding word_at notes_of
too_short = refl

-- the notes are cut off
beyond_end : notes_of (take 4211 (small_file 1)) ≡ Err (Bad 0)
unfolding word_at notes_of
beyond_end = refl
