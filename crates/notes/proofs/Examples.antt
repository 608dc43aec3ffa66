-- The notes of a text of four words in two blocks, of both versions, and each rule broken once: they compute.
use Rattle.std.specs.Prelude.{[], ◌∷◌, Some, None, ℕ, List, ◌≡◌, refl, ◌+◌, ◌++◌, take, drop, Result, Err, Ok, map}
use Rattle.notes.specs.Format.{Notes, NoNotes, read_notes, Bad, segments_at, blocks_at, edges_at, ranges_at, head_of, tables_of, block_count_at, node_at}
use Rattle.notes.specs.Written.{words_bytes, notes_bytes}

-- Two pages, two blocks with their landed copies, three edges of which two have a cell, and three places with a gap before the last.
abbrev small : Notes
small = record {
  version = 1;
  delta = 4096;
  length = 16;
  tool = 1;
  start = 0x10000;
  words = 4;
  entry = 1;
  base = 0x30000;
  cells = 2;
  segments = record { start = 0x20000; length = 0x1000 } ∷ record { start = 0x30000; length = 8 } ∷ [];
  blocks = 0 ∷ 2 ∷ [];
  edges = record { kind = 6; from = 0; to = 4; cell = Some 0 } ∷ record { kind = 4; from = 1; to = 2; cell = None } ∷ record { kind = 5; from = 2; to = 0; cell = Some 1 } ∷ [];
  ranges = record { lo = 0x20000; hi = 0x20004; address = 0x10000; node = 0 } ∷ record { lo = 0x20004; hi = 0x2000c; address = 0x10004; node = 0 } ∷ record { lo = 0x20010; hi = 0x20014; address = 0x10008; node = 3 } ∷ [];
}

abbrev words : List ℕ
words = 4096 ∷ 16 ∷ 1 ∷ 0x10000 ∷ 4 ∷ 1 ∷ 0x30000 ∷ 2 ∷ 2 ∷ 0x20000 ∷ 0x1000 ∷ 0x30000 ∷ 8 ∷ 2 ∷ 0 ∷ 2
    ∷ 3 ∷ 6 ∷ 0 ∷ 4 ∷ 0 ∷ 4 ∷ 1 ∷ 2 ∷ 0xffffffff ∷ 5 ∷ 2 ∷ 0 ∷ 1
    ∷ 3 ∷ 0x20000 ∷ 0x20004 ∷ 0x10000 ∷ 0 ∷ 0x20004 ∷ 0x2000c ∷ 0x10004 ∷ 0 ∷ 0x20010 ∷ 0x20014 ∷ 0x10008 ∷ 3 ∷ []

pub written : notes_bytes small ≡ words_bytes words
unfolding notes_bytes words_bytes
written = refl

-- words as bytes, with one of them changed
abbrev changed : List ℕ → ℕ × ℕ × ℕ → List ℕ
changed words change =
    take change.0 (words_bytes words) ++ words_bytes (change.1 ∷ []) ++ drop (change.0 + 4) (words_bytes words)

-- the notes read in a file of 8192 bytes
abbrev with_word : ℕ × ℕ × ℕ → Result Notes NoNotes
with_word change = read_notes 1 8192 (changed words change)

abbrev named : ℕ × ℕ × ℕ → Result Notes NoNotes
named change = Err (Bad change.2)

read : read_notes 1 8192 (words_bytes words) ≡ Ok small
unfolding words_bytes read_notes head_of tables_of block_count_at segments_at blocks_at edges_at ranges_at
read = refl

-- The offset of a word, what it becomes, and the offset that is named.

abbrev broken_numbers : List (ℕ × ℕ × ℕ)
broken_numbers = (0, 4095, 0) ∷ (4, 4097, 4) ∷ (8, 3, 8)
    ∷ (12, 0x10002, 12) ∷ (12, 0xffc, 12)
    ∷ (16, 0, 16) ∷ (16, 0x100001, 16) ∷ (12, 0x7ffffff4, 16)
    ∷ (20, 2, 20)
    ∷ (24, 0x30002, 24) ∷ (24, 0xfffffffc, 24) ∷ (28, 0x3fff4001, 24)
    ∷ (28, 0x400001, 28) ∷ (32, 9, 32) ∷ []

numbers : map with_word broken_numbers ≡ map named broken_numbers
unfolding words_bytes read_notes head_of tables_of block_count_at segments_at blocks_at edges_at ranges_at
numbers = refl

abbrev broken_rows : List (ℕ × ℕ × ℕ)
broken_rows = (40, 0, 36) ∷ (44, 0x20ffc, 44) ∷ (48, 0xfffd0001, 44)
    ∷ (52, 0, 20) ∷ (52, 5, 52)
    ∷ (56, 1, 56) ∷ (60, 0, 60) ∷ (60, 4, 60)
    ∷ (64, 0x1000000, 64)
    ∷ (68, 7, 68) ∷ (72, 5, 68) ∷ (76, 5, 68) ∷ (80, 2, 68) ∷ (112, 0, 100)
    ∷ (116, 0x4000000, 116)
    ∷ (120, 0x1fffe, 120) ∷ (124, 0x20002, 120) ∷ (128, 0x10002, 120) ∷ (132, 5, 120)
    ∷ (124, 0x20000, 120) ∷ (136, 0x20000, 136) ∷ (156, 0x21004, 152) ∷ []

rows : map with_word broken_rows ≡ map named broken_rows
unfolding words_bytes read_notes head_of tables_of block_count_at segments_at blocks_at edges_at ranges_at
rows = refl

-- the first bytes alone, and the offset of the word that is missing
abbrev cut : ℕ × ℕ → Result Notes NoNotes
cut ending = read_notes 1 8192 (take ending.0 (words_bytes words))

abbrev missing : List (ℕ × ℕ)
missing = (0, 0) ∷ (24, 24) ∷ (30, 28) ∷ (40, 40) ∷ (55, 52) ∷ (116, 116) ∷ (167, 164) ∷ []

missing_word : map cut missing ≡ map (λ ending. Err (Bad ending.1)) missing
unfolding words_bytes read_notes head_of tables_of block_count_at segments_at blocks_at edges_at ranges_at
missing_word = refl

-- a byte after the last place
left_over : read_notes 1 8192 (words_bytes words ++ 0 ∷ []) ≡ Err (Bad 168)
unfolding words_bytes read_notes head_of tables_of block_count_at segments_at blocks_at edges_at ranges_at
left_over = refl

-- A place's first and inner address, an address in a page and in no place, one outside all pages, and the last place's.
nodes : map (node_at small) (0x20004 ∷ 0x20008 ∷ 0x2000c ∷ 0x21000 ∷ 0x20010 ∷ []) ≡ Some 0 ∷ Some 0 ∷ None ∷ Some 2 ∷ Some 3 ∷ []
nodes = refl

-- The same of version 2, where two of the edges have two cells each.
abbrev wide : Notes
wide = record small {
  version = 2;
  cells = 4;
  edges = record { kind = 6; from = 0; to = 4; cell = Some 0 } ∷ record { kind = 4; from = 1; to = 2; cell = None }
      ∷ record { kind = 5; from = 2; to = 0; cell = Some 2 } ∷ [];
}

abbrev wide_words : List ℕ
wide_words = 4096 ∷ 16 ∷ 1 ∷ 0x10000 ∷ 4 ∷ 1 ∷ 0x30000 ∷ 4 ∷ 2 ∷ 0x20000 ∷ 0x1000 ∷ 0x30000 ∷ 8 ∷ 2 ∷ 0 ∷ 2
    ∷ 3 ∷ 6 ∷ 0 ∷ 4 ∷ 0 ∷ 4 ∷ 1 ∷ 2 ∷ 0xffffffff ∷ 5 ∷ 2 ∷ 0 ∷ 2
    ∷ 3 ∷ 0x20000 ∷ 0x20004 ∷ 0x10000 ∷ 0 ∷ 0x20004 ∷ 0x2000c ∷ 0x10004 ∷ 0 ∷ 0x20010 ∷ 0x20014 ∷ 0x10008 ∷ 3 ∷ []

wide_written : notes_bytes wide ≡ words_bytes wide_words
unfolding notes_bytes words_bytes
wide_written = refl

abbrev with_wide_word : ℕ × ℕ × ℕ → Result Notes NoNotes
with_wide_word change = read_notes 2 8192 (changed wide_words change)

wide_read : read_notes 2 8192 (words_bytes wide_words) ≡ Ok wide
unfolding words_bytes read_notes head_of tables_of block_count_at segments_at blocks_at edges_at ranges_at
wide_read = refl

-- a trace, and as many cells as there may be
wide_limits : map with_wide_word ((8, 3, 0) ∷ (28, 0x400001, 0) ∷ (28, 0x800000, 0) ∷ [])
    ≡ Ok (record wide { tool = 3 }) ∷ Ok (record wide { cells = 0x400001 }) ∷ Ok (record wide { cells = 0x800000 }) ∷ []
unfolding words_bytes read_notes head_of tables_of block_count_at segments_at blocks_at edges_at ranges_at
wide_limits = refl

-- A fourth tool and too many cells; then cells that are odd, past the others, half past them and taken.
abbrev wide_broken : List (ℕ × ℕ × ℕ)
wide_broken = (8, 4, 8) ∷ (28, 0x800001, 28)
    ∷ (80, 1, 68) ∷ (112, 1, 100) ∷ (112, 3, 100) ∷ (112, 4, 100) ∷ (28, 3, 100) ∷ (112, 0, 100) ∷ []

wide_rules : map with_wide_word wide_broken ≡ map named wide_broken
unfolding words_bytes read_notes head_of tables_of block_count_at segments_at blocks_at edges_at ranges_at
wide_rules = refl

-- Either version's words, read as the other's: counters of one cell, side by side, can't have two.
narrow_as_wide : read_notes 2 8192 (words_bytes words) ≡ Err (Bad 100)
unfolding words_bytes read_notes head_of tables_of block_count_at segments_at blocks_at edges_at ranges_at
narrow_as_wide = refl

wide_as_narrow : read_notes 1 8192 (words_bytes wide_words) ≡ Ok (record wide { version = 1 })
unfolding words_bytes read_notes head_of tables_of block_count_at segments_at blocks_at edges_at ranges_at
wide_as_narrow = refl
