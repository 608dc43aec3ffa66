-- Dumps that compute, of both versions: one without cells, one with two, and each rule broken once.
use Rattle.std.specs.Prelude.{[], Some, ◌≡◌, ◌∷◌, refl, None, ℕ, List, Ok, ◌++◌, take, drop, Result, Option, map, Err, ◌+◌}
use Rattle.v8_step.specs.declared.Ending.TheVariants.{Exit, Trap, Window, Couple}
use Rattle.v8_step.specs.declared.Ending.{Ending}
use Rattle.dump_file.specs.Dump.{Dump}
use Rattle.dump_file.specs.Written.{words_bytes, dump_bytes}
use Rattle.dump_file.specs.Reading.{count_at, ending_at, read_dump, version_at, words_of}

-- exit with 3, at 0x20000 after 3 steps
abbrev exits : Dump
exits = record { version = 1; ending = Some (Exit 3); pc = 0x20000; steps = 3; length = 0; cells = [] }

pub exits_bytes : dump_bytes exits ≡ words_bytes (0x45454c44 ∷ 1 ∷ 1 ∷ 3 ∷ 0x20000 ∷ 0 ∷ 3 ∷ 0 ∷ [])
unfolding dump_bytes words_bytes
exits_bytes = refl

-- stopped at 0x10058 after 2^32 + 7 steps, with two cells
abbrev stopped : Dump
stopped = record {
  version = 1;
  ending = None;
  pc = 0x10058;
  steps = 0x100000007;
  length = 0;
  cells = 12 ∷ 0xffffffff ∷ [];
}

abbrev words : List ℕ
words = 0x45454c44 ∷ 1 ∷ 0 ∷ 0 ∷ 0x10058 ∷ 1 ∷ 7 ∷ 2 ∷ 12 ∷ 0xffffffff ∷ []

stopped_bytes : dump_bytes stopped ≡ words_bytes words
unfolding dump_bytes words_bytes
stopped_bytes = refl

stopped_reads : read_dump (words_bytes words) ≡ Ok stopped
unfolding words_bytes read_dump version_at ending_at count_at words_of
stopped_reads = refl

-- the dump with the words at 8 and 12 replaced
abbrev with_ending : ℕ × ℕ → Result Dump ℕ
with_ending ending =
    let bytes = words_bytes words in
    read_dump (take 8 bytes ++ words_bytes (ending.0 ∷ ending.1 ∷ []) ++ drop 16 bytes)

abbrev ended : Option Ending → Result Dump ℕ
ended ending = Ok (record {
  version = 1;
  ending = ending;
  pc = 0x10058;
  steps = 0x100000007;
  length = 0;
  cells = 12 ∷ 0xffffffff ∷ [];
})

endings : map with_ending ((0, 0) ∷ (1, 255) ∷ (2, 7) ∷ (3, 0) ∷ (4, 0) ∷ [])
    ≡ map ended (None ∷ Some (Exit 255) ∷ Some (Trap 7) ∷ Some Window ∷ Some Couple ∷ [])
unfolding words_bytes read_dump version_at ending_at count_at words_of
endings = refl

no_endings : map with_ending ((5, 0) ∷ (0, 1) ∷ (1, 256) ∷ (2, 256) ∷ (3, 1) ∷ (4, 1) ∷ [])
    ≡ map Err (8 ∷ 12 ∷ 12 ∷ 12 ∷ 12 ∷ 12 ∷ [])
unfolding words_bytes read_dump version_at ending_at count_at words_of
no_endings = refl

-- these words with the one at an offset replaced, read
abbrev with_word : List ℕ → ℕ × ℕ → Result Dump ℕ
with_word words change =
    let bytes = words_bytes words in
    read_dump (take change.0 bytes ++ words_bytes (change.1 ∷ []) ++ drop (change.0 + 4) bytes)

broken : map (with_word words) ((0, 0x45454c4e) ∷ (4, 0) ∷ (4, 3) ∷ (28, 1) ∷ (28, 3) ∷ [])
    ≡ map Err (0 ∷ 4 ∷ 4 ∷ 28 ∷ 28 ∷ [])
unfolding words_bytes read_dump version_at ending_at count_at words_of
broken = refl

-- The first bytes alone, so many, and the first number that isn't whole. The steps are one number of eight bytes.
abbrev cut : List ℕ → ℕ × ℕ → Result Dump ℕ
cut words ending = read_dump (take ending.0 (words_bytes words))

abbrev missing : List (ℕ × ℕ)
missing = (0, 0) ∷ (3, 0) ∷ (4, 4) ∷ (11, 8) ∷ (15, 12) ∷ (19, 16) ∷ (20, 20) ∷ (24, 20) ∷ (27, 20) ∷ (28, 28)
    ∷ (31, 28) ∷ (39, 28) ∷ []

cuts : map (cut words) missing ≡ map (λ ending. Err ending.1) missing
unfolding words_bytes read_dump version_at ending_at count_at words_of
cuts = refl

-- a byte after the last cell
left_over : read_dump (words_bytes words ++ 0 ∷ []) ≡ Err 28
unfolding words_bytes read_dump version_at ending_at count_at words_of
left_over = refl

-- ---- version 2

-- stopped there as well, of an original of 131,160 bytes
abbrev wide : Dump
wide = record {
  version = 2;
  ending = None;
  pc = 0x10058;
  steps = 0x100000007;
  length = 0x20058;
  cells = 12 ∷ 0xffffffff ∷ [];
}

abbrev wide_words : List ℕ
wide_words = 0x45454c44 ∷ 2 ∷ 0 ∷ 0 ∷ 0x10058 ∷ 1 ∷ 7 ∷ 0x20058 ∷ 2 ∷ 12 ∷ 0xffffffff ∷ []

wide_bytes : dump_bytes wide ≡ words_bytes wide_words
unfolding dump_bytes words_bytes
wide_bytes = refl

wide_reads : read_dump (words_bytes wide_words) ≡ Ok wide
unfolding words_bytes read_dump version_at ending_at count_at words_of
wide_reads = refl

-- exit with 3, without a cell; any size reads, and 0 too
abbrev wide_exits : Dump
wide_exits = record { version = 2; ending = Some (Exit 3); pc = 0x20000; steps = 3; length = 0; cells = [] }

abbrev wide_exits_words : List ℕ
wide_exits_words = 0x45454c44 ∷ 2 ∷ 1 ∷ 3 ∷ 0x20000 ∷ 0 ∷ 3 ∷ 0 ∷ 0 ∷ []

wide_exits_bytes : dump_bytes wide_exits ≡ words_bytes wide_exits_words
unfolding dump_bytes words_bytes
wide_exits_bytes = refl

wide_exits_reads : read_dump (words_bytes wide_exits_words) ≡ Ok wide_exits
unfolding words_bytes read_dump version_at ending_at count_at words_of
wide_exits_reads = refl

-- The version says where the number of cells stands: bytes of one version don't read as the other.
abbrev wide_changes : List (ℕ × ℕ)
wide_changes = (0, 0x45454c4e) ∷ (4, 0) ∷ (4, 3) ∷ (4, 1) ∷ (8, 5) ∷ (12, 1) ∷ (32, 1) ∷ (32, 3) ∷ []

wide_broken : map (with_word wide_words) wide_changes ≡ map Err (0 ∷ 4 ∷ 4 ∷ 28 ∷ 8 ∷ 12 ∷ 32 ∷ 32 ∷ [])
unfolding words_bytes read_dump version_at ending_at count_at words_of
wide_broken = refl

narrow_as_wide : with_word words (4, 2) ≡ Err 32
unfolding words_bytes read_dump version_at ending_at count_at words_of
narrow_as_wide = refl

abbrev wide_missing : List (ℕ × ℕ)
wide_missing = (0, 0) ∷ (7, 4) ∷ (11, 8) ∷ (15, 12) ∷ (19, 16) ∷ (27, 20) ∷ (28, 28) ∷ (31, 28) ∷ (32, 32) ∷ (35, 32)
    ∷ (36, 32) ∷ (43, 32) ∷ []

wide_cuts : map (cut wide_words) wide_missing ≡ map (λ ending. Err ending.1) wide_missing
unfolding words_bytes read_dump version_at ending_at count_at words_of
wide_cuts = refl

-- a byte after the last cell
wide_left_over : read_dump (words_bytes wide_words ++ 0 ∷ []) ≡ Err 32
unfolding words_bytes read_dump version_at ending_at count_at words_of
wide_left_over = refl
