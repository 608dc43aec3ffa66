-- What was written reads back.
use Rattle.dump_file.proofs.Common.{◌≡◌, ◌∙◌, ℕ, ◌+◌, ◌*◌, ◌<◌, ◌^◌, ◌==◌, Bool, true, false, List, [], ◌∷◌, ◌++◌, length, drop, Option, Some, None, Ok, if◌then◌else◌, refl, ap, sym, arith, ltb-true, le-leb, eq-eqb, eqb-true, append_assoc, length-append, drop-append_seam, big_bytes, is_version, Ending, Dump, kind_of, number_of, IsDump, mark, words_bytes, dump_bytes, count_place, count_at, field_at, ending_at, version_at, words_of, read_dump}
use Rattle.std.proofs.lemmas.Bool.Decides.{nat_tests}
use Rattle.v8_step.specs.declared.Ending.TheVariants.{Exit, Trap, Window, Couple}
use Rattle.dump_file.proofs.Words.{words_back}
use Rattle.dump_file.proofs.Fields.{Found, field_there}

ending_back : (bytes : List ℕ) (ending : Option Ending) → field_at 4 bytes 8 ≡ Ok (kind_of ending)
    → field_at 4 bytes 12 ≡ Ok (number_of ending) → number_of ending < 2 ^ 8 → ending_at bytes ≡ Ok ending
unfolding ending_at
ending_back bytes None kind number fits = rw (kind, number) refl
ending_back bytes (Some (Exit n)) kind number fits = rw (kind, number, le-leb n 255 (omega arith)) refl
ending_back bytes (Some (Trap n)) kind number fits = rw (kind, number, le-leb n 255 (omega arith)) refl
ending_back bytes (Some Window) kind number fits = rw (kind, number) refl
ending_back bytes (Some Couple) kind number fits = rw (kind, number) refl

read_back : (bytes : List ℕ) (dump : Dump) → Found bytes dump → is_version dump.version ≡ true
    → number_of dump.ending < 2 ^ 8
    → words_of (drop (count_place dump.version + 4) bytes) (length dump.cells) ≡ dump.cells → read_dump bytes ≡ Ok dump
unfolding read_dump version_at count_at
read_back bytes dump found known fits cells =
    let ending = ending_back bytes dump.ending found.kind found.number fits in
    let size = eq-eqb (length bytes) (count_place dump.version + 4 + 4 * length dump.cells) found.size in
    rw (found.first, found.version, known, ending, found.pc, found.steps, found.told, found.count, size, cells) refl

words_long : (words : List ℕ) → length (words_bytes words) ≡ 4 * length words
unfolding words_bytes
words_long [] = refl
words_long (word ∷ words) = let rest = words_long words in omega arith

-- ---- what stands behind the steps

-- the size of the original, but in version 1
abbrev told_bytes : Bool → ℕ → List ℕ
told_bytes narrow size = words_bytes (if narrow then [] else size ∷ [])

told_long : (narrow : Bool) (size : ℕ) → length (told_bytes narrow size) + 28 ≡ (if narrow then 28 else 32)
unfolding words_bytes
told_long true size = refl
told_long false size = refl

told_there : (narrow : Bool) (size : ℕ) (bytes before after : List ℕ) → length before ≡ 28
    → (narrow ≡ true → size ≡ 0) → size < 2 ^ 32 → bytes ≡ before ++ (told_bytes narrow size ++ after)
    → (if narrow then Ok 0 else field_at 4 bytes 28) ≡ Ok size
unfolding words_bytes
told_there true size bytes before after long none fits same = ap Ok (sym (none refl))
told_there false size bytes before after long none fits same = field_there bytes before after 4 size 28 same long fits

-- the bytes, field by field, up to the cells
abbrev to_length : Dump → List ℕ
to_length dump =
    big_bytes 4 mark
    ++ (big_bytes 4 dump.version
    ++ (big_bytes 4 (kind_of dump.ending)
    ++ (big_bytes 4 (number_of dump.ending) ++ (big_bytes 4 dump.pc ++ big_bytes 8 dump.steps))))

abbrev fields : Dump → List ℕ → List ℕ
fields dump cells =
    to_length dump ++ (told_bytes (dump.version == 1) dump.length ++ (big_bytes 4 (length dump.cells) ++ cells))

found_in : (dump : Dump) (bytes cells : List ℕ) → IsDump dump → length cells ≡ 4 * length dump.cells
    → bytes ≡ fields dump cells → Found bytes dump
found_in dump bytes cells is long same =
    let small = kind_small dump.ending in
    let number_fits = is.number in
    let version_fits = version_small dump.version is.version in
    let kind = kind_of dump.ending in
    let number = number_of dump.ending in
    let to_kind = big_bytes 4 mark ++ big_bytes 4 dump.version in
    let to_number = to_kind ++ big_bytes 4 kind in
    let to_pc = to_number ++ big_bytes 4 number in
    let to_steps = to_pc ++ big_bytes 4 dump.pc in
    let told = told_bytes (dump.version == 1) dump.length in
    let after = big_bytes 4 (length dump.cells) ++ cells in
    let told_size = told_long (dump.version == 1) dump.length in
    let place = length-append (to_length dump) told in
    let whole = length-append told after in
    let apart = append_assoc (to_length dump) told after in
    record {
      first = field_there bytes [] _ 4 mark 0 same refl (omega arith);
      version = field_there bytes (big_bytes 4 mark) _ 4 dump.version 4 same refl (omega arith);
      kind = field_there bytes to_kind _ 4 kind 8 same refl (omega arith);
      number = field_there bytes to_number _ 4 number 12 same refl (omega arith);
      pc = field_there bytes to_pc _ 4 dump.pc 16 same refl is.pc;
      steps = field_there bytes to_steps _ 8 dump.steps 20 same refl is.steps;
      told = told_there (dump.version == 1) dump.length bytes (to_length dump) after refl
          (λ narrow. is.no_length (eqb-true dump.version 1 narrow)) is.size same;
      count = field_there bytes (to_length dump ++ told) cells 4 (length dump.cells) (count_place dump.version)
          (same ∙ sym apart) (omega arith) is.count;
      size = rw same (omega arith);
    }
  where
    kind_small : (ending : Option Ending) → kind_of ending < 5
    kind_small (Some Window) = ltb-true _ 5 refl
    kind_small ending = ltb-true _ 5 refl

    version_small : (version : ℕ) → is_version version ≡ true → version < 3
    version_small version is = grind (arith, nat_tests)

-- the number of cells, as bytes
abbrev count_bytes : Dump → List ℕ
count_bytes dump = big_bytes 4 (length dump.cells)

pub parts : (dump : Dump) → dump_bytes dump ≡ fields dump (words_bytes dump.cells)
unfolding dump_bytes words_bytes
parts dump =
    ap (λ (rest : List ℕ). to_length dump ++ rest)
    (append_assoc (told_bytes (dump.version == 1) dump.length) (count_bytes dump) (words_bytes dump.cells))

joined : (dump : Dump) → dump_bytes dump
    ≡ (to_length dump ++ (told_bytes (dump.version == 1) dump.length ++ count_bytes dump)) ++ words_bytes dump.cells
unfolding dump_bytes words_bytes
joined dump = refl

cells_stand : (dump : Dump) → drop (count_place dump.version + 4) (dump_bytes dump) ≡ words_bytes dump.cells
cells_stand dump =
    let told = told_bytes (dump.version == 1) dump.length in
    let before = to_length dump ++ (told ++ count_bytes dump) in
    let whole = length-append (to_length dump) (told ++ count_bytes dump) in
    let parts = length-append told (count_bytes dump) in
    let told_size = told_long (dump.version == 1) dump.length in
    let long : length before ≡ count_place dump.version + 4 = omega arith in
    rw (joined dump, ← long) (drop-append_seam before (words_bytes dump.cells))

pub written_back : (dump : Dump) → IsDump dump → read_dump (dump_bytes dump) ≡ Ok dump
written_back dump is =
    let found = found_in dump (dump_bytes dump) (words_bytes dump.cells) is (words_long dump.cells) (parts dump) in
    read_back (dump_bytes dump) dump found is.version is.number (rw (cells_stand dump) (words_back dump.cells is.cells))
