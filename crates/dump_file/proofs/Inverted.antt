-- What reads is what is written of the dump that was read.
use Rattle.dump_file.proofs.Common.{◌≡◌, ℕ, zero, suc, ◌+◌, ◌*◌, ◌<◌, ◌≤◌, ◌^◌, ◌==◌, Bool, true, false, List, [], ◌∷◌, ◌++◌, length, drop, Option, Result, Ok, if◌then◌else◌, refl, ap, sym, subst, ◌∙◌, arith, nat_le, All, leb-true, eq-eqb, eqb-true, false≢true, length-drop, big_bytes, is_version, Ending, Dump, kind_of, number_of, IsDump, mark, words_bytes, dump_bytes, count_at, count_place, field_at, version_at, kept, length_at, number_limit, ending_of, ending_at, fits, words_of, read_dump}
use Rattle.dump_file.proofs.Words.{AreBytes, are_bytes, bytes_dropped, words_again, length-words, words_fit, written_4, written_8}
use Rattle.notes.proofs.Kept.{met, parted}
use Rattle.dump_file.proofs.Fields.{Found, after, field_fits}
use Rattle.dump_file.proofs.ReadsBack.{parts as fields_stand}
pub use Rattle.dump_file.proofs.Examples.{exits_bytes}

ending_parts : (kind number : ℕ) → kind ≤ 4 → number ≤ number_limit kind
    → (kind_of (ending_of kind number) ≡ kind) × (number_of (ending_of kind number) ≡ number) × (number < 2 ^ 8)
ending_parts zero number few low = (refl, omega arith, omega arith)
ending_parts (suc zero) number few low = (refl, refl, omega arith)
ending_parts (suc (suc zero)) number few low = (refl, refl, omega arith)
ending_parts (suc (suc (suc zero))) number few low = (refl, omega arith, omega arith)
ending_parts (suc (suc (suc (suc zero)))) number few low = (refl, omega arith, omega arith)
ending_parts (suc (suc (suc (suc (suc kind))))) number few low = absurd (omega arith)

record EndingRead (bytes : List ℕ) (ending : Option Ending) : Type 0 where
  kind : field_at 4 bytes 8 ≡ Ok (kind_of ending)
  number : field_at 4 bytes 12 ≡ Ok (number_of ending)
  small : number_of ending < 2 ^ 8

ending_read : (bytes : List ℕ) (ending : Option Ending) → ending_at bytes ≡ Ok ending → EndingRead bytes ending
unfolding ending_at
ending_read bytes ending h =
    let read = parted (field_at 4 bytes 8) _ ending h in
    let kind = parted (kept (nat_le read.got 4) 8 read.got) _ ending read.rest in
    let low = met (nat_le read.got 4) 8 read.got kind.got kind.is in
    let number = parted (field_at 4 bytes 12) _ ending kind.rest in
    let last =
    met (nat_le number.got (number_limit kind.got)) 12 (ending_of kind.got number.got) ending number.rest in
    let few : kind.got ≤ 4 = rw low.same at (leb-true read.got 4 low.met) in
    let parts = ending_parts kind.got number.got few (leb-true number.got (number_limit kind.got) last.met) in
    let whole : EndingRead bytes (ending_of kind.got number.got) = record {
      kind = read.is ∙ ap Ok (low.same ∙ sym parts.0);
      number = number.is ∙ ap Ok (sym parts.1);
      small = rw (parts.1) (parts.2);
    } in
    subst (EndingRead bytes) last.same whole

-- What was read, and the dump that it is.
record Read (bytes : List ℕ) (dump : Dump) : Type 0 where
  found : Found bytes dump
  known : is_version dump.version ≡ true
  small : number_of dump.ending < 2 ^ 8
  cells : dump.cells ≡ words_of (drop (count_place dump.version + 4) bytes) (length dump.cells)

read_parts : (bytes : List ℕ) (dump : Dump) → read_dump bytes ≡ Ok dump → Read bytes dump
unfolding read_dump version_at count_at
read_parts bytes dump h =
    let version = parted (version_at bytes) _ dump h in
    let first = parted (field_at 4 bytes 0) _ version.got version.is in
    let begins = parted (kept (first.got == mark) 0 first.got) _ version.got first.rest in
    let told_version = parted (field_at 4 bytes 4) _ version.got begins.rest in
    let ending = parted (ending_at bytes) _ dump version.rest in
    let pc = parted (field_at 4 bytes 16) _ dump ending.rest in
    let steps = parted (field_at 8 bytes 20) _ dump pc.rest in
    let told = parted (length_at version.got bytes) _ dump steps.rest in
    let place = count_place version.got in
    let count = parted (count_at version.got bytes) _ dump told.rest in
    let told_count = parted (field_at 4 bytes place) _ count.got count.is in
    let whole : Dump = record {
      version = version.got;
      ending = ending.got;
      pc = pc.got;
      steps = steps.got;
      length = told.got;
      cells = words_of (drop (place + 4) bytes) count.got;
    } in
    let first_met = met (first.got == mark) 0 first.got begins.got begins.is in
    let known_met = met (is_version told_version.got) 4 told_version.got version.got told_version.rest in
    let last = met (fits (place + 4) bytes told_count.got) place told_count.got count.got told_count.rest in
    let count_is : field_at 4 bytes place ≡ Ok count.got = told_count.is ∙ ap Ok last.same in
    let all : fits (place + 4) bytes count.got ≡ true = rw (← last.same) last.met in
    let end = ending_read bytes ending.got ending.is in
    let long = length-words count.got (drop (place + 4) bytes) in
    let size = eqb-true (length bytes) (place + 4 + 4 * count.got) all in
    let read : Read bytes whole = record {
      found = record {
        first = first.is ∙ ap Ok (eqb-true first.got mark first_met.met);
        version = told_version.is ∙ ap Ok known_met.same;
        kind = end.kind;
        number = end.number;
        pc = pc.is;
        steps = steps.is;
        told = told.is;
        count = count_is ∙ ap Ok (sym long);
        size = rw long size;
      };
      known = rw (← known_met.same) known_met.met;
      small = end.small;
      cells = ap (words_of (drop (place + 4) bytes)) (sym long);
    } in
    let same : whole ≡ dump = cc count.rest in
    subst (Read bytes) same read

-- ---- what stands behind the steps

-- but in version 1, the size of the original
abbrev told_at : Bool → List ℕ → Result ℕ ℕ
told_at narrow bytes = if narrow then Ok 0 else field_at 4 bytes 28

told_again : (narrow : Bool) (size : ℕ) (bytes : List ℕ) → AreBytes bytes → told_at narrow bytes ≡ Ok size
    → drop 28 bytes ≡ words_bytes (if narrow then [] else size ∷ []) ++ drop (if narrow then 28 else 32) bytes
unfolding words_bytes
told_again true size bytes are told = refl
told_again false size bytes are told = after written_4 28 32 size bytes are told refl

none_told : (narrow : Bool) (size : ℕ) (bytes : List ℕ) → told_at narrow bytes ≡ Ok size → narrow ≡ true → size ≡ 0
none_told true size bytes told is = cc told
none_told false size bytes told is = absurd (false≢true is)

told_fits : (narrow : Bool) (size : ℕ) (bytes : List ℕ) → AreBytes bytes → told_at narrow bytes ≡ Ok size
    → size < 2 ^ 32
told_fits true size bytes are told = let none : 0 ≡ size = cc told in omega (arith, none)
told_fits false size bytes are told = field_fits 4 28 size bytes are told

cells_again : (place : ℕ) (bytes cells : List ℕ) → AreBytes bytes → field_at 4 bytes place ≡ Ok (length cells)
    → length bytes ≡ place + 4 + 4 * length cells → cells ≡ words_of (drop (place + 4) bytes) (length cells)
    → drop place bytes ≡ big_bytes 4 (length cells) ++ words_bytes cells
cells_again place bytes cells are count all same =
    let size = length-drop (place + 4) bytes in
    after written_4 place (place + 4) (length cells) bytes are count refl
    ∙ ap (λ (rest : List ℕ). big_bytes 4 (length cells) ++ rest)
    (words_again (length cells) (drop (place + 4) bytes) (omega arith) (bytes_dropped (place + 4) bytes are)
    ∙ ap words_bytes (sym same))

again : (bytes : List ℕ) (dump : Dump) → AreBytes bytes → Read bytes dump → bytes ≡ dump_bytes dump
again bytes dump are read =
    let found = read.found in
    after written_4 0 4 mark bytes are found.first refl
    ∙ rw (
      after written_4 4 8 dump.version bytes are found.version refl,
      after written_4 8 12 (kind_of dump.ending) bytes are found.kind refl,
      after written_4 12 16 (number_of dump.ending) bytes are found.number refl,
      after written_4 16 20 dump.pc bytes are found.pc refl,
      after written_8 20 28 dump.steps bytes are found.steps refl,
      told_again (dump.version == 1) dump.length bytes are found.told,
      cells_again (count_place dump.version) bytes dump.cells are found.count found.size read.cells,
    ) (sym (fields_stand dump))

pub read_again : (bytes : List ℕ) (dump : Dump) → All (λ byte. byte < 256) bytes → read_dump bytes ≡ Ok dump
    → (bytes ≡ dump_bytes dump) × IsDump dump
read_again bytes dump all h =
    let are = are_bytes bytes all in
    let read = read_parts bytes dump h in
    let place = count_place dump.version in
    let cells : All (λ cell. cell < 2 ^ 32) dump.cells =
    subst (All (λ cell. cell < 2 ^ 32)) (sym read.cells)
    (words_fit (length dump.cells) (drop (place + 4) bytes) (bytes_dropped (place + 4) bytes are)) in (
      again bytes dump are read,
      record {
        version = read.known;
        no_length = λ is. none_told (dump.version == 1) dump.length bytes read.found.told (eq-eqb dump.version 1 is);
        size = told_fits (dump.version == 1) dump.length bytes are read.found.told;
        number = read.small;
        pc = field_fits 4 16 dump.pc bytes are read.found.pc;
        steps = field_fits 8 20 dump.steps bytes are read.found.steps;
        count = field_fits 4 place (length dump.cells) bytes are read.found.count;
        cells = cells;
      },
    )
