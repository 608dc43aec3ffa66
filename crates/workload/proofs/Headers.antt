-- The headers of a file that holds some words, and their fields.
use Rattle.workload.proofs.Common.{◌≡◌, ℕ, ◌+◌, ◌*◌, ◌^◌, ◌<◌, ◌≤◌, List, [], ◌∷◌, ◌++◌, length, drop, refl, arith, w32, to_be_bytes, big_number, big_number-reads_back, e_entry, program_headers, bytes_of, header_words, file_of, le-leb, length-bytes_high_first, half_at, word_at, ei_magic, e_type, e_machine, e_version, e_phoff, e_ehsize, e_phentsize, e_phnum, program_header, length-flat_map}
use Rattle.elf32_sparc.specs.declared.header.ProgramHeader.{ProgramHeader}

pub length-bytes_of : (ws : List ℕ) → length (bytes_of ws) ≡ 4 * length ws
length-bytes_of = length-flat_map (to_be_bytes w32) 4 (length-bytes_high_first 4)

pub length-file : (ws : List ℕ) → length (file_of ws) ≡ 84 + 4 * length ws
length-file ws = omega (arith, length-bytes_of (header_words (4 * length ws) ++ ws))

word_there : (file : List ℕ) (at n : ℕ) → at + 4 ≤ length file → big_number 4 (drop at file) ≡ n → word_at file at ≡ n
unfolding word_at
word_there file at n long is = rw (le-leb (at + 4) (length file) long) is

half_there : (file : List ℕ) (at n : ℕ) → at + 2 ≤ length file → big_number 2 (drop at file) ≡ n → half_at file at ≡ n
unfolding half_at
half_there file at n long is = rw (le-leb (at + 2) (length file) long) is

-- the program header of the text
abbrev pub text_entry : ℕ → ProgramHeader
text_entry size = record {
  p_type = 1;
  p_offset = 84;
  p_vaddr = 0x10054;
  p_paddr = 0x10054;
  p_filesz = size;
  p_memsz = size;
  p_flags = 5;
  p_align = 0x10000;
}

pub record HeaderFacts (ws : List ℕ) : Type 0 where
  pub magic : ei_magic (file_of ws) ≡ 0x7f454c46
  pub type : e_type (file_of ws) ≡ 2
  pub machine : e_machine (file_of ws) ≡ 2
  pub version : e_version (file_of ws) ≡ 1
  pub entry : e_entry (file_of ws) ≡ 0x10054
  pub phoff : e_phoff (file_of ws) ≡ 52
  pub ehsize : e_ehsize (file_of ws) ≡ 52
  pub phentsize : e_phentsize (file_of ws) ≡ 32
  pub phnum : e_phnum (file_of ws) ≡ 1
  pub entries : program_headers (file_of ws) ≡ text_entry (4 * length ws) ∷ []

entry_read : (ws : List ℕ) → 4 * length ws < 2 ^ 32
    → program_header (file_of ws) 52 ≡ text_entry (4 * length ws)
unfolding program_header
entry_read ws fits =
    let size = 4 * length ws in
    let file = file_of ws in
    let long = length-file ws in
    let memsz = big_number-reads_back 4 size (bytes_of (5 ∷ 0x10000 ∷ ws)) (omega arith) in
    let filesz = big_number-reads_back 4 size (bytes_of (size ∷ 5 ∷ 0x10000 ∷ ws)) (omega arith) in
    rw (word_there file 52 1 (omega arith) refl, word_there file 56 84 (omega arith) refl)
    (rw (word_there file 60 0x10054 (omega arith) refl, word_there file 64 0x10054 (omega arith) refl)
    (rw (word_there file 68 size (omega arith) filesz, word_there file 72 size (omega arith) memsz)
    (rw (word_there file 76 5 (omega arith) refl, word_there file 80 0x10000 (omega arith) refl) refl)))

pub header_facts : (ws : List ℕ) → 4 * length ws < 2 ^ 32 → HeaderFacts ws
unfolding program_headers
header_facts ws fits =
    let file = file_of ws in
    let long = length-file ws in
    let at = word_there file 28 52 (omega arith) refl in
    let count = half_there file 44 1 (omega arith) refl in
    record {
      magic = word_there file 0 0x7f454c46 (omega arith) refl;
      type = half_there file 16 2 (omega arith) refl;
      machine = half_there file 18 2 (omega arith) refl;
      version = word_there file 20 1 (omega arith) refl;
      entry = word_there file 24 0x10054 (omega arith) refl;
      phoff = at;
      ehsize = half_there file 40 52 (omega arith) refl;
      phentsize = half_there file 42 32 (omega arith) refl;
      phnum = count;
      entries = rw (at, count, entry_read ws fits) refl;
    }
