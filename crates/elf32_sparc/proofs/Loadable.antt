-- What is true of a file that can be run.
use Rattle.elf32_sparc.proofs.Common.{◌≡◌, ℕ, ◌*◌, ◌^◌, false, nat_lt, List, ◌++◌, length, None, program_headers, header_rows, load_rows, load_fault, has_bytes_outside, has_memory_outside_a_run, has_disorder, has_misaligned, memory_size}
use Rattle.elf32_sparc.proofs.Accepted.{none_holds, HeaderAccepted, header_accepted}

pub record Loadable (file : List ℕ) : Type 0 where
  pub header : HeaderAccepted 80 file
  pub segment_file : has_bytes_outside (length file) (program_headers file) ≡ false
  pub segment_room : has_memory_outside_a_run (program_headers file) ≡ false
  pub segment_order : has_disorder (program_headers file) ≡ false
  pub align : has_misaligned (program_headers file) ≡ false
  pub memory_large : nat_lt (1280 * 2 ^ 20) (memory_size (program_headers file)) ≡ false

pub loadable_file : (file : List ℕ) → load_fault file ≡ None → Loadable file
unfolding load_fault
loadable_file file none =
    let rows = load_rows (length file) (program_headers file) in
    let all = header_accepted 80 file rows (none_holds (header_rows 80 file ++ rows) none) in assumption

pub loads_inside : (file : List ℕ) → load_fault file ≡ None → has_bytes_outside (length file) (program_headers file) ≡ false
loads_inside file none = (loadable_file file none).segment_file
