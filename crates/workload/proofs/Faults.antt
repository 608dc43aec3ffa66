-- The generated file has no fault.
use Rattle.workload.proofs.Common.{◌≡◌, ℕ, ◌+◌, ◌*◌, ◌/◌, ◌^◌, ◌≤◌, true, List, [], ◌∷◌, ◌++◌, length, map, Some, None, refl, ap, ◌∙◌, arith, lt-ltb, le-ltb, e_entry, program_headers, loadable, word_of, routines_from, code_of, file_of, generated, text_header, is_text, Bool, HasNoFault}
use Rattle.elf32_sparc.specs.declared.fault.FileFault.{FileFault}
use Rattle.elf32_sparc.specs.FileFault.{first_that_holds, header_rows, entry_rows, load_rows, fault, load_fault, is_short, has_other_magic, has_other_class, has_other_order, has_other_version, has_other_type, has_other_machine, has_other_sizes, has_bad_table, has_dynamic, has_bytes_outside, has_memory_outside, has_memory_outside_a_run, has_disorder, has_misaligned, has_misshapen_text, has_large_text, has_other_entry, memory_size}
use Rattle.workload.proofs.Made.{word_count}
use Rattle.workload.proofs.Headers.{header_facts, length-file, text_entry}

module _ (size : ℕ) (some : 4 ≤ size) (few : size ≤ 2 ^ 22) where
  pub loads : loadable (text_entry size ∷ []) ≡ text_entry size ∷ []
  loads = rw (lt-ltb 0 size (omega arith)) refl

  is_the_text : is_text (text_entry size) ≡ true
  is_the_text = rw (lt-ltb 0 size (omega arith)) refl

  pub text_is_first : text_header (text_entry size ∷ []) ≡ Some (text_entry size)
  text_is_first = rw (is_the_text) refl

  -- the rows of an edit, and those of a load
  none_of_either : (first_that_holds (entry_rows (84 + size) 0x10054 (text_entry size ∷ [])) ≡ None)
      × (first_that_holds (load_rows (84 + size) (text_entry size ∷ [])) ≡ None)
  unfolding has_dynamic has_bytes_outside has_memory_outside has_memory_outside_a_run has_disorder has_misaligned has_misshapen_text has_large_text has_other_entry memory_size lib.Count.ones
  none_of_either =
      let is_some = lt-ltb 0 size (omega arith) in
      let same = le-ltb size size (omega arith) in
      let inside = le-ltb (84 + size) (84 + size) (omega arith) in
      let low = le-ltb 0x80000000 (0x10054 + size) (omega arith) in (
        rw (is_some, same, inside, low, le-ltb size 4 some, lt-ltb 0 (size / 4) (omega arith))
            (rw (le-ltb (2 ^ 20) (size / 4) (omega arith), le-ltb (128 * 2 ^ 20) (0 + size) (omega arith)) refl),
        rw (is_some, same, inside, low, le-ltb (1280 * 2 ^ 20) (0 + size) (omega arith)) refl,
      )

module _ (ws : List ℕ) (some : 1 ≤ length ws) (few : length ws ≤ 2 ^ 20) where
  passes : (most : ℕ) (rows : List (FileFault × Bool)) → 1 ≤ most
      → first_that_holds (header_rows most (file_of ws) ++ rows) ≡ first_that_holds rows
  unfolding is_short has_other_magic has_other_class has_other_order has_other_version has_other_type has_other_machine has_other_sizes has_bad_table
  passes most rows l =
      let f = header_facts ws (omega arith) in
      let long = length-file ws in
      let short = le-ltb (length (file_of ws)) 52 (omega (arith, long)) in
      let outside = le-ltb (length (file_of ws)) 84 (omega (arith, long)) in
      rw (short, f.magic, f.version, f.type, f.machine, f.ehsize, f.phentsize)
      (rw (f.phnum, f.phoff, le-ltb most 1 l, outside) refl)

  pub none : (fault (file_of ws) ≡ None) × (load_fault (file_of ws) ≡ None)
  unfolding fault load_fault
  none =
      let f = header_facts ws (omega arith) in (
        passes 64 (entry_rows (length (file_of ws)) (e_entry (file_of ws)) (program_headers (file_of ws))) (omega arith)
            ∙ rw (length-file ws, f.entry, f.entries) (none_of_either (4 * length ws) (omega arith) (omega arith)).0,
        passes 80 (load_rows (length (file_of ws)) (program_headers (file_of ws))) (omega arith)
            ∙ rw (length-file ws, f.entries) (none_of_either (4 * length ws) (omega arith) (omega arith)).1,
      )

pub has_no_fault : HasNoFault
unfolding generated
has_no_fault number count some few =
    let words = word_count number count in
    none (map word_of (code_of (routines_from count number) count)) (omega (arith, words)) (omega (arith, words))

pub generated_size : (number count : ℕ) → length (generated number count) ≡ 84 + 4 * (9 * count + 2)
unfolding generated
generated_size number count =
    length-file (map word_of (code_of (routines_from count number) count))
    ∙ ap (λ n. 84 + 4 * n) (word_count number count)
