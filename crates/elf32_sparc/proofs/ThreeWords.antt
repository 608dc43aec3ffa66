-- A file of three words, by computation.
use Rattle.elf32_sparc.proofs.Common.{◌≡◌, ℕ, List, [], ◌∷◌, None, refl, flat_map, half_at, word_at, program_header, program_headers, is_short, has_other_magic, has_other_class, has_other_order, has_other_version, has_other_type, has_other_machine, has_other_sizes, has_bad_table, has_dynamic, has_bytes_outside, has_memory_outside, has_disorder, has_misaligned, has_misshapen_text, has_large_text, has_other_entry, memory_size, fault, load_fault, has_memory_outside_a_run, text_from, text_of, image_of}
use Rattle.std.specs.Int.{w32, to_be_bytes}
use Rattle.std.specs.Int.RustNames.{count_ones}

abbrev pub three_words : List ℕ
three_words = flat_map (to_be_bytes w32) (0x7f454c46 ∷ 0x01020100 ∷ 0 ∷ 0 ∷ 0x00020002 ∷ 1 ∷ 0x00010054 ∷ 0x34 ∷ 0 ∷ 0 ∷ 0x00340020 ∷ 0x00010000 ∷ 0 ∷ 1 ∷ 0x54 ∷ 0x10054 ∷ 0x10054 ∷ 0xc ∷ 0xc ∷ 5 ∷ 0x10000 ∷ 0x82102001 ∷ 0x90102003 ∷ 0x91d02010 ∷ [])

pub no_fault : fault three_words ≡ None
unfolding half_at word_at program_header program_headers is_short has_other_magic has_other_class has_other_order has_other_version has_other_type has_other_machine has_other_sizes has_bad_table has_dynamic has_bytes_outside has_memory_outside has_disorder has_misaligned has_misshapen_text has_large_text has_other_entry memory_size fault count_ones
no_fault = refl

no_load_fault : load_fault three_words ≡ None
unfolding half_at word_at program_header program_headers is_short has_other_magic has_other_class has_other_order has_other_version has_other_type has_other_machine has_other_sizes has_bad_table has_dynamic has_bytes_outside has_memory_outside_a_run has_disorder has_misaligned memory_size load_fault count_ones
no_load_fault = refl

its_words : (image_of three_words).text ≡ record { start = 0x10054; words = 0x82102001 ∷ 0x90102003 ∷ 0x91d02010 ∷ [] }
unfolding half_at word_at program_header program_headers text_from text_of image_of
its_words = refl

its_base : (image_of three_words).base ≡ 0x20000
unfolding half_at word_at program_header program_headers text_from text_of image_of
its_base = refl

its_room : (image_of three_words).room ≡ 0x40000000
unfolding half_at word_at program_header program_headers text_from text_of image_of
its_room = refl
