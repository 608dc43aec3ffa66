-- What is true of every written file.
use Rattle.elf32_write.proofs.Common.{◌≡◌, ◌+◌, false, nat_lt, [], ◌∷◌, length, refl, arith, le-leb, le-ltb, written, delta_in, original_end, notes_at, locator_at, words_bytes, word_at, OriginalIsHeld, NotesAreRead, EntryIsGiven, SizeIsBounded}
use Rattle.notes.specs.Format.{notes_of}
use Rattle.elf32_write.proofs.Part.{take_part, length_part, fields_at}
use Rattle.elf32_write.proofs.Segments.{segments_end-to, delta-from, delta-to, offsets_fit, notes-beyond}
use Rattle.elf32_write.proofs.Fields.{few_sections}
use Rattle.elf32_write.proofs.Tables.{length-section_table}
use Rattle.elf32_write.proofs.WrittenParts.{written_stands, header_facts}

pub original_is_held : OriginalIsHeld
original_is_held original added entry notes can =
    let s = written_stands original added entry notes can in
    record {
      holds = take_part s.original;
      from = delta-from original;
      to = delta-to original added notes can;
      inside = omega (arith, length_part s.original);
    }

pub notes_are_read : NotesAreRead
unfolding notes_of words_bytes word_at
notes_are_read original added entry notes can =
    let file = written original added entry notes in
    let s = written_stands original added entry notes can in
    let at = notes_at original added in
    let fit = offsets_fit original added notes can in
    let f = fields_at 4 file locator_at 0 (0x45454c4e ∷ 2 ∷ at ∷ length notes ∷ []) s.locator in
    let inside : nat_lt (length file) (at + length notes) ≡ false = le-ltb (length file) (at + length notes) (omega (arith, s.whole)) in
    rw (
      le-leb 4096 (length file) (omega (arith, notes-beyond original added, s.whole)),
      f.0 (omega arith),
      f.1.0 (omega arith),
      f.1.1.0 (omega (arith, fit)),
      f.1.1.1.0 (omega (arith, fit)),
      inside,
      take_part s.notes,
    ) refl

pub entry_is_given : EntryIsGiven
unfolding word_at
entry_is_given original added entry notes can are = (header_facts original added entry notes can).words.1.0 are.address

pub size_is_bounded : SizeIsBounded
size_is_bounded original added entry notes can are =
    omega (
      arith,
      (written_stands original added entry notes can).whole,
      segments_end-to (original_end original) added,
      can.few,
      delta-to original added notes can,
      length-section_table (delta_in original) original,
      few_sections original are.bytes,
    )
