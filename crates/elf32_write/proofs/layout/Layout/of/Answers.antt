use Rattle.elf32_write.proofs.Common.{arith}
use Rattle.elf32_write.proofs.Segments.{delta-to, offsets_fit}
use Rattle.elf32_write.proofs.layout.Layout.of.Goals as goal

pub overflow_add-original_end : goal.overflow_add-original_end
overflow_add-original_end c =
    omega (arith, c.delta-delta.ensures c.args.bytes.now c.requires.image, delta-to _ _ _ c.requires.original, c.requires.original.limit)

pub segments_end-requires : goal.segments_end-requires
segments_end-requires c =
    rw (c.delta-delta.ensures _ c.requires.image) (omega (arith, offsets_fit _ _ _ c.requires.original))

pub next_word-notes_at-requires : goal.next_word-notes_at-requires
next_word-notes_at-requires c =
    rw (c.segments_end.ensures, c.delta-delta.ensures _ c.requires.image) (omega (arith, offsets_fit _ _ _ c.requires.original))

pub overflow_add-notes_end : goal.overflow_add-notes_end
overflow_add-notes_end c =
    rw (c.next_word-notes_at.ensures, c.segments_end.ensures, c.delta-delta.ensures _ c.requires.image) (omega (arith, offsets_fit _ _ _ c.requires.original))

pub returns-clause-notes : goal.returns-clause-notes
returns-clause-notes c = rw (c.next_word-notes_at.ensures, c.segments_end.ensures, c.delta-delta.ensures _ c.requires.image)

pub returns-clause-sections : goal.returns-clause-sections
returns-clause-sections c =
    rw (c.sections_at.ensures, c.next_word-notes_at.ensures, c.segments_end.ensures, c.delta-delta.ensures _ c.requires.image)

pub returns-clause-small : goal.returns-clause-small
returns-clause-small c =
    rw (c.next_word-notes_at.ensures, c.segments_end.ensures, c.delta-delta.ensures _ c.requires.image) (omega (arith, offsets_fit _ _ _ c.requires.original))
