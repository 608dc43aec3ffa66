use Rattle.elf32_sparc.proofs.Common.{sym, ap, ◌∙◌, subst, IsText, words_of}
use Rattle.elf32_sparc.proofs.Padding.{text_from-words}
use Rattle.elf32_sparc.proofs.program.read_text.Goals as goal

pub unreachable-requires : goal.unreachable-requires
unreachable-requires c =
    let words = c.in_ok-words.ensures ∙ (ap (λ n. words_of n c.file_bytes.result.now) c.word_count.ensures ∙ ap (words_of _) c.file_bytes.ensures) in
    c.in-None.ensures (subst IsText (text_from-words c.args.bytes.now c.args.header.now c.in_ok-words.words.items words) c.requires)

pub returns : goal.returns
returns c =
    let words = c.in_ok-words.ensures ∙ (ap (λ n. words_of n c.file_bytes.result.now) c.word_count.ensures ∙ ap (words_of _) c.file_bytes.ensures) in
    c.in-Some.ensures.1 ∙ sym (text_from-words c.args.bytes.now c.args.header.now c.in_ok-words.words.items words)
