use Rattle.eel.proofs.Common.{ap, sym, ◌∙◌, notes_seen, Dump, is_version}
use Rattle.eel.proofs.Cells.{no_length}
use Rattle.eel.proofs.dumps.dump_bytes.Goals as goal

pub write_dump-requires-clause-version : goal.write_dump-requires-clause-version
write_dump-requires-clause-version c =
    ap (λ (d : Dump). is_version d.version) c.in_ok-dump.ensures.dump ∙ c.requires.rules.version

pub write_dump-requires-clause-length : goal.write_dump-requires-clause-length
write_dump-requires-clause-length c = λ one.
    ap (λ (d : Dump). d.length) c.in_ok-dump.ensures.dump
    ∙ no_length (notes_seen c.args.notes.now) (sym (ap (λ (d : Dump). d.version) c.in_ok-dump.ensures.dump) ∙ one)
