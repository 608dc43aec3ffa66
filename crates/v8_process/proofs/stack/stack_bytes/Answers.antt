use Rattle.v8_process.proofs.Common.{◌∷◌, length, ap, ◌∙◌, texts, program_name}
use Rattle.v8_process.proofs.Valid.{stack-count}
use Rattle.v8_process.proofs.StackBytes.{parts}
use Rattle.v8_process.proofs.stack.stack_bytes.Goals as goal

pub returns-clause-bytes : goal.returns-clause-bytes
returns-clause-bytes c =
    let all = program_name ∷ texts c.args.args.now in
    rw (
      c.in_ok-put_zeros-3.ensures,
      c.in_ok-put_strings.ensures,
      c.in_ok-put_zeros-2.ensures,
      c.in_ok-put_argument_words.ensures,
      c.in_ok-put_zeros.ensures,
      c.in_ok-out.ensures.items,
    )
    (parts all c.layout_of-layout.result (record {
      words = c.layout_of-layout.ensures.words;
      words_end = c.layout_of-layout.ensures.words_end;
      first = c.layout_of-layout.ensures.strings;
      last = c.layout_of-layout.ensures.strings_end;
    }))

pub returns-clause-whole : goal.returns-clause-whole
returns-clause-whole c =
    c.put_zeros-3.new.out.ok.0
    ∙ ap length (returns-clause-bytes c)
    ∙ stack-count (program_name ∷ texts c.args.args.now) c.requires
