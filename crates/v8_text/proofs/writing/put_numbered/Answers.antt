use Rattle.v8_text.specs.Texts.{number_text}
use Rattle.v8_text.proofs.Put.{named_put}
use Rattle.v8_text.proofs.writing.put_numbered.Goals as goal

pub returns : goal.returns
returns c =
    named_put c.args.text.now.items c.args.name.now c.put_name.new.text.items (number_text c.args.number) _
    c.in_ok-put_name.ensures c.in_ok-put_number.ensures
