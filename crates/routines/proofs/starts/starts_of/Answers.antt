use Rattle.std.proofs.Common.{◌∙◌}
use Rattle.routines.proofs.Adding.{start_name_is}
use Rattle.routines.proofs.Inside.{none_past}
use Rattle.routines.proofs.starts.starts_of.Goals as goal

pub returns-clause-names : goal.returns-clause-names
returns-clause-names c = λ word.
    let named = c.in_ok-starts.ensures word in
    let with_entry = c.in_ok-add.ensures word in
    let with_called = rw c.text.ensures at (c.in_ok-add_all_called.ensures word) in
    let all = start_name_is c.args.image.now word in
    cc (named, with_entry, with_called, all)

pub returns-clause-inside : goal.returns-clause-inside
returns-clause-inside c = λ word past.
    returns-clause-names c word
    ∙ none_past c.args.image.now c.entry.ensures.inside c.funcs.ensures.inside word past
