use Rattle.eel.proofs.Common.{◌≡◌, [], get_or, rules, sym, subst}
use Rattle.snippets.specs.Cells.{WorksBelow}
use Rattle.eel.proofs.instrumentation.named_on.Goals as goal

pub returns-in-Some-clause-below : goal.returns-in-Some-clause-below
returns-in-Some-clause-below c =
    let same : c.in-Some.snippet.now ≡ get_or c.args.script.now.snips.items c.args.edge.0 [] = search rules in
    subst (WorksBelow c.args.script.now.cells) (sym same) (c.requires.below c.args.edge.0)
