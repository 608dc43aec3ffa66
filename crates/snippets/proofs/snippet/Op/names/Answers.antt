use Rattle.snippets.proofs.snippet.Op.names.Goals as goal

pub returns-in-Keep : goal.returns-in-Keep
returns-in-Keep c = rw c.in-Keep.is c.only.ensures

pub returns-in-Top : goal.returns-in-Top
returns-in-Top c = rw c.in-Top.is c.only-in-Top.ensures
