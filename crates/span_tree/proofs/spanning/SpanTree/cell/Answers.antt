use Rattle.span_tree.proofs.Common.{rules, ◌≡◌, AreNumbered, cell_at}
use Rattle.span_tree.proofs.Numbered.{cell_within}
use Rattle.span_tree.proofs.spanning.SpanTree.cell.Goals as goal

pub returns-clause-within : goal.returns-clause-within
returns-clause-within c =
    rw is (cell_within c.args.self.now c.args.e.0 numbered)
  where
    is : c.flatten.result ≡ cell_at c.args.self.now c.args.e.0
    is = search rules

    numbered : AreNumbered c.args.self.now
    numbered = search rules
