use Rattle.std.proofs.Common.{length, arith}
use Rattle.span_tree.specs.Cells.{has_cell}
use Rattle.span_tree.proofs.LoopBounds.{counted_few}
use Rattle.eel_reports.proofs.profile.tree_by.Goals as goal

pub returns-clause-few : goal.returns-clause-few
returns-clause-few c =
    let cells = c.in_ok-tree.tree in
    omega (
      arith,
      counted_few (length cells) (has_cell cells),
      c.in_ok-tree.ensures.len,
      c.requires.few,
    )
