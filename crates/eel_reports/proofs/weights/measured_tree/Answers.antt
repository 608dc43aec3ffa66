use Rattle.eel_reports.proofs.weights.measured_tree.Goals as goal

pub returns-clause-cells : goal.returns-clause-cells
returns-clause-cells c = (
  c.in_ok-weights.weights.items,
  c.in_ok-weights.ensures.weights,
  rw c.deref.ensures.value at c.in_ok-tree.ensures.cells,
)
