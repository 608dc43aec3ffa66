use Rattle.liveness.proofs.Common.{ap, not, sym, ◌∙◌, IsTrue}
use Rattle.liveness.proofs.Spots.{held_of, lands_plain}
use Rattle.liveness.proofs.chart.Chart.lands_at.Goals as goal

pub returns-then-not-is_copied : goal.returns-then-not-is_copied
returns-then-not-is_copied c =
    let f = c.args.self.now.of_firsts in
    let graph = c.args.self.now.graph.now in
    let held = rw c.in-Block.is at (held_of graph f c.args.node c.args.word c.requires.of) in
    let none : IsTrue (not c.is_copied.result) = ap not c.if-not-is_copied.true in (
      λ h. lands_plain graph f c.in-Block.block.0 c.args.word held (sym c.is_copied.ensures ∙ c.if-not-is_copied.true)
          ∙ sym c.in-Block.is,
      λ h. none,
    )
