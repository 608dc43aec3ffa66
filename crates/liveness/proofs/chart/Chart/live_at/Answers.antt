use Rattle.liveness.proofs.Common.{arith, [], sym, ap, ◌∙◌, get_or_read, at}
use Rattle.liveness.proofs.Joining.{live_copied, live_plain}
use Rattle.liveness.proofs.chart.Chart.live_at.Goals as goal

pub returns-then-is_copied : goal.returns-then-is_copied
returns-then-is_copied c =
    let sets = c.args.sets.now in
    live_copied c.args.self.now.graph.now c.args.self.now.of_firsts sets c.args.block.0 c.args.word c.requires.holds
    c.index-sets-word.result c.index-sets-place.result c.union.result (sym c.is_copied.ensures ∙ c.if-is_copied.true)
    (get_or_read sets c.args.word c.index-sets-word.result (omega (arith, c.requires.found.len, c.requires.low))
    c.index-sets-word.is [])
    (get_or_read sets c.place.result c.index-sets-place.result (omega (arith, c.requires.found.len, c.place.ensures.within))
    c.index-sets-place.is [] ∙ ap (at sets) c.place.ensures.place)
    c.union.ensures.has

pub returns-else-is_copied : goal.returns-else-is_copied
returns-else-is_copied c =
    let sets = c.args.sets.now in
    live_plain c.args.self.now.graph.now c.args.self.now.of_firsts sets c.args.block.0 c.args.word c.requires.holds
    c.index-sets-word.result (sym c.is_copied.ensures ∙ c.if-is_copied.false)
    (get_or_read sets c.args.word c.index-sets-word.result (omega (arith, c.requires.found.len, c.requires.low))
    c.index-sets-word.is [])
