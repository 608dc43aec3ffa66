use Rattle.edit_core.proofs.Common.{◌≡◌, ℕ, map, refl, ap, arith, count_by, WordNo, Open, is_entry, sum_by_more}
use Rattle.edit_core.proofs.requests.case_counts.Goals as goal

pub loop-found-preserved : goal.loop-found-preserved
loop-found-preserved c = λ key.
    let graph = c.args.graph.now in
    let x = c.found-item.result in
    let same : count_by (is_entry graph c.block.result.0 key) (map (λ (w : WordNo). w.0) c.targets.result.now)
    ≡ count_by (is_entry graph x.block key) x.targets =
    rw (c.block.ensures, c.targets.ensures) refl in
    let one = c.in_ok-count_entries.ensures key in
    let count : Open → ℕ = λ o. count_by (is_entry graph o.block key) o.targets in
    let more = sum_by_more count c.opens-found-items.result.now c.loop-found.found-index x c.loop-found-test.true in
    omega (arith, one, same, c.loop-found.invariant key, more, ap count c.found-item.is)
