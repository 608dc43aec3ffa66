use Rattle.image_code.proofs.Common.{◌≡◌, ◌+◌, length, sym, ap, arith, length-map, WordNo, first_entry}
use Rattle.image_code.proofs.OpenNumbers.{entry_more}
use Rattle.image_code.proofs.Pushed.{below_next}
use Rattle.image_code.proofs.lookups.entries_of.Goals as goal

pub loop-found-preserved : goal.loop-found-preserved
loop-found-preserved c =
    let text = c.args.text.now in
    let graph = c.args.graph.now in
    let many = length-map c.targets.result.now (λ (w : WordNo). w.0) in
    let here : c.loop-found.entry + c.from.result ≡ first_entry text graph (c.loop-found.found-index + 1) =
    entry_more text graph _ c.opens-found-items.ensures _ _ c.loop-found-test.true c.found-item.is _ _
    c.loop-found.invariant.here (omega (arith, c.in_ok-small.ensures.same, ap length c.targets.ensures)) in
    record {
      entries = rw (c.in_ok-push-2.ensures.items, c.in_ok-small-2.ensures.same, here, c.loop-found.invariant.entries)
          (sym (below_next (first_entry text graph) (c.loop-found.found-index + 1)));
      here = here;
      few = omega (arith, c.in_ok-small-2.ensures.few, c.in_ok-small-2.ensures.same);
    }
