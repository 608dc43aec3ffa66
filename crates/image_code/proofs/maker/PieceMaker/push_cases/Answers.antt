use Rattle.image_code.proofs.Common.{refl, map-append, append_assoc, cases_of, entry_labels}
use Rattle.image_code.proofs.Pushed.{flat_next}
use Rattle.image_code.proofs.Positions.{looked_up}
use Rattle.image_code.proofs.maker.PieceMaker.push_cases.Goals as goal

pub loop-number-preserved : goal.loop-number-preserved
loop-number-preserved c =
    let cases = cases_of c.args.self.now.text.now c.args.self.now.graph.now in
    let labels = flat_next entry_labels _ _ _ c.loop-number-test.true c.found-item.is in
    let numbers = flat_next cases _ _ _ c.loop-number-test.true c.found-item.is in
    record {
      list = rw (c.in_ok-push_cases_of.ensures.list, c.loop-number.invariant.list, labels) (simp (map-append, append_assoc));
      numbers = rw (c.in_ok-push_cases_of.ensures.numbers, c.loop-number.invariant.numbers, numbers) refl;
    }

pub push_cases_of-requires : goal.push_cases_of-requires
push_cases_of-requires c = record {
  found = looked_up _ _ _ _ c.opens-found-items.ensures c.loop-number-test.true c.found-item.is;
}
