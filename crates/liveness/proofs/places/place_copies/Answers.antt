use Rattle.liveness.proofs.Common.{◌≡◌, ℕ, ◌+◌, List, [], ◌∷◌, ◌++◌, arith, Graph, AreCopies, copies_from}
use Rattle.std.proofs.lemmas.Grind.{common_steps}
use Rattle.liveness.proofs.Spots.{copies_high, start_within}
use Rattle.liveness.proofs.places.place_copies.Goals as goal

copies_more : (graph : Graph) (block next : ℕ) (copies : List ℕ) → AreCopies graph block copies
    → next ≡ copies_from graph block → AreCopies graph (block + 1) (copies ++ next ∷ [])
copies_more graph block next copies are is = grind (arith, common_steps)

pub overflow_add-next : goal.overflow_add-next
overflow_add-next c =
    let g = c.requires.graph in
    let b = c.args.graph.now.blocks in
    omega (
      arith,
      copies_high c.args.graph.now g.firsts c.loop-block.block (omega arith),
      start_within b.words b.firsts g.firsts c.loop-block.block,
      c.loop-block.invariant.next,
      c.words-next.ensures.within,
      g.few,
    )

pub loop-block-preserved : goal.loop-block-preserved
loop-block-preserved c = record {
  copies = rw c.in_ok-push.ensures.items
      (copies_more c.args.graph.now c.loop-block.block c.loop-block.next c.loop-block.copies.items
      c.loop-block.invariant.copies c.loop-block.invariant.next);
  next = grind (arith, common_steps);
}
