use Rattle.liveness.proofs.Common.{arith, ◌≡◌, ◌↔◌, ◌⊎◌, true, length, Part, has, In, LivesInCopy}
use Rattle.liveness.proofs.Joining.{pushed}
use Rattle.liveness.proofs.Spots.{copies_low}
use Rattle.liveness.proofs.chart.Chart.join_block.Goals as goal

pub loop-word-preserved : goal.loop-word-preserved
loop-word-preserved c =
    let graph = c.args.self.now.graph.now in
    let sets = c.args.sets.now in
    record {
      len = omega (arith, c.in_ok-push.ensures.len, c.loop-word.invariant.len);
      joined = λ j l.
          rw c.in_ok-push.ensures.items
          (pushed (λ i s. (x : Part) → (has s x ≡ true) ↔ (In sets i x ⊎ LivesInCopy graph sets i x))
          c.loop-word.words.items c.live_at.result c.loop-word.word c.loop-word.invariant.len
          c.loop-word.invariant.joined c.live_at.ensures j l);
    }

pub live_at-requires-clause-low : goal.live_at-requires-clause-low
live_at-requires-clause-low c =
    omega (
      arith,
      copies_low c.args.self.now.graph.now c.args.self.now.of_firsts (length c.args.self.now.graph.now.blocks.firsts),
      c.last_of-word-end.ensures.within,
    )
