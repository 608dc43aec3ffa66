use Rattle.liveness.proofs.Common.{arith, ◌<◌, [], inl, inr, sym, ap, ◌∙◌, get_or_default, every_part, has, named_on}
use Rattle.liveness.proofs.Reaching.{joined_is, onward_is}
use Rattle.liveness.proofs.live_sets.live.Goals as goal

pub returns : goal.returns
returns c =
    let text = c.args.text.now in
    let graph = c.args.graph.now in
    let named = named_on c.args.snips.now in
    record {
      words = λ w l x.
          let joined = c.in_ok-words.ensures in
          let low : w < graph.blocks.words = omega (arith, c.requires.graph, l) in
          let is = get_or_default c.in_ok-words.words.items w every_part [] (omega (arith, joined.len, low)) in
          let here = joined.joined w low x in
          let live = joined_is text graph named c.in_ok-sets.sets.items c.in_ok-sets.ensures.live
          c.in_ok-places.ensures.of_graph w x low in
          (λ h. live.0 (here.0 (ap (λ s. has s x) (sym is) ∙ h)), λ h. ap (λ s. has s x) is ∙ here.1 (live.1 h));
      edges = λ e l x.
          let is =
          get_or_default c.in_ok-edges.edges.items e every_part [] (omega (arith, c.in_ok-edges.ensures.len, l)) in
          let here = c.in_ok-edges.ensures.onward e l x in
          let live = onward_is text graph named c.deref.result.now
          (rw c.deref.ensures.value c.in_ok-sets.ensures.live)
          e x in
          (λ h. live.0 (here.0 (ap (λ s. has s x) (sym is) ∙ h)), λ h. ap (λ s. has s x) is ∙ here.1 (live.1 h));
    }

pub invariant_of-chart-clause-of_marks : goal.invariant_of-chart-clause-of_marks
invariant_of-chart-clause-of_marks c = elim c.in_ok-places.ensures.of_edges.len [
  | inl e ↦ omega (arith, e)
  | inr e ↦ omega (arith, e)
]
