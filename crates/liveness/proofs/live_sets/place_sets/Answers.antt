use Rattle.std.proofs.Common.{arith, ℕ, length, inl, inr}
use Rattle.liveness.proofs.Reaching.{are_links, lands_between, node_is, word_is}
use Rattle.liveness.proofs.Spots.{nodes_high}
use Rattle.liveness.proofs.live_sets.place_sets.Goals as goal

pub flood-requires-clause-places : goal.flood-requires-clause-places
flood-requires-clause-places c =
    let p = c.requires.places in
    let g = p.of_graph in
    let high = nodes_high c.args.chart.now.graph.now g.firsts in
    elim p.of_edges.len [
      | inl e ↦ omega (arith, c.in_ok-reads.ensures.len, high, g.few, g.firsts.few, e)
      | inr e ↦ omega (arith, c.in_ok-reads.ensures.len, high, g.few, g.firsts.few, e)
    ]

pub flood-requires-clause-few : goal.flood-requires-clause-few
flood-requires-clause-few c =
    let g = c.requires.places.of_graph in
    omega (arith, c.deref.ensures.len, c.in_ok-links.ensures.few, g.few, g.edge_count, g.firsts.few)

pub flood-requires-clause-links : goal.flood-requires-clause-links
flood-requires-clause-links c =
    let p = c.requires.places in
    let marks = c.args.chart.now.places.now.marks.items in
    are_links c.args.chart.now.text.now c.args.chart.now.graph.now p.of_graph marks p.of_edges
    (rw c.deref.ensures.value
    c.in_ok-links.ensures.links) (length c.in_ok-reads.reads.items) c.in_ok-reads.ensures.len

pub returns-clause-live : goal.returns-clause-live
returns-clause-live c =
    let p = c.requires.places in
    let marks = c.args.chart.now.places.now.marks.items in
    record {
      live = λ node word held x.
          let is = word_is c.args.chart.now.text.now c.args.chart.now.graph.now p.of_graph marks p.of_edges
          (rw c.deref.ensures.value
          c.in_ok-links.ensures.links)
          c.in_ok-reads.ensures.read x node word held in
          let sets = c.in_ok-sets.ensures.live _ x in
          (λ h. is.0 (sets.0 h), λ h. sets.1 (is.1 h));
    }

pub returns-clause-found : goal.returns-clause-found
returns-clause-found c =
    let p = c.requires.places in
    let graph = c.args.chart.now.graph.now in
    let marks = c.args.chart.now.places.now.marks.items in
    record {
      len = omega (arith, c.in_ok-sets.ensures.len, c.in_ok-reads.ensures.len);
      onto = λ node inside mark x.
          let is = node_is c.args.chart.now.text.now graph p.of_graph marks p.of_edges (rw c.deref.ensures.value
          c.in_ok-links.ensures.links)
          c.in_ok-reads.ensures.read x node inside mark in
          let sets = λ (k : ℕ). c.in_ok-sets.ensures.live k x in
          let words = lands_between graph p.of_graph.firsts node inside c.in_ok-sets.sets.items x in (
            λ h. let there = is.0 ((sets _).0 h) in words.1 (there.0, there.1, (sets _).1 there.2),
            λ h. let there = words.0 h in (sets _).1 (is.1 (there.0, there.1, (sets _).0 there.2)),
          );
    }
