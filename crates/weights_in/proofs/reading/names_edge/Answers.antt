use Rattle.weights_in.proofs.Common.{◌≡◌, ◌∙◌, Some, refl, sym, slice_get, slice_get_read}
use Rattle.weights_in.proofs.reading.names_edge.Goals as goal

pub returns-in-Some : goal.returns-in-Some
returns-in-Some c =
    let found = c.in-Some.ensures.lookup in
    let at : slice_get c.args.v.now.graph.edges c.args.entry.number ≡ Some c.in-Some.edge.now =
    rw (← c.edges.ensures.edges) (slice_get_read c.edges.result.now _ c.args.entry.number _ refl found.3.0 found.1) in (
      λ t. (c.in-Some.edge.now, at, c.are_words_of.ensures.0 t),
      λ e.
          let same : Some e.0 ≡ Some c.in-Some.edge.now = sym e.1 ∙ at in
          let is : e.0 ≡ c.in-Some.edge.now = cc in
          c.are_words_of.ensures.1 (rw is at e.2),
    )

pub are_words_of-requires-clause-edge : goal.are_words_of-requires-clause-edge
are_words_of-requires-clause-edge c =
    let found = c.in-Some.ensures.lookup in
    rw found.1
    (rw (← c.edges.ensures.edges) at (c.edges.ensures.graph.edges) c.args.entry.number c.in-Some.edge.now found.3.0)
