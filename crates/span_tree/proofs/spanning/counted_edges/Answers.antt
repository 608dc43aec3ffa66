use Rattle.span_tree.proofs.Common.{◌≡◌, ℕ, ◌+◌, ◌*◌, ◌∙◌, ap, length, sym, length-map, graph_of, marked, IsConnected, RisesWith, is_node, link_of, links_of, rank_of}
use Rattle.flows.specs.Flows.{Graph, IsLeast, weight_in}
use Rattle.span_tree.proofs.Connected.{connected, linked_as, plain_is}
use Rattle.span_tree.proofs.Ranked.{ranks_length, ranks_rise, weights_rise}
use Rattle.span_tree.proofs.spanning.counted_edges.Goals as goal

pub counted-requires-clause-linked : goal.counted-requires-clause-linked
counted-requires-clause-linked c =
    linked_as c.args.graph.now (2 * c.count-outside.result + 1) c.deref.result.now c.in_ok-links.ensures.graph
    (ap (λ (n : ℕ). 2 * n + 1) c.count-outside.ensures.count) (c.deref.ensures.value ∙ c.in_ok-links.ensures.links)

pub counted-requires-clause-ranks : goal.counted-requires-clause-ranks
counted-requires-clause-ranks c =
    ap length c.deref-2.ensures.value ∙ ranks_length c.args.graph.now c.args.weights.now _ _ c.in_ok-ranks.ensures
    ∙ sym (ap length (c.deref.ensures.value ∙ c.in_ok-links.ensures.links)
    ∙ length-map c.args.graph.now.edges (link_of c.args.graph.now))

graph_is : (c : goal.After-drop-ranks-2) → graph_of (2 * c.count-outside.result + 1) c.deref.result.now ≡ links_of c.args.graph.now
graph_is c =
    plain_is c.args.graph.now (2 * c.count-outside.result + 1) c.deref.result.now
    (ap (λ (n : ℕ). 2 * n + 1) c.count-outside.ensures.count) (c.deref.ensures.value ∙ c.in_ok-links.ensures.links)

joined : (c : goal.After-drop-ranks-2)
    → IsConnected (graph_of (2 * c.count-outside.result + 1) c.deref.result.now) (is_node c.args.graph.now) c.count-outside.result
joined c = rw (graph_is c, c.count-outside.ensures.count) (connected c.args.graph.now c.in_ok-links.ensures.graph)

-- what counts least by a weight that rises with the ranks
least : (c : goal.After-drop-ranks-2) (weight : ℕ → ℕ)
    → RisesWith (length c.args.graph.now.edges) (weight_in c.in_ok-ranks.ranks.items) weight
    → IsLeast (links_of c.args.graph.now) weight (marked c.in_ok-counted.counted.items)
least c weight rises =
    rw (graph_is c) at (c.in_ok-counted.ensures.least (is_node c.args.graph.now) weight
    (rw (c.deref-2.ensures.value, ap (λ (g : Graph). g.edges) (graph_is c)) rises) (joined c))

pub returns-clause-spans : goal.returns-clause-spans
returns-clause-spans c = rw (graph_is c) at (c.in_ok-counted.ensures.spans (is_node c.args.graph.now) (joined c))

pub returns-clause-least : goal.returns-clause-least
returns-clause-least c =
    least c (weight_in c.args.weights.now)
    (weights_rise c.args.graph.now c.args.weights.now c.in_ok-ranks.ranks.items (length c.args.graph.now.edges) c.in_ok-ranks.ensures)

pub returns-clause-ties : goal.returns-clause-ties
returns-clause-ties c =
    least c (rank_of c.args.graph.now c.args.weights.now)
    (ranks_rise c.args.graph.now c.args.weights.now c.in_ok-ranks.ranks.items (length c.args.graph.now.edges) c.in_ok-ranks.ensures)
