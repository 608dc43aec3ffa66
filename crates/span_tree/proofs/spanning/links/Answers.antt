use Rattle.span_tree.proofs.Common.{◌≡◌, ℕ, ◌+◌, ◌<◌, List, [], ◌∷◌, ◌++◌, ◌∙◌, length, map, take, get_or, arith, common_steps, Link, Edge, Block, Graph, link_of}
use Rattle.cfg_blocks.specs.declared.EdgeKind.TheVariants as kinds
use Rattle.cfg_normal.specs.declared.Slot.TheVariants.{Nothing}
use Rattle.span_tree.proofs.spanning.links.Goals as goal

-- what stands for an edge past the last one
abbrev any : Edge
any = record { from = Block (record { 0 = 0 }); to = Block (record { 0 = 0 }); kind = kinds.Fall; slot = Nothing }

links_more : (graph : Graph) (edges : List Edge) (n : ℕ) (before : Edge) (links : List Link) (link : Link)
    → n < length edges → links ≡ map (link_of graph) (take n edges) → link ≡ link_of graph (get_or edges n before)
    → links ++ link ∷ [] ≡ map (link_of graph) (take (n + 1) edges)
links_more graph edges n before links link l are is = grind (arith, common_steps)

pub loop-edge-preserved : goal.loop-edge-preserved
loop-edge-preserved c =
    c.in_ok-push.ensures.items
    ∙ links_more c.args.graph.now c.edges-edges.result.now c.loop-edge.edge-index any c.loop-edge.links.items
    c.link.result c.loop-edge-test.true c.loop-edge.invariant c.link.ensures
