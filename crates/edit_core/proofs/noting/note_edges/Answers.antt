use Rattle.edit_core.proofs.Common.{◌≡◌, ◌<◌, ◌^◌, ◌++◌, ◌∷◌, [], ◌∙◌, All, ap, arith, sym, subst, get_or, length, map, map-append, slice_get-get_or, edge_seen, note_edge_of, IsEdgeIn, NoteEdge}
use Rattle.tool_kit.specs.declared.edge_ref.EdgeRef.{EdgeRef}
use Rattle.edit_core.proofs.Noted.{noted_all, noted_more}
use Rattle.edit_core.proofs.noting.note_edges.Goals as goal

pub note_edge-requires : goal.note_edge-requires
note_edge-requires g c =
    let graph = c.args.graph.now in
    let inside : All (IsEdgeIn graph.blocks graph.opens) c.edges-edges.result.now =
    rw c.edges-edges.ensures.edges c.edges-edges.ensures.graph.edges in
    let edge = c.edge_at-edge.result in
    subst (IsEdgeIn graph.blocks graph.opens) (sym (ap (λ (e : EdgeRef). e.edge) (c.edge_at-edge.ensures.edge edge.edge)))
    (inside c.loop-number.number edge.edge c.loop-number-test.true)

pub loop-number-preserved : goal.loop-number-preserved
loop-number-preserved g c = λ snips are.
    let n = c.loop-number.number in
    let within = c.loop-number-test.true in
    let edge = c.edge_at-edge.result in
    let is = c.edge_at-edge.ensures.edge edge.edge in
    let asked = subst (λ (e : EdgeRef). g.F.Chooser.says c.args.tool.now.choose e (get_or snips n [])) (sym is)
    (are.each n _ (slice_get-get_or c.edges-edges.result.now n edge.edge within)) in
    let graph = c.edges-edges.ensures.graph in
    let count = ap length c.edges-edges.ensures.edges in
    let few : edge.no.0 < 2 ^ 24 =
    omega (arith, c.edge_at-edge.ensures.number, within, count, graph.edge_count, graph.few) in
    let said = c.cells-cells.ensures.sound.same edge _ _ few c.answer.ensures.says asked in
    let kind = c.args.tool.now.kind in
    let before = map edge_seen c.loop-number.noted.items in
    let seen : map edge_seen c.push.new.self.items
    ≡ before ++ note_edge_of c.args.graph.now kind edge.edge c.answer.result ∷ [] =
    ap (map edge_seen) c.in_ok-push.ensures.items ∙ map-append edge_seen _ _
    ∙ ap (λ (e : NoteEdge). before ++ e ∷ []) (rw c.kind.ensures at c.note_edge.ensures) in
    rw seen (noted_more c.args.graph.now kind c.edges-edges.result.now snips n edge.edge c.answer.result _ _ within are.size
    (ap (λ (e : EdgeRef). e.edge) is) said (c.loop-number.invariant snips are))

pub returns : goal.returns
returns g c = λ snips are.
    noted_all c.args.graph.now c.args.tool.now.kind _ snips c.loop-number.number _ _
    (omega (arith, c.loop-number-test.false, ap length c.edges-edges.ensures.edges))
    (rw c.edges-edges.ensures.edges at (c.loop-number.invariant snips (rw c.edges-edges.ensures.edges are)))
