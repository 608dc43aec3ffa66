-- A profile asks for little room.
use Rattle.exact_counts.proofs.Common.{◌≡◌, ℕ, ◌*◌, ◌≤◌, List, [], ◌∷◌, length, None, arith, sum_by, sum_by-cons, fault, image_of, Edge, Graph, Op, Plan, copies_of, image_text, view_graph, Program, original_graph, ProfilesNeedLittle}
use Rattle.cfg_view.specs.View.{given_in}
use Rattle.tool_kit.specs.declared.edge_ref.ToolKind.TheVariants as tools
use Rattle.edit_core.specs.Taken.{operations_on}
use Rattle.exact_counts.proofs.Copies.{copies_in_all, edges_in_all}

-- one operation is taken for each edge
one_each : (graph : Graph) (edges : List Edge) (snips : List (List Op))
    → operations_on tools.Profile graph edges snips ≤ sum_by (copies_of graph) edges
one_each graph [] snips = omega arith
one_each graph (edge ∷ edges) [] = omega arith
one_each graph (edge ∷ edges) (ops ∷ snips) =
    omega (arith, sum_by-cons (copies_of graph) edge edges, one_each graph edges snips)

pub edges_few : (original : List ℕ) (plan : Plan) → fault original ≡ None
    → length (original_graph original plan).edges ≤ 4 * length (image_of original).text.words
edges_few original plan sound = grind (arith, view_graph, edges_in_all, given_in, image_text)

pub profiles_need_little : ProfilesNeedLittle
profiles_need_little original plan sound kind cells =
    let program : Program = image_of original in
    let graph : Graph = original_graph original plan in
    let taken : operations_on plan.kind graph graph.edges plan.snips ≤ sum_by (copies_of graph) graph.edges =
    rw kind (one_each graph graph.edges plan.snips) in
    let copies : sum_by (copies_of graph) graph.edges ≤ 4 * length program.text.words =
    rw (view_graph original plan)
    (copies_in_all program.text (given_in program plan.marks) program.entry (image_text original sound)) in
    omega (arith, cells, taken, copies, edges_few original plan sound)
