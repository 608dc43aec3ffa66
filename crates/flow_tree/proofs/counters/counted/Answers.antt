use Rattle.flow_tree.proofs.Common.{ℕ, sym, subst, arith, weight_in, graph_of, IsConnected, reached_by, edges_of}
use Rattle.std.proofs.lemmas.Result.{IfOk-weaker}
use Rattle.flow_tree.proofs.Steps.{counted_determines, counted_least, counted_spans}
use Rattle.flow_tree.proofs.counters.counted.Goals as goal

pub returns-clause-determines : goal.returns-clause-determines
returns-clause-determines c = IfOk-weaker c.off_tree.result _ _
    (λ off same. counted_determines c.args.nodes c.args.links.now (weight_in c.args.ranks.now) c.in_ok-tree.tree.root (edges_of c.in_ok-tree.tree) (reached_by c.in_ok-tree.tree) off.items c.requires.linked c.in_ok-tree.ensures.heaviest same)
    c.off_tree.ensures.value

pub returns-clause-least : goal.returns-clause-least
returns-clause-least c = λ is_node weight rises connected. IfOk-weaker c.off_tree.result _ _
    (λ off same. counted_least c.args.nodes c.args.links.now (weight_in c.args.ranks.now) weight c.in_ok-tree.tree.root (edges_of c.in_ok-tree.tree) (reached_by c.in_ok-tree.tree) off.items is_node (let k = c.in_ok-tree.ensures.root in omega (arith, k)) c.requires.linked rises c.in_ok-tree.ensures.heaviest c.in_ok-tree.ensures.whole same
    (subst (λ (r : ℕ). IsConnected (graph_of c.args.nodes c.args.links.now) is_node r) (sym c.in_ok-tree.ensures.root) connected))
    c.off_tree.ensures.value

pub returns-clause-spans : goal.returns-clause-spans
returns-clause-spans c = λ is_node connected. IfOk-weaker c.off_tree.result _ _
    (λ off same. counted_spans c.args.nodes c.args.links.now (weight_in c.args.ranks.now) c.in_ok-tree.tree.root (edges_of c.in_ok-tree.tree) (reached_by c.in_ok-tree.tree) off.items is_node
    (let k = c.in_ok-tree.ensures.root in omega (arith, k)) c.requires.linked c.in_ok-tree.ensures.heaviest c.in_ok-tree.ensures.whole same
    (subst (λ (r : ℕ). IsConnected (graph_of c.args.nodes c.args.links.now) is_node r) (sym c.in_ok-tree.ensures.root) connected))
    c.off_tree.ensures.value
