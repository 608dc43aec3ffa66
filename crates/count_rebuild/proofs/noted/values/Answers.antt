use Rattle.count_rebuild.proofs.Common.{◌≡◌, ◌<◌, ◌^◌, arith, map, subst, sym, nat_abs, All, IfOk-weaker, edge_seen, cell_value}
use Rattle.count_rebuild.proofs.Values.{small_values}
use Rattle.count_rebuild.proofs.noted.values.Goals as goal

pub returns-clause-small : goal.returns-clause-small
returns-clause-small c =
    IfOk-weaker c.held.result
    (λ values. values.items ≡ map (λ edge. cell_value c.args.version c.args.cells.now (edge_seen edge).cell) c.args.edges.now)
    (λ values. All (λ value. nat_abs value < 2 ^ 64) values.items)
    (λ values are. subst (All (λ value. nat_abs value < 2 ^ 64)) (sym are)
    (small_values c.args.version c.args.cells.now (λ i. let fit = c.type_inv.cells i in omega (arith, fit)) c.args.edges.now)) c.held.ensures
