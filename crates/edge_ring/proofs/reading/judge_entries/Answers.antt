use Rattle.edge_ring.proofs.Common.{None, rules, ◌≡◌, ◌∙◌, drop, length, nat_lt, sym, position, take_rest}
use Rattle.edge_ring.proofs.Places.{none_bad_seen}
use Rattle.edge_ring.proofs.reading.judge_entries.Goals as goal

pub returns-in-None-clause-whole : goal.returns-in-None-clause-whole
returns-in-None-clause-whole c =
    let n = c.args.n.now in
    let edges : c.len.result ≡ length n.edges.items = search rules in
    let none : position (λ entry. nat_lt c.len.result entry) (drop 1 c.deref.result.now) ≡ None =
    sym (simp take_rest at c.bad_place.ensures) ∙ c.in-None.is in
    record {
      placed = c.requires.placed;
      good = none_bad_seen n c.args.d.now c.len.result c.deref.result.now edges c.deref.ensures.value none;
    }
