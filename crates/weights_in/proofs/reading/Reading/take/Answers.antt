use Rattle.weights_in.proofs.Common.{rules, ◌+◌, ◌<◌, length, ap, arith, refl, slice_set, slice_get_within, view_seen, IsEdgeOf, entry_in}
use Rattle.weights_in.proofs.reading.Reading.take.Goals as goal

pub returns : goal.returns
returns c =
    let within = c.requires.within in
    let edge : IsEdgeOf (view_seen c.args.v.now) (entry_in c.args.entry) = c.if-not-names_edge.ensures.0 (search rules) in
    let inside : c.args.entry.number < length c.args.v.now.graph.edges = slice_get_within _ _ _ edge.1 in
    record {
      taken = record {
        good = (omega arith, edge);
        within = record {
          few = within.few;
          lines = omega arith;
          next = omega arith;
          weights = search rules;
          sum = omega arith;
        };
        lines = refl;
        next = refl;
        weights = ap (slice_set c.args.self.now.weights.items c.args.entry.number) c.weight.ensures;
        sum = ap (λ n. c.args.self.now.sum + n) c.from.ensures;
      };
      fault = tt;
      bad = tt;
    }
