-- What only contracts of private functions and models cite.
use Rattle.std.specs.Prelude.{ℕ, Option}
use Rattle.std.specs.Option.{option_map}
use Rattle.eel_base.specs.declared.numbers.EdgeNo.{EdgeNo}
use Rattle.edge_ring.specs.Ring.{edge_in}

-- the same, as the program has edges
unfoldable pub edge_no_in : ℕ → Option EdgeNo
edge_no_in entry = option_map (λ edge. record { 0 = edge }) (edge_in entry)
