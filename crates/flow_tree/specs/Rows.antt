-- The edges at each node, as a list of rows.
use Rattle.std.specs.Prelude.{ℕ, ◌<◌, List}
use Rattle.std.specs.List.{All, Contains, HoldsAt}
use Rattle.std.specs.declared.vec.Vec.{Vec}
use Rattle.std.specs.declared.alloc.Global.{Global}
use Rattle.flows.specs.Links.{link_at}
use Rattle.flows.specs.declared.Link.{Link}

abbrev pub Row : Type 0
Row = Vec ℕ Global

-- the row of node v has the edge e
abbrev pub IsAttached : List Row → ℕ → ℕ → Type 0
IsAttached rows v e = HoldsAt (λ (row : Row). Contains row.items e) rows v

-- each of the first n edges is in the rows of both its ends
abbrev pub HasEnds : List Link → ℕ → List Row → Type 0
HasEnds links n rows =
    (e : ℕ) → e < n → IsAttached rows (link_at links e).from e × IsAttached rows (link_at links e).to e

-- the rows have edges below n alone
abbrev pub AllBelow : ℕ → List Row → Type 0
AllBelow n rows = All (λ (row : Row). All (λ e. e < n) row.items) rows
