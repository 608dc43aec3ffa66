-- What a node has too much of.
use Rattle.std.specs.Prelude.{ℕ, if◌then◌else◌, ◌==◌, ℤ, pos, ◌+ℤ◌, ◌-ℤ◌}
use Rattle.flows.specs.Flows.{Graph, total, one_at}

-- what comes into v by the first n edges, with 1 at a, less what goes out, with 1 at b
abbrev pub excess_below : Graph → ℕ → ℕ → ℕ → (ℕ → ℤ) → ℕ → ℤ
excess_below g n a b x v =
    (total n (λ e. if g.to e == v then x e else pos 0) +ℤ one_at a v) -ℤ
    (total n (λ e. if g.from e == v then x e else pos 0) +ℤ one_at b v)

-- by all edges: a flow from a to b leaves 0 at each node
abbrev pub excess : Graph → ℕ → ℕ → (ℕ → ℤ) → ℕ → ℤ
excess g a b x v = excess_below g g.edges a b x v
