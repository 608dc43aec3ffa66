-- The store of a trace is the ring of the walk.
use Rattle.std.specs.Prelude.{◌≡◌, ℕ, ◌+◌, ◌^◌, ◌≤◌}
use Rattle.std.specs.List.{All}
use Rattle.v8_step.specs.State.{State}
use Rattle.cfg_walk.specs.Walk.{walk}
use Rattle.image_code.specs.Store.{Edit, snippet_on, store_of}
use Rattle.edge_ring.specs.Ring.{ring_on}
use Rattle.edge_ring.specs.Code.{IsRingOf}

-- where the edges that the first n steps complete have the ring's snippets
abbrev pub StoresAreRings : Type 0
StoresAreRings =
    (bits : ℕ) (e : Edit) (entry : ℕ) (s0 : State) (n : ℕ) → bits ≤ 16 → e.notes.cells ≡ 1 + 2 ^ bits
    → All (λ edge. snippet_on e.snips edge ≡ ring_on bits edge) (walk e.text e.graph entry s0 n)
    → IsRingOf bits (walk e.text e.graph entry s0 n) (store_of e entry s0 n)
