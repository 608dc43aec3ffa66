-- The store of a trace is the ring of the walk: by induction over the steps, and over the edges that a step completes.
use Rattle.edge_ring.proofs.Common.{◌≡◌, ℕ, zero, suc, ◌+◌, ◌^◌, ◌≤◌, List, [], ◌∷◌, ◌++◌, sym, arith, All, append-nil, append_assoc, All-head, All-tail, update, IsRingOf, ring_on}
use Rattle.v8_step.specs.State.{State, register_of}
use Rattle.v8_step.specs.Run.{run}
use Rattle.snippets.specs.declared.snippet.Op.{Op}
use Rattle.cfg_walk.specs.Walk.{gone_in, walk}
use Rattle.image_code.specs.Store.{Edit, snippet_on, store_of, updates}
use Rattle.edge_ring.specs.Stores.{StoresAreRings}
use Rattle.edge_ring.proofs.Places.{all_first, all_last}
use Rattle.edge_ring.proofs.Ring.{goes_on, zeros}

module _ (bits : ℕ) (few : bits ≤ 16) where
  module _ (snips : List (List Op)) where
    abbrev HasRing : ℕ → Type 0
    HasRing edge = snippet_on snips edge ≡ ring_on bits edge

    -- the edges of a step
    updated : (edges before cells : List ℕ) (s : State) → All HasRing edges → IsRingOf bits before cells
        → IsRingOf bits (before ++ edges) (updates snips edges cells s)
    updated [] before cells s have ring = rw (append-nil before) ring
    updated (edge ∷ edges) before cells s have ring =
        let more : before ++ edge ∷ edges ≡ (before ++ edge ∷ []) ++ edges = sym (append_assoc before (edge ∷ []) edges) in
        let one : IsRingOf bits (before ++ edge ∷ []) (update (register_of s) (snippet_on snips edge) cells) =
        rw (All-head HasRing edge edges have) (goes_on bits few (register_of s) before cells edge ring) in
        rw more (updated edges (before ++ edge ∷ []) (update (register_of s) (snippet_on snips edge) cells) s
        (All-tail HasRing edge edges have) one)

  stores : (g : Edit) (entry : ℕ) (s0 : State) (n : ℕ) → g.notes.cells ≡ 1 + 2 ^ bits
      → All (HasRing g.snips) (walk g.text g.graph entry s0 n)
      → IsRingOf bits (walk g.text g.graph entry s0 n) (store_of g entry s0 n)
  unfolding walk
  stores g entry s0 zero size have =
      zeros bits few g.notes.cells (let e : g.notes.cells ≡ suc (2 ^ bits) = omega (arith, size) in e)
  stores g entry s0 (suc n) size have =
      let before = walk g.text g.graph entry s0 n in
      let gone = gone_in g.text g.graph entry s0 n in
      updated g.snips gone before (store_of g entry s0 n) (run s0 (suc n)) (all_last (HasRing g.snips) before gone have)
      (stores g entry s0 n size (all_first (HasRing g.snips) before gone have))

pub stores_are_rings : StoresAreRings
stores_are_rings bits g entry s0 n few size have = stores bits few g entry s0 n size have
