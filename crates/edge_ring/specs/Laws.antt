-- What snippets make of a ring, and what it tells of a run.
use Rattle.std.specs.Prelude.{◌≡◌, ℕ, ◌+◌, ◌^◌, ◌<◌, ◌≤◌, List, [], ◌∷◌, ◌++◌, length, replicate, None}
use Rattle.std.specs.List.{All}
use Rattle.notes.specs.Format.{Notes, node_at}
use Rattle.snippets.specs.Cells.{WorksBelow, update}
use Rattle.dump_file.specs.Dump.{Dump}
use Rattle.edge_ring.specs.declared.fault.RingFault.{RingFault}
use Rattle.edge_ring.specs.declared.fault.RingFault.TheVariants as faults
use Rattle.edge_ring.specs.Answers.{AreLast}
use Rattle.edge_ring.specs.Ring.{edges_in, last_of, ring_on}
use Rattle.edge_ring.specs.Traces.{IsTrace, IsWhole}
use Rattle.edge_ring.specs.Code.{IsRingOf, IsRefused}

-- The snippets work on the ring's cells. These begin as zeros, the ring of no walk; each edge that is completed makes
-- of the ring of a walk that of the walk with this edge, whatever the registers hold. What the ring of a walk holds are
-- the walk's last edges.
pub record RingsKeepTheLast (bits : ℕ) : Type 0 where
  pub works : (edge : ℕ) → WorksBelow (1 + 2 ^ bits) (ring_on bits edge)
  pub begins : IsRingOf bits [] (replicate (1 + 2 ^ bits) 0)
  pub goes_on : (registers : ℕ → ℕ) (walk cells : List ℕ) (edge : ℕ) → IsRingOf bits walk cells
      → IsRingOf bits (walk ++ edge ∷ []) (update registers (ring_on bits edge) cells)
  pub tells : (walk cells : List ℕ) → IsRingOf bits walk cells → edges_in bits cells ≡ last_of bits walk

abbrev pub AllRingsKeepTheLast : Type 0
AllRingsKeepTheLast = (bits : ℕ) → 1 ≤ bits → bits ≤ 16 → RingsKeepTheLast bits

-- ---- the dump of a run

-- its cells are the ring of a walk along edges of the notes
pub record IsOfWalk (bits : ℕ) (notes : Notes) (walk : List ℕ) (dump : Dump) : Type 0 where
  pub trace : IsTrace notes
  pub size : notes.cells ≡ 1 + 2 ^ bits
  pub edges : All (λ edge. edge < length notes.edges) walk
  pub ring : IsRingOf bits walk dump.cells
  pub version : dump.version ≡ notes.version
  pub length : notes.version ≡ 2 → dump.length ≡ notes.length

-- It may be refused where the run stands between places; and for want of memory, once all is judged.
abbrev pub MayRefuse : Notes → Dump → RingFault → Type 0
MayRefuse notes dump (faults.Between pc) = (pc.0 ≡ dump.pc) × (node_at notes dump.pc ≡ None)
MayRefuse notes dump faults.NoMemory = IsWhole notes dump
MayRefuse notes dump _ = ⊥

-- It is refused for nothing else. What is answered are the last edges of the walk.
pub record TellsTheLast (bits : ℕ) (notes : Notes) (walk : List ℕ) (dump : Dump) : Type 0 where
  pub refused : (fault : RingFault) → IsRefused notes dump fault → MayRefuse notes dump fault
  pub last : (edges : List ℕ) → AreLast notes dump edges → edges ≡ last_of bits walk

abbrev pub RingsTellTheLast : Type 0
RingsTellTheLast = (bits : ℕ) (notes : Notes) (walk : List ℕ) (dump : Dump) → IsOfWalk bits notes walk dump
    → TellsTheLast bits notes walk dump
