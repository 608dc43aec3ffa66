-- What notes and a dump tell of the last edges, or why they tell nothing. Each refusal holds that those before it had
-- no cause.
use Rattle.std.specs.Prelude.{◌≡◌, ℕ, ◌+◌, ◌^◌, List, get_or, Some}
use Rattle.notes.specs.Format.{Notes}
use Rattle.dump_file.specs.Dump.{Dump}
use Rattle.edge_ring.specs.Ring.{edges_in}
use Rattle.edge_ring.specs.Traces.{IsPlaced, IsWhole, bad_place}

-- the edges are those that the cells hold
pub record AreLast (notes : Notes) (dump : Dump) (edges : List ℕ) : Type 0 where
  pub whole : IsWhole notes dump
  pub bits : ℕ
  pub size : notes.cells ≡ 1 + 2 ^ bits
  pub are : edges ≡ edges_in bits dump.cells

-- no run has this cell, the first of such: there is no such edge
pub record IsUnknown (notes : Notes) (dump : Dump) (cell value : ℕ) : Type 0 where
  pub placed : IsPlaced notes dump
  pub place : ℕ
  pub bad : bad_place notes dump ≡ Some place
  pub at : cell ≡ place + 1
  pub is : value ≡ get_or dump.cells cell 0
