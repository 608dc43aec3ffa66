-- Which notes are those of a trace, and which dumps are of a run of its file.
use Rattle.std.specs.Prelude.{◌≡◌, ℕ, ◌+◌, ◌^◌, ◌≤◌, nat_lt, length, drop, Option, Some, None}
use Rattle.std.specs.List.{position}
use Rattle.notes.specs.Format.{Notes, node_at}
use Rattle.dump_file.specs.Dump.{Dump}
use Rattle.count_rebuild.specs.Dumps.{IsTheirs}

-- notes of a trace: behind the count its ring has 2 to 2^16 places, a power of 2
pub record IsTrace (notes : Notes) : Type 0 where
  pub tool : notes.tool ≡ 3
  pub bits : ℕ
  pub some : 1 ≤ bits
  pub few : bits ≤ 16
  pub cells : notes.cells ≡ 1 + 2 ^ bits

-- the run stands at a node
pub record IsPlaced (notes : Notes) (dump : Dump) : Type 0 where
  pub theirs : IsTheirs IsTrace notes dump
  pub node : ℕ
  pub at : node_at notes dump.pc ≡ Some node

-- the first place that holds more than the number of the last edge and one, if one does
abbrev pub bad_place : Notes → Dump → Option ℕ
bad_place notes dump = position (λ entry. nat_lt (length notes.edges) entry) (drop 1 dump.cells)

-- each place holds an edge, or none
pub record IsWhole (notes : Notes) (dump : Dump) : Type 0 where
  pub placed : IsPlaced notes dump
  pub good : bad_place notes dump ≡ None
