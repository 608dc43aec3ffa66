-- What contracts of this crate's code and laws cite beyond the statement.
use Rattle.std.specs.Prelude.{◌≡◌, ℕ, suc, ◌+◌, ◌-◌, ◌%◌, ◌^◌, List, ◌++◌, length, map, drop, get_or, replicate}
use Rattle.notes.specs.Format.{Notes}
use Rattle.dump_file.specs.Dump.{Dump}
use Rattle.count_rebuild.specs.Dumps.{IsBetween, IsForOther, IsMisshapen, IsOfOther, IsTheirs}
use Rattle.edge_ring.specs.Ring.{last_of, round_from}
use Rattle.edge_ring.specs.declared.fault.RingFault.{RingFault}
use Rattle.edge_ring.specs.declared.fault.RingFault.TheVariants as faults
use Rattle.edge_ring.specs.Traces.{IsTrace, IsWhole}
use Rattle.edge_ring.specs.Answers.{IsUnknown}

-- ---- the cells are the ring of a walk: from the next place on there are empty ones, and then the last edges
pub record IsRingOf (bits : ℕ) (walk cells : List ℕ) : Type 0 where
  pub size : length cells ≡ 1 + 2 ^ bits
  pub count : get_or cells 0 0 ≡ length walk % 2 ^ 32
  pub places : round_from (length walk % 2 ^ bits) (drop 1 cells)
      ≡ replicate (2 ^ bits - length walk) 0 ++ map suc (last_of bits walk)

-- a refusal has its cause; want of memory comes only where there is no other
abbrev pub IsRefused : Notes → Dump → RingFault → Type 0
IsRefused notes dump faults.NoTrace = ¬ IsTrace notes
IsRefused notes dump (faults.Version of wanted) = IsOfOther IsTrace notes dump of wanted
IsRefused notes dump (faults.Other length wanted) = IsForOther IsTrace notes dump length wanted
IsRefused notes dump (faults.Shape cells wanted) = IsMisshapen IsTrace notes dump cells wanted
IsRefused notes dump (faults.Between pc) = IsBetween (IsTheirs IsTrace) notes dump pc.0
IsRefused notes dump (faults.Entry cell value) = IsUnknown notes dump cell value
IsRefused notes dump faults.NoMemory = IsWhole notes dump
