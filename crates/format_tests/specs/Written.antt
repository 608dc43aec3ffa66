-- Segments that can be added, of at most 4096 bytes each.
use Rattle.std.specs.Prelude.{ℕ, ◌*◌, ◌≤◌, List, length}
use Rattle.std.specs.List.{All, sum_by}
use Rattle.elf32_write.specs.Headers.{AddedSegment}
use Rattle.elf32_write.specs.Conditions.{Ascend}

pub record AreAdded (end : ℕ) (added : List AddedSegment) : Type 0 where
  pub above : Ascend end added
  pub fits : All (λ s. length s.bytes ≤ s.memsz) added
  pub small : sum_by (λ s. length s.bytes) added ≤ 4096 * length added
