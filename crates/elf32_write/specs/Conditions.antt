-- What can be written around an original, and what can be loaded then.
use Rattle.std.specs.Prelude.{◌≡◌, ℕ, ◌+◌, ◌*◌, ◌%◌, ◌^◌, ◌<◌, ◌≤◌, ◌⊎◌, List, [], ◌∷◌, length, None}
use Rattle.std.specs.List.{All, sum_by}
use Rattle.elf32_sparc.specs.FileFault.{fault}
use Rattle.elf32_sparc.specs.Image.{image_of, highest_end}
use Rattle.elf32_write.specs.Headers.{AddedSegment}

-- the segments stand at or above `end`, one above the other, and end at 2^32 at most
abbrev pub Ascend : ℕ → List AddedSegment → Type 0
Ascend end [] = end ≤ 2 ^ 32
Ascend end (s ∷ segments) = (end ≤ s.vaddr) × Ascend (s.vaddr + s.memsz) segments

-- The original has no fault and at most 64 MiB; at most eight segments are added, above its own; and all bytes
-- together are fewer than 1,536 MiB.
pub record CanWrite (original : List ℕ) (added : List AddedSegment) (notes : List ℕ) : Type 0 where
  pub sound : fault original ≡ None
  pub limit : length original ≤ 2 ^ 26
  pub few : length added ≤ 8
  pub above : Ascend (highest_end (image_of original).segments) added
  pub fits : All (λ s. length s.bytes ≤ s.memsz) added
  pub small : length original + sum_by (λ s. length s.bytes) added + length notes < 1536 * 2 ^ 20

abbrev pub HasWords : AddedSegment → Type 0
HasWords s = (s.vaddr < 2 ^ 32) × (s.memsz < 2 ^ 32) × (s.flags < 2 ^ 32)

-- the numbers are bytes and words
pub record AreNumbers (original : List ℕ) (added : List AddedSegment) (entry : ℕ) : Type 0 where
  pub bytes : All (λ byte. byte < 256) original
  pub words : All HasWords added
  pub address : entry < 2 ^ 32

-- The addresses of a program, or exactly the last page.
abbrev pub IsInReach : AddedSegment → Type 0
IsInReach s = (s.vaddr + s.memsz ≤ 2 ^ 31) ⊎ ((s.vaddr ≡ 0xfffff000) × (s.memsz ≡ 4096))

-- segments that can be loaded: they begin at pages, and have 1,152 MiB at most, which is what a program that is
-- run may have less what one that is edited has
pub record CanLoad (added : List AddedSegment) : Type 0 where
  pub pages : All (λ s. s.vaddr % 4096 ≡ 0) added
  pub filled : All (λ s. 0 < s.memsz) added
  pub reached : All IsInReach added
  pub memory : sum_by (λ s. s.memsz) added ≤ 1152 * 2 ^ 20
