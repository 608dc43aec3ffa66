-- What is true of every written file.
use Rattle.std.specs.Prelude.{◌≡◌, ℕ, ◌+◌, ◌^◌, ◌<◌, ◌≤◌, List, ◌++◌, length, take, drop, map, None}
use Rattle.std.specs.List.{All, sum_by}
use Rattle.elf32_sparc.specs.Header.{e_entry}
use Rattle.elf32_sparc.specs.FileFault.{load_fault}
use Rattle.elf32_sparc.specs.Mapping.{Mapping, mappings}
use Rattle.notes.specs.Format.{notes_of, read_notes}
use Rattle.elf32_write.specs.Headers.{AddedSegment}
use Rattle.elf32_write.specs.Written.{delta_in, written}
use Rattle.elf32_write.specs.Conditions.{CanWrite, AreNumbers, CanLoad}
use Rattle.elf32_write.specs.Kept.{kept}

-- ---- what is mapped

-- what an added segment maps
abbrev pub mapping_added : AddedSegment → Mapping
mapping_added s = record { start = s.vaddr; length = s.memsz; flags = s.flags; first = s.bytes }

-- ---- the laws

-- the original stands at its delta, which is a page at least
pub record HoldsOriginal (original : List ℕ) (file : List ℕ) : Type 0 where
  pub holds : take (length original) (drop (delta_in original) file) ≡ original
  pub from : 4096 ≤ delta_in original
  pub to : delta_in original ≤ 2 ^ 20
  pub inside : delta_in original + length original ≤ length file

abbrev pub OriginalIsHeld : Type 0
OriginalIsHeld =
    (original : List ℕ) (added : List AddedSegment) (entry : ℕ) (notes : List ℕ)
    → CanWrite original added notes
    → HoldsOriginal original (written original added entry notes)

abbrev pub NotesAreRead : Type 0
NotesAreRead =
    (original : List ℕ) (added : List AddedSegment) (entry : ℕ) (notes : List ℕ)
    → CanWrite original added notes
    → let file = written original added entry notes in notes_of file ≡ read_notes 2 (length file) notes

abbrev pub SegmentsAreMapped : Type 0
SegmentsAreMapped =
    (original : List ℕ) (added : List AddedSegment) (entry : ℕ) (notes : List ℕ)
    → CanWrite original added notes → AreNumbers original added entry → All (λ s. 0 < s.memsz) added
    → mappings (written original added entry notes) ≡ map kept (mappings original) ++ map mapping_added added

abbrev pub FileLoads : Type 0
FileLoads =
    (original : List ℕ) (added : List AddedSegment) (entry : ℕ) (notes : List ℕ)
    → CanWrite original added notes → AreNumbers original added entry → CanLoad added
    → load_fault (written original added entry notes) ≡ None

abbrev pub EntryIsGiven : Type 0
EntryIsGiven =
    (original : List ℕ) (added : List AddedSegment) (entry : ℕ) (notes : List ℕ)
    → CanWrite original added notes → AreNumbers original added entry
    → e_entry (written original added entry notes) ≡ entry

abbrev pub SizeIsBounded : Type 0
SizeIsBounded =
    (original : List ℕ) (added : List AddedSegment) (entry : ℕ) (notes : List ℕ)
    → CanWrite original added notes → AreNumbers original added entry
    → length (written original added entry notes)
    ≤ length original + sum_by (λ s. length s.bytes) added + length notes + 2 ^ 22

abbrev pub AreBytes : List ℕ → Type 0
AreBytes bytes = All (λ byte. byte < 256) bytes

abbrev pub FileIsBytes : Type 0
FileIsBytes =
    (original : List ℕ) (added : List AddedSegment) (entry : ℕ) (notes : List ℕ)
    → AreBytes original → All (λ s. AreBytes s.bytes) added → AreBytes notes
    → AreBytes (written original added entry notes)
