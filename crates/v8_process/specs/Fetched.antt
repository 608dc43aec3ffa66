-- Which words a program fetches before its first step.
use Rattle.std.specs.Prelude.{◌≡◌, ℕ, ◌+◌, ◌*◌, ◌%◌, ◌<◌, ◌≤◌, true, false, List, ◌∷◌, ◌++◌, length, drop, slice_index, Some, None}
use Rattle.std.specs.List.{list_any}
use Rattle.byteorder.specs.Endian.{big_number}
use Rattle.eel_base.specs.CodeText.{address_of}
use Rattle.elf32_sparc.specs.FileFault.{fault}
use Rattle.elf32_sparc.specs.Mapping.{Mapping, mappings}
use Rattle.elf32_sparc.specs.Image.{image_of}
use Rattle.v8_memory.specs.Regions.{is_code, fetch_of}
use Rattle.v8_memory.specs.Segments.{region_of}
use Rattle.v8_step.specs.State.{AreBytes}
use Rattle.v8_process.specs.Start.{start_memory}

-- the first mapping of a file whose words may be executed
pub record IsFirstCode (file : List ℕ) (code : Mapping) : Type 0 where
  pub before : List Mapping
  pub after : List Mapping
  pub mapped : mappings file ≡ before ++ code ∷ after
  pub none_before : list_any (λ m. is_code (region_of m)) before ≡ false
  pub executable : is_code (region_of code) ≡ true

-- Each whole word of that mapping is fetched at its address.
abbrev pub CodeIsFetched : Type 0
CodeIsFetched =
    (file : List ℕ) (texts : List (List ℕ)) (code : Mapping) → IsFirstCode file code → code.start % 4 ≡ 0
    → AreBytes code.first → (k : ℕ) → 4 * k + 4 ≤ code.length
    → fetch_of (start_memory file texts) (code.start + 4 * k) ≡ Some (big_number 4 (drop (4 * k) (region_of code).bytes))

-- Each word of the text of a file without a fault is fetched at its address.
abbrev pub TextIsFetched : Type 0
TextIsFetched =
    (file : List ℕ) (texts : List (List ℕ)) → fault file ≡ None → AreBytes file
    → let text = (image_of file).text in
    (k : ℕ) → k < length text.words
    → fetch_of (start_memory file texts) (address_of text k) ≡ Some (slice_index text.words k)
