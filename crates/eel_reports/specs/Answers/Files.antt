-- Files by their faults.
use Rattle.std.specs.Prelude.{◌≡◌, ℕ, List, Some, None}
use Rattle.elf32_sparc.specs.declared.fault.FileFault.{FileFault}
use Rattle.elf32_sparc.specs.FileFault.{fault, load_fault, code_of}
use Rattle.eel_said.specs.Outcome.{Outcome, BadFile, OutOfMemory}

-- a file without a fault
abbrev pub IsSound : List ℕ → Type 0
IsSound bytes = fault bytes ≡ None

-- one with a fault of this code
abbrev pub IsFaulty : ℕ → List ℕ → Type 0
IsFaulty code bytes = (first : FileFault) × (fault bytes ≡ Some first) × (code ≡ code_of first)

-- one that can't be run
abbrev pub IsNotLoaded : ℕ → List ℕ → Type 0
IsNotLoaded code bytes = (first : FileFault) × (load_fault bytes ≡ Some first) × (code ≡ code_of first)

-- a file isn't looked at further, and this comes of it
abbrev pub IsNotSound : List ℕ → List ℕ → Outcome → Type 0
IsNotSound name bytes (BadFile named code) = (named ≡ name) × IsFaulty code bytes
IsNotSound name bytes OutOfMemory = IsSound bytes
IsNotSound name bytes _ = ⊥
