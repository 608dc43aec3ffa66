-- Two files that start alike: the second maps what the first does, and some pages after it.
use Rattle.std.specs.Prelude.{◌≡◌, ℕ, List, [], ◌∷◌, ◌++◌, map}
use Rattle.elf32_sparc.specs.Header.{has_flag}
use Rattle.elf32_sparc.specs.Mapping.{Mapping, mappings}
use Rattle.v8_memory.specs.Spans.{Span}
use Rattle.v8_memory.specs.Code.{IsSameOutside}
use Rattle.v8_process.specs.Start.{start_memory}

-- mappings that differ at most in their permission to be executed
pub record IsSameMapping (m n : Mapping) : Type 0 where
  pub start : m.start ≡ n.start
  pub length : m.length ≡ n.length
  pub readable : has_flag 4 m.flags ≡ has_flag 4 n.flags
  pub writable : has_flag 2 m.flags ≡ has_flag 2 n.flags
  pub first : m.first ≡ n.first

-- as many mappings, in the same order
abbrev pub AreSameMappings : List Mapping → List Mapping → Type 0
AreSameMappings [] [] = Unit {0}
AreSameMappings (m ∷ ms) (n ∷ ns) = IsSameMapping m n × AreSameMappings ms ns
AreSameMappings [] (n ∷ ns) = ⊥
AreSameMappings (m ∷ ms) [] = ⊥

-- the addresses of a mapping
abbrev pub span_of : Mapping → Span
span_of m = record { from = m.start; count = m.length }

-- A file that maps what another does, except for permissions to be executed, and then some pages, starts with the same
-- memory outside those pages.
abbrev pub StartsAlike : Type 0
StartsAlike =
    (original file : List ℕ) (kept pages : List Mapping) → mappings file ≡ kept ++ pages
    → AreSameMappings (mappings original) kept → (texts : List (List ℕ))
    → IsSameOutside (map span_of pages) (start_memory original texts) (start_memory file texts)
