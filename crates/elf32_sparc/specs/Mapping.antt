-- What the loader maps of a file.
use Rattle.std.specs.Prelude.{ℕ, ◌-◌, List, ◌++◌, map, take, drop, replicate}
use Rattle.elf32_sparc.specs.declared.header.ProgramHeader.{ProgramHeader}
use Rattle.elf32_sparc.specs.Header.{program_headers, loadable}

-- the bytes of the file that an entry's memory begins with
abbrev pub file_bytes : List ℕ → ProgramHeader → List ℕ
file_bytes file header = take header.p_filesz (drop header.p_offset file)

-- all of its memory: the bytes of the file, and zeros after them
abbrev pub memory_bytes : List ℕ → ProgramHeader → List ℕ
memory_bytes file header = file_bytes file header ++ replicate (header.p_memsz - header.p_filesz) 0

-- a part of memory: where it starts, how long it is, its flags, and the bytes before its zeros
pub record Mapping : Type 0 where
  pub start : ℕ
  pub length : ℕ
  pub flags : ℕ
  pub first : List ℕ

abbrev pub mapping_of : List ℕ → ProgramHeader → Mapping
mapping_of file header = record {
  start = header.p_vaddr;
  length = header.p_memsz;
  flags = header.p_flags;
  first = file_bytes file header;
}

-- what is mapped: the entries that take memory, in the file's order
unfoldable pub mappings : List ℕ → List Mapping
mappings file = map (mapping_of file) (loadable (program_headers file))
