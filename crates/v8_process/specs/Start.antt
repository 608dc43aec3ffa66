-- The start of a program: what of its file is in memory, and what the system puts on the stack (System V ABI,
-- SPARC Processor Supplement, "Process Initialization" and "Process Stack and Registers").
use Rattle.std.specs.Prelude.{ℕ, ◌+◌, ◌-◌, ◌*◌, ◌/◌, true, false, List, [], ◌∷◌, ◌++◌, length, map, replicate}
use Rattle.std.specs.Int.{w32, to_be_bytes}
use Rattle.std.specs.List.{flat_map}
use Rattle.elf32_sparc.specs.Header.{e_entry}
use Rattle.elf32_sparc.specs.Mapping.{mappings}
use Rattle.v8_memory.specs.Regions.{Region, Memory}
use Rattle.v8_memory.specs.Segments.{region_of, empty_heap}
use Rattle.v8_step.specs.State.{State}
use Rattle.v8_step.specs.Run.{first_state}

-- ---- the arguments: texts of bytes, the first of which is the program's name

-- "program"
abbrev pub program_name : List ℕ
program_name = 112 ∷ 114 ∷ 111 ∷ 103 ∷ 114 ∷ 97 ∷ 109 ∷ []

-- each text with a zero byte after it
abbrev pub strings : List (List ℕ) → List ℕ
strings texts = flat_map (λ text. text ++ 0 ∷ []) texts

-- where each of them stands, the first at `address`
abbrev pub pointers : ℕ → List (List ℕ) → List ℕ
pointers address [] = []
pointers address (text ∷ texts) = address ∷ pointers (address + length text + 1) texts

-- ---- the stack

abbrev pub stack_start : ℕ
stack_start = 0xeff00000

abbrev pub stack_end : ℕ
stack_end = 0xf0000000

-- the next multiple of 8, and the one before
abbrev pub rounded_up : ℕ → ℕ
rounded_up n = (n + 7) / 8 * 8

abbrev pub rounded_down : ℕ → ℕ
rounded_down n = n / 8 * 8

-- the strings stand at the end of the stack
abbrev pub strings_address : List (List ℕ) → ℕ
strings_address texts = stack_end - rounded_up (length (strings texts))

-- argc, the pointers, and zeros that end the pointers, the environment and the auxiliary vector
abbrev pub argument_words : List (List ℕ) → List ℕ
argument_words texts = length texts ∷ pointers (strings_address texts) texts ++ 0 ∷ 0 ∷ 0 ∷ 0 ∷ []

abbrev pub argument_size : List (List ℕ) → ℕ
argument_size texts = 4 * (length texts + 5)

-- %sp: 64 bytes, in which the first window can be saved, lie below the words
abbrev pub first_sp : List (List ℕ) → ℕ
first_sp texts = rounded_down (strings_address texts - 64 - argument_size texts)

abbrev pub words_address : List (List ℕ) → ℕ
words_address texts = first_sp texts + 64

-- what stands from there to the end of the stack
abbrev pub stack_top : List (List ℕ) → List ℕ
stack_top texts =
    flat_map (to_be_bytes w32) (argument_words texts)
    ++ replicate (strings_address texts - (words_address texts + argument_size texts)) 0
    ++ strings texts
    ++ replicate (stack_end - strings_address texts - length (strings texts)) 0

abbrev pub stack_region : List (List ℕ) → Region
stack_region texts = record {
  start = stack_start;
  size = stack_end - stack_start;
  readable = true;
  writable = true;
  executable = false;
  bytes = replicate (words_address texts - stack_start) 0 ++ stack_top texts;
}

-- ---- the state in which a file starts, with these arguments and this input

abbrev pub start_memory : List ℕ → List (List ℕ) → Memory
start_memory file texts = record {
  heap = empty_heap;
  regions = map region_of (mappings file) ++ stack_region texts ∷ [];
}

unfoldable pub start_of : List ℕ → List (List ℕ) → List ℕ → State
start_of file args input =
    first_state (start_memory file (program_name ∷ args)) (e_entry file) (first_sp (program_name ∷ args)) input
