-- The routines of a program: where they start, and what they are called.
use Rattle.std.specs.Prelude.{ℕ, Bool, false, ◌||◌, ◌==◌, if◌then◌else◌, List, [], ◌∷◌, length, map, filter, slice_index, Option, Some, None}
use Rattle.std.specs.List.{list_any, range_with_len}
use Rattle.eel_base.specs.CodeText.{Words, target_of}
use Rattle.v8_decode.specs.declared.Instr.{Instr}
use Rattle.v8_decode.specs.declared.Instr.TheVariants as i
use Rattle.v8_decode.specs.Words.{decode_of}
use Rattle.elf32_sparc.specs.declared.sections.Func.{Func}
use Rattle.elf32_sparc.specs.Image.{Program}
use Rattle.routines.specs.declared.Routine.{Routine}

-- the word to which a CALL leads, where the text has it (The SPARC Architecture Manual, Version 8, B.24)
abbrev pub called_by : Words → ℕ → Instr → Option ℕ
called_by text word (i.Call disp30) = target_of text word disp30
called_by text word _ = None

unfoldable pub called_at : Words → ℕ → Option ℕ
called_at text word = called_by text word (decode_of (slice_index text.words word))

abbrev pub leads_to : ℕ → Option ℕ → Bool
leads_to word None = false
leads_to word (Some target) = target == word

-- the numbers of the words of a text
abbrev pub numbers_of : Words → List ℕ
numbers_of text = range_with_len 0 (length text.words)

-- a CALL of the text leads to the word
abbrev pub is_called : Words → ℕ → Bool
is_called text word = list_any (λ other. leads_to word (called_at text other)) (numbers_of text)

-- a function symbol has the word's address
abbrev pub is_function : List Func → ℕ → Bool
is_function funcs word = list_any (λ func. func.start.0 == word) funcs

-- a routine starts at the entry, at each function symbol, and where a CALL leads
abbrev pub is_start : Program → ℕ → Bool
is_start program word =
    (word == program.entry) || is_function program.funcs word || is_called program.text word

-- the name of the first function symbol there, or none
abbrev pub name_at : List Func → ℕ → List ℕ
name_at [] word = []
name_at (func ∷ funcs) word = if func.start.0 == word then func.name else name_at funcs word

abbrev pub routine_at : Program → ℕ → Routine
routine_at program word = record { start = record { 0 = word }; name = name_at program.funcs word }

-- the routines, in address order
unfoldable pub routines_of : Program → List Routine
routines_of program = map (routine_at program) (filter (is_start program) (numbers_of program.text))
