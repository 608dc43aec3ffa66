-- How the starts of routines are gathered: a map from the numbers of words to names.
use Rattle.std.specs.Prelude.{ℕ, Bool, true, false, ◌==◌, if◌then◌else◌, List, [], ◌∷◌, Option, Some, None}
use Rattle.elf32_sparc.specs.declared.sections.Func.{Func}
use Rattle.elf32_sparc.specs.Image.{Program}
use Rattle.routines.specs.declared.Routine.{Routine}
use Rattle.routines.specs.Routines.{is_start, name_at}

-- a name, at the word that has it
abbrev pub name_where : Bool → List ℕ → Option (List ℕ)
name_where true name = Some name
name_where false name = None

-- the name of the first function symbol at the word, if there is one
abbrev pub first_name : List Func → ℕ → Option (List ℕ)
first_name [] word = None
first_name (func ∷ funcs) word = if func.start.0 == word then Some func.name else first_name funcs word

-- the name of the routine that starts at the word, if one does
unfoldable pub start_name : Program → ℕ → Option (List ℕ)
start_name program word = name_where (is_start program word) (name_at program.funcs word)

-- the routine of an entry of the map
abbrev pub routine_of : ℕ × List ℕ → Routine
routine_of start = record { start = record { 0 = start.0 }; name = start.1 }
