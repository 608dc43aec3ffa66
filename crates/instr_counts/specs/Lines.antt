-- The lines that show how often words were visited.
use Rattle.std.specs.Prelude.{ℕ, Bool, not, ◌==◌, if◌then◌else◌, List, [], ◌∷◌, ◌++◌, length, codes, decimal}
use Rattle.std.specs.List.{count_by, enumerate_from, flat_map, sum}
use Rattle.eel_base.specs.CodeText.{Words}
use Rattle.show_text.specs.Lines.{address_text, line}

-- a word that was visited, by its address
abbrev pub visit_line : Words → ℕ × ℕ → List ℕ
visit_line text (word, count) =
    if count == 0 then [] else line (codes "word" ∷ address_text text word ∷ decimal count ∷ [])

abbrev pub is_visited : ℕ → Bool
is_visited count = not (count == 0)

-- how many words there are, how many were visited, and how often all were
abbrev pub total_line : List ℕ → List ℕ
total_line visits =
    line (codes "words" ∷ decimal (length visits) ∷ codes "visited" ∷ decimal (count_by is_visited visits)
    ∷ codes "visits" ∷ decimal (sum visits) ∷ [])

-- of a text, with one count for each word
unfoldable pub visit_lines : Words → List ℕ → List ℕ
visit_lines text visits = flat_map (visit_line text) (enumerate_from 0 visits) ++ total_line visits
