-- The numbers of the words that lead.
use Rattle.std.proofs.Common.{◌≡◌, ℕ, Bool, true, false, cond, List, [], ◌∷◌, map, refl, ap, ◌∙◌}
use Rattle.std.specs.List.{filter}
use Rattle.eel_base.specs.declared.numbers.WordNo.{WordNo}
use Rattle.routines.specs.declared.Routine.{Routine}
use Rattle.cfg_blocks.specs.Marks.{numbers}
use Rattle.cfg_view.specs.View.{starts_of}

pub numbers_of_starts : (routines : List Routine)
    → numbers (map (λ routine. routine.start) routines) ≡ starts_of routines
numbers_of_starts [] = refl
numbers_of_starts (routine ∷ routines) = ap (λ starts. routine.start.0 ∷ starts) (numbers_of_starts routines)

numbers-cond : (b : Bool) (word : WordNo) (words : List WordNo)
    → numbers (cond b (word ∷ words) words) ≡ cond b (word.0 ∷ numbers words) (numbers words)
numbers-cond true word words = refl
numbers-cond false word words = refl

pub numbers-filter : (p : ℕ → Bool) (words : List WordNo)
    → numbers (filter (λ word. p word.0) words) ≡ filter p (numbers words)
numbers-filter p [] = refl
numbers-filter p (word ∷ words) =
    numbers-cond (p word.0) word (filter (λ other. p other.0) words)
    ∙ ap (λ rest. cond (p word.0) (word.0 ∷ rest) rest) (numbers-filter p words)
