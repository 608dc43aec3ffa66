-- The stack has room for the arguments.
use Rattle.v8_process.proofs.Common.{◌≡◌, ℕ, suc, ◌+◌, ◌-◌, ◌*◌, ◌^◌, ◌≤◌, List, [], ◌∷◌, ◌++◌, length, ap, ◌∙◌, arith, length-append, flat_map-cons, program_name, strings, rounded_up, stack_start, stack_end}
use Rattle.v8_process.specs.Code.{ArgumentsFit}

-- the program's name has 7 bytes, and a zero byte after it
length-strings : (args : List (List ℕ)) → length (strings (program_name ∷ args)) ≡ 8 + length (strings args)
length-strings args =
    ap length (flat_map-cons (λ (text : List ℕ). text ++ 0 ∷ []) program_name args)
    ∙ length-append (program_name ++ 0 ∷ []) (strings args)

room : (count long named : ℕ) → count ≤ 1000 → long ≤ 2 ^ 16 → named ≡ 8 + long
    → rounded_up named + 4 * (suc count + 5) + 72 ≤ stack_end - stack_start
room count long named few short is = omega arith

pub arguments_fit : ArgumentsFit
arguments_fit args h =
    room (length args) (length (strings args)) (length (strings (program_name ∷ args))) h.few h.short
    (length-strings args)
