-- Starts lie in the text.
use Rattle.std.proofs.Common.{◌≡◌, ℕ, ◌-◌, ◌/◌, ◌<◌, ◌≤◌, Bool, true, false, ◌==◌, cond, ◌||◌, nat_lt, nat_le, ◌&&◌, ◌%◌, List, filter, length, slice_index, Some, None, refl, ap, arith}
use Rattle.std.specs.List.{All}
use Rattle.std.proofs.lemmas.Bool.{and_parts, ltb-true, ne_eqb, or_from}
use Rattle.std.proofs.lemmas.List.Elements.{All-filter, All-map, All-weaker}
use Rattle.std.proofs.lemmas.List.FromFn.{get_or-range_with_len, length-range_with_len}
use Rattle.std.proofs.lemmas.List.Folds.{list_any_none}
use Rattle.eel_base.specs.CodeText.{Words, word_at}
use Rattle.elf32_sparc.specs.declared.sections.Func.{Func}
use Rattle.elf32_sparc.specs.Image.{Program}
use Rattle.v8_decode.specs.declared.Instr.{Instr}
use Rattle.v8_decode.specs.declared.Instr.TheVariants as i
use Rattle.v8_decode.specs.Words.{decode_of}
use Rattle.routines.specs.Routines.{called_at, called_by, is_called, is_function, is_start, leads_to, name_at, numbers_of, routine_at, routines_of}
use Rattle.routines.specs.Starts.{name_where, start_name}

leads_below : (count word found : ℕ) (b : Bool) → count ≤ word → (b ≡ true → found < count)
    → leads_to word (cond b (Some found) None) ≡ false
leads_below count word found true past below =
    let found_below : found < count = below refl in
    ne_eqb found word (λ same. absurd (omega arith))
leads_below count word found false past below = refl

found_below : (text : Words) (address word : ℕ) → length text.words ≤ word
    → leads_to word (word_at text address) ≡ false
found_below text address word past =
    leads_below (length text.words) word ((address - text.start) / 4) _ past
    (λ found. ltb-true ((address - text.start) / 4) (length text.words) (and_parts
    (nat_le text.start address && ((address - text.start) % 4 == 0))
    (nat_lt ((address - text.start) / 4) (length text.words)) found).1)

called_below : (text : Words) (other word : ℕ) (instr : Instr) → length text.words ≤ word
    → leads_to word (called_by text other instr) ≡ false
called_below text other word (i.Call disp30) past = found_below text _ word past
called_below text other word _ past = refl

not_called : (text : Words) (word : ℕ) → length text.words ≤ word → is_called text word ≡ false
unfolding called_at
not_called text word past =
    list_any_none (λ other. leads_to word (called_at text other)) (numbers_of text)
    (λ k d h. called_below text _ word (decode_of (slice_index text.words _)) past)

not_function : (funcs : List Func) (count word : ℕ) → All (λ func. func.start.0 < count) funcs
    → count ≤ word → is_function funcs word ≡ false
not_function funcs count word inside past =
    list_any_none (λ func. func.start.0 == word) funcs
    (All-weaker (λ func. func.start.0 < count) (λ func. (func.start.0 == word) ≡ false)
    (λ func below. ne_eqb func.start.0 word (λ same. absurd (omega arith))) funcs inside)

-- no start past the end of the text
pub none_past : (program : Program) → program.entry < length program.text.words
    → All (λ func. func.start.0 < length program.text.words) program.funcs
    → (word : ℕ) → length program.text.words ≤ word → start_name program word ≡ None
unfolding start_name
none_past program entry funcs word past =
    let none : is_start program word ≡ false =
    or_from ((word == program.entry) || is_function program.funcs word) (is_called program.text word)
    (or_from (word == program.entry) (is_function program.funcs word)
    (ne_eqb word program.entry (λ same. absurd (omega arith)))
    (not_function program.funcs (length program.text.words) word funcs past))
    (not_called program.text word past) in
    ap (λ b. name_where b (name_at program.funcs word)) none

-- so do routines
pub routines_inside : (program : Program)
    → All (λ routine. routine.start.0 < length program.text.words) (routines_of program)
unfolding routines_of
routines_inside program =
    let count = length program.text.words in
    All-map (λ routine. routine.start.0 < count) (routine_at program)
    (filter (is_start program) (numbers_of program.text))
    (All-filter (is_start program) (λ word. word < count) (numbers_of program.text)
    (λ k d h. let here : k < count = omega (arith, length-range_with_len 0 count) in
    omega (arith, get_or-range_with_len 0 count k d here)))
