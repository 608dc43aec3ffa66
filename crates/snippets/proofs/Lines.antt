-- What lines say.
use Rattle.snippets.proofs.Common.{◌≡◌, ℕ, Bool, true, false, ◌==◌, List, [], ◌∷◌, length, map, Option, Some, None, refl, ap, ap₂, sym, subst, ◌∙◌, arith, eqb-true, eq-eqb, ne_eqb, Op, Add, Put, Keep, Top, Count, Log, AllSay, IsLine, IsSilent, IsSpelled, Says, Said, Nothing, Does, Wrong, operation_of, said_by, said_of}
use Rattle.snippets.specs.Private.{HasRing}
use Rattle.snippets.proofs.Operations.{operation_back, operation_read}

silent_first : (byte : ℕ) (bytes : List ℕ) → (byte == 35) ≡ true → said_of (byte ∷ bytes) ≡ Nothing
unfolding said_of
silent_first byte bytes is = rw (ne_eqb (length (byte ∷ bytes)) 0 (λ none. absurd (omega arith)), is) refl

spoken_first : (byte : ℕ) (bytes : List ℕ) → (byte == 35) ≡ false
    → said_of (byte ∷ bytes) ≡ said_by (operation_of (byte ∷ bytes))
unfolding said_of
spoken_first byte bytes is = rw (ne_eqb (length (byte ∷ bytes)) 0 (λ none. absurd (omega arith)), is) refl

no_operation : (line : List ℕ) → operation_of line ≡ None → (edge : ℕ) (op : Op) → ¬ IsLine line edge op
no_operation line none edge op is = cc (sym none ∙ operation_back line edge op is)

by_operation : (line : List ℕ) → ¬ IsSilent line → (found : Option (ℕ × Op)) → operation_of line ≡ found
    → Says line (said_by found)
by_operation line spoken (Some found) is = operation_read line found is
by_operation line spoken None is = (spoken, no_operation line is)

by_first : (byte : ℕ) (bytes : List ℕ) (b : Bool) → (byte == 35) ≡ b → Says (byte ∷ bytes) (said_of (byte ∷ bytes))
by_first byte bytes true is = subst (Says (byte ∷ bytes)) (sym (silent_first byte bytes is)) (eqb-true byte 35 is)
by_first byte bytes false is =
    let spoken : ¬ IsSilent (byte ∷ bytes) = λ silent. cc (sym is ∙ eq-eqb byte 35 silent) in
    subst (Says (byte ∷ bytes)) (sym (spoken_first byte bytes is))
    (by_operation (byte ∷ bytes) spoken (operation_of (byte ∷ bytes)) refl)

nothing_says : said_of [] ≡ Nothing
unfolding said_of
nothing_says = refl

-- what a line says, as it was read
pub said_says : (line : List ℕ) → Says line (said_of line)
said_says [] = subst (Says []) (sym nothing_says) tt
said_says (byte ∷ bytes) = by_first byte bytes (byte == 35) refl

-- a line that does an operation begins with the first letter of `edge`
does : (line : List ℕ) (edge : ℕ) (op : Op) → IsLine line edge op → said_of line ≡ Does edge op
does [] edge op is = absurd (cc is.text)
does (byte ∷ bytes) edge op is =
    let letter : byte ≡ 101 = cc is.text in
    let spoken = ne_eqb byte 35 (λ mark. absurd (omega arith)) in
    spoken_first byte bytes spoken ∙ ap said_by (operation_back (byte ∷ bytes) edge op is)

wrong_alone : (line : List ℕ) (said : Said) → Says line Wrong → Says line said → Wrong ≡ said
wrong_alone line Nothing wrong h = absurd (wrong.0 h)
wrong_alone line (Does edge op) wrong h = absurd (wrong.1 edge op h)
wrong_alone line Wrong wrong h = refl

-- and it says nothing else
pub said_alone : (line : List ℕ) (other : Said) → Says line other → other ≡ said_of line
said_alone [] Nothing h = sym nothing_says
said_alone (byte ∷ bytes) Nothing h = sym (silent_first byte bytes (eq-eqb byte 35 h))
said_alone line (Does edge op) h = sym (does line edge op h)
said_alone line Wrong h = wrong_alone line (said_of line) h (said_says line)

-- what is spelled has a ring of at most 16 bits, since it has none
spelled_ring : (op : Op) → IsSpelled op → HasRing op
spelled_ring (Log cell bits value) fits = absurd fits
spelled_ring op fits = tt

pub said_ring : (line : List ℕ) (edge : ℕ) (op : Op) → Does edge op ≡ said_of line → HasRing op
said_ring line edge op is = spelled_ring op (subst (Says line) (sym is) (said_says line)).op_fits

pub all_say : (lines : List (List ℕ)) → AllSay lines (map said_of lines)
all_say [] = tt
all_say (line ∷ lines) = (said_says line, all_say lines)

all_alone : (lines : List (List ℕ)) (others : List Said) → AllSay lines others → others ≡ map said_of lines
all_alone [] [] all = refl
all_alone [] (other ∷ others) all = absurd all
all_alone (line ∷ lines) [] all = absurd all
all_alone (line ∷ lines) (other ∷ others) all =
    ap₂ (λ (said : Said) (rest : List Said). said ∷ rest) (said_alone line other all.0) (all_alone lines others all.1)

pub one_thing : (lines : List (List ℕ))
    → (said : List Said) × AllSay lines said × ((others : List Said) → AllSay lines others → others ≡ said)
one_thing lines = (map said_of lines, all_say lines, all_alone lines)
