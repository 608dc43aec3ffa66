-- Lines and scripts that compute: what lines are spelled, what others say, and what comes of them.
use Rattle.std.specs.Prelude.{◌≡◌, [], ◌∷◌, refl, codes, map, ◌++◌, ℕ, List, None, Some}
use Rattle.std.specs.Fmt.{digits}
use Rattle.line_words.specs.Registers.{register_text}
use Rattle.snippets.specs.declared.snippet.Op.TheVariants.{Count, Log, Add, Put, Keep, Top}
use Rattle.snippets.specs.Cells.{update}
use Rattle.snippets.specs.Grammar.{line_text, lines_of}
use Rattle.snippets.specs.declared.line.Said.TheVariants.{Nothing, Does, Wrong}
use Rattle.snippets.specs.Parts.{split_at, number_of, register_of, op_of, bare_of, full_of, operation_of, said_of}
use Rattle.snippets.specs.declared.line.Said.{Said}
use Rattle.snippets.specs.Scripts.{snips_of, cell_end, end_of, fault_at, fault_of}
use Rattle.snippets.specs.declared.script.ScriptFault.TheVariants as faults

-- They compute: a carry, the last number of 64 bits, and a ring of four whose next place is its last.
pub carries : update (λ reg. 0) (Count 0 ∷ []) (0 ∷ 4294967295 ∷ []) ≡ 1 ∷ 0 ∷ []
carries = refl

begins_again : update (λ reg. 0) (Count 1 ∷ []) (7 ∷ 4294967295 ∷ 4294967295 ∷ []) ≡ 7 ∷ 0 ∷ 0 ∷ []
begins_again = refl

logs : update (λ reg. 0) (Log 0 2 9 ∷ Log 0 2 8 ∷ []) (7 ∷ 1 ∷ 2 ∷ 3 ∷ 4 ∷ []) ≡ 9 ∷ 8 ∷ 2 ∷ 3 ∷ 9 ∷ []
logs = refl

-- how lines are spelled

spelled : line_text 1 (Add 0 3) ∷ line_text 0 (Put 10 4294967295) ∷ line_text 2 (Keep 2 8) ∷ line_text 1 (Top 1 2)
    ∷ line_text 3 (Count 6) ∷ []
    ≡ codes "edge 1 add 0 3" ∷ codes "edge 0 put 10 4294967295"
    ∷ codes "edge 2 keep 2 %o0" ∷ codes "edge 1 top 1 %g2" ∷ codes "edge 3 count 6" ∷ []
unfolding digits
spelled = refl

registers : map register_text (0 ∷ 7 ∷ 8 ∷ 16 ∷ 23 ∷ 24 ∷ 31 ∷ [])
    ≡ codes "%g0" ∷ codes "%g7" ∷ codes "%o0" ∷ codes "%l0" ∷ codes "%l7" ∷ codes "%i0" ∷ codes "%i7" ∷ []
registers = refl

-- the last line may lack its newline, and an empty line says nothing
lines : lines_of (codes "a" ++ 10 ∷ 10 ∷ codes "bc") ∷ lines_of (codes "a" ++ 10 ∷ []) ∷ lines_of [] ∷ []
    ≡ (codes "a" ∷ [] ∷ codes "bc" ∷ []) ∷ (codes "a" ∷ [] ∷ []) ∷ ([] ∷ []) ∷ []
lines = refl

-- what lines say

abbrev inside : List (List ℕ)
inside = codes "edge 1 add 0 3" ∷ codes "edge 0 put 10 0" ∷ codes "edge 2 keep 2 %o0" ∷ codes "edge 1 top 1 %g2"
    ∷ codes "edge 3 count 6" ∷ [] ∷ codes "# edge" ∷ []

good : map said_of inside
    ≡ Does 1 (Add 0 3) ∷ Does 0 (Put 10 0) ∷ Does 2 (Keep 2 8) ∷ Does 1 (Top 1 2)
    ∷ Does 3 (Count 6) ∷ Nothing ∷ Nothing ∷ []
unfolding said_of operation_of bare_of full_of op_of register_of number_of split_at
good = refl

abbrev outside : List (List ℕ)
outside =
    codes "edge 1  add 0 1" ∷ codes " edge 1 add 0 1" ∷ codes "edge 1 add 0 1 " ∷ codes "edge 1 add 0" ∷ codes "edge"
    ∷ codes "edge 01 add 0 1" ∷ codes "edge 1 add 0 00" ∷ codes "edge 1 add 0 4294967296" ∷ codes "edge 1 add 0 +1"
    ∷ codes "edge 1 add 0 " ∷ codes "edge 1 sub 0 1" ∷ codes "Edge 1 add 0 1" ∷ codes "edge 1 add 0 %g1"
    ∷ codes "edge 1 keep 0 1" ∷ codes "edge 1 keep 0 %g8" ∷ codes "edge 1 keep 0 %sp" ∷ codes "edge 1 top 0 g1"
    ∷ codes "edge 1 count" ∷ codes "edge 1 count 0 1" ∷ codes "edge 1 count %g1" ∷ codes "edge 1 log 0 2 1" ∷ []

wrong : map said_of outside ≡ map (λ _. Wrong) outside
unfolding said_of operation_of bare_of full_of op_of register_of number_of split_at
wrong = refl

-- what comes of them

abbrev script : List Said
script = Does 1 (Add 0 3) ∷ Nothing ∷ Does 1 (Top 1 2) ∷ Does 2 (Keep 2 8) ∷ []

snippets : snips_of script ≡ [] ∷ (Add 0 3 ∷ Top 1 2 ∷ []) ∷ (Keep 2 8 ∷ []) ∷ []
snippets = refl

cells : end_of cell_end script ≡ 3
cells = refl

no_fault : map (fault_at 9 script) (0 ∷ 1 ∷ 2 ∷ 3 ∷ []) ≡ None ∷ None ∷ None ∷ None ∷ []
no_fault = refl

-- eight operations on an edge
abbrev eight : List Said
eight =
    Does 1 (Put 0 0) ∷ Does 1 (Put 0 1) ∷ Does 1 (Put 0 2) ∷ Does 1 (Put 0 3) ∷ Does 1 (Put 0 4) ∷ Does 1 (Put 0 5)
    ∷ Does 1 (Put 0 6) ∷ Does 1 (Put 0 7) ∷ []

-- each cause alone, the first of several, and what just isn't one
abbrev next : List Said
next = Wrong ∷ Does 9 (Add 4194304 1) ∷ Does 1 (Add 4194304 1) ∷ Does 1 (Add 4194303 1) ∷ Does 8 (Add 4194303 1)
    ∷ Does 8 (Count 4194303) ∷ Does 8 (Count 4194302) ∷ Nothing ∷ []

causes : map (fault_of 9 eight) next
    ≡ Some (faults.Line 9) ∷ Some (faults.Edge 9) ∷ Some (faults.Cell 9) ∷ Some (faults.Ops 9) ∷ None
    ∷ Some (faults.Cell 9) ∷ None ∷ None ∷ []
causes = refl
