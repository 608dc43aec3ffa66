-- What holds of all lines, of all scripts, and of all snippets.
use Rattle.std.specs.Prelude.{◌≡◌, ◌≤◌, ℕ, ◌^◌, true, List, length}
use Rattle.std.specs.List.{All}
use Rattle.v8_decode.specs.declared.Part.TheVariants.{Reg}
use Rattle.v8_decode.specs.Parts.{has}
use Rattle.snippets.specs.declared.snippet.Op.{Op}
use Rattle.snippets.specs.Cells.{WorksBelow, named_by, update}
use Rattle.snippets.specs.Grammar.{AllSay, IsOp}
use Rattle.snippets.specs.Scripts.{IsGood, cell_end, edge_end, end_of, ops_on}
use Rattle.snippets.specs.declared.line.Said.{Said}

-- Lines say something, and nothing else.
abbrev pub LinesSayOneThing : Type 0
LinesSayOneThing = (lines : List (List ℕ))
    → (said : List Said) × AllSay lines said × ((others : List Said) → AllSay lines others → others ≡ said)

-- Its edges are there, its cells are few and below their number, and so are its operations on each edge.
pub record IsWithin (edges : ℕ) (said : List Said) : Type 0 where
  pub edges_there : end_of edge_end said ≤ edges
  pub cells_few : end_of cell_end said ≤ 2 ^ 22
  pub cells_below : (edge : ℕ) → WorksBelow (end_of cell_end said) (ops_on edge said)
  pub ops_few : (edge : ℕ) → length (ops_on edge said) ≤ 8

abbrev pub GoodScriptsAreWithin : Type 0
GoodScriptsAreWithin = (edges : ℕ) (lines : List (List ℕ)) (said : List Said) → AllSay lines said → IsGood edges said
    → IsWithin edges said

-- What a snippet makes of the cells depends on the registers alone that it names, and on %g0.
abbrev pub NamedRegistersDecide : Type 0
NamedRegistersDecide =
    (f h : ℕ → ℕ) (ops : List Op) (cells : List ℕ) → All IsOp ops → f 0 ≡ h 0
    → ((r : ℕ) → has (named_by ops) (Reg r) ≡ true → f r ≡ h r) → update f ops cells ≡ update h ops cells
