-- A script that was read has few cells, and works on them.
use Rattle.std.proofs.Common.{ℕ, ◌^◌, ◌≤◌, inl, inr, List, [], map, sym, subst, arith}
use Rattle.std.specs.Prelude.{get_or}
use Rattle.std.specs.List.{range_with_len}
use Rattle.std.proofs.lemmas.Bool.{cases_lt}
use Rattle.std.proofs.lemmas.List.{get_or_past}
use Rattle.std.proofs.lemmas.List.FromFn.{get_or-map-range_with_len, length-map-range_with_len}
use Rattle.snippets.specs.declared.snippet.Op.{Op}
use Rattle.snippets.specs.declared.script.Script.{Script}
use Rattle.snippets.specs.Cells.{WorksBelow}
use Rattle.snippets.specs.Grammar.{AllSay}
use Rattle.snippets.specs.Code.{IsScript}
use Rattle.snippets.specs.Scripts.{cell_end, edge_end, end_of, ops_on as script_ops}
use Rattle.snippets.proofs.Within.{good_within, none_below}
use Rattle.eel_reports.specs.Code.{HasCells}

-- a list that is made for each number up to some has only what each of them has, or nothing
made_below : (cells : ℕ) (ops : ℕ → List Op) (count : ℕ) → ((edge : ℕ) → WorksBelow cells (ops edge)) → (edge : ℕ)
    → WorksBelow cells (get_or (map ops (range_with_len 0 count)) edge [])
made_below cells ops count each edge = elim (cases_lt edge count) [
  | inl within ↦ rw (get_or-map-range_with_len ops 0 count edge edge [] within (omega arith)) (each edge)
  | inr past ↦
      let long = length-map-range_with_len ops 0 count in
      rw (get_or_past (map ops (range_with_len 0 count)) edge [] (omega (arith, past, long))) (none_below cells)
]

-- a good script has few cells, and works on them
pub script_has_cells : (edges : ℕ) (lines : List (List ℕ)) (said : _) (script : Script) → AllSay lines said
    → IsScript edges said script → HasCells script
script_has_cells edges lines said script all is =
    let within = good_within edges lines said all is.good in
    record {
      few = subst (λ (n : ℕ). n ≤ 2 ^ 22) (sym is.cells) within.cells_few;
      below = λ edge.
          subst (λ (n : ℕ). WorksBelow n (get_or script.snips.items edge [])) (sym is.cells)
          (subst (λ (xs : List (List Op)). WorksBelow (end_of cell_end said) (get_or xs edge [])) (sym is.snips)
          (made_below (end_of cell_end said) (λ e. script_ops e said) (end_of edge_end said) within.cells_below edge));
    }
