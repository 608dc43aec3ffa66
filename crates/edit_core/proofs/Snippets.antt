-- The code of good snippets.
use Rattle.edit_core.proofs.Common.{◌≡◌, ℕ, suc, ◌*◌, ◌%◌, ◌^◌, ◌<◌, ◌≤◌, inl, inr, List, [], ◌∷◌, length, get_or, arith, All, cases_lt, get_or_past, length-map, Part, Op, WorksBelow, WorksIn, named_by, cells_end, cell_at, codes_of, snippet_on, IsGood, Log, cell_of, AreShort}
use Rattle.v8_encode.specs.Encoding.{word_of}
use Rattle.snippet_code.specs.Code.{IsCellOf}
use Rattle.snippet_code.specs.Laws.{HasBits}
use Rattle.snippet_code.specs.Runs.{DoesJust}
use Rattle.snippet_code.specs.Words.{snippet_words}
use Rattle.snippet_code.specs.Spills.{spills_of}
use Rattle.snippet_code.proofs.Lengths.{costs_hold}
use Rattle.snippet_code.proofs.WholeCode.{snippet_code_runs}

-- the snippet on each edge is good, by whatever number
pub good_on : (cells : ℕ) (snips : List (List Op)) → All (IsGood cells) snips → (edge : ℕ)
    → IsGood cells (snippet_on snips edge)
good_on cells snips good edge = elim (cases_lt edge (length snips)) [
  | inl within ↦ good edge [] within
  | inr past ↦
      let none = get_or_past snips edge [] past in
      rw none (record {
        few = omega arith;
        are_ops = λ k d l. absurd (omega (arith, l));
        below = λ k d l. absurd (omega (arith, l));
      })
]

-- a ring has its bits, and an operation's cells end at or below their number
in_cells : (cells : ℕ) (op : Op) → WorksIn cells op → HasBits op × (cells_end op ≤ cells)
in_cells cells (Log cell bits value) works = ((works.0, works.1), works.2)
in_cells cells _ works = (tt, works)

-- and begin below it
pub begins_within : (cells : ℕ) (op : Op) → WorksIn cells op → cell_of op < cells
begins_within cells op works = let end = (in_cells cells op works).1 in grind arith

-- a good snippet works on cells that there are
pub cells_in_range : (cells : ℕ) (ops : List Op) → WorksBelow cells ops → (cell : ℕ) → IsCellOf ops cell → cell < cells
cells_in_range cells [] below cell is = absurd is
cells_in_range cells (op ∷ ops) below cell (inl inside) =
    let end = (in_cells cells op (below 0 op (omega arith))).1 in omega (arith, inside.1, end)
cells_in_range cells (op ∷ ops) below cell (inr is) =
    cells_in_range cells ops (λ k d l. below (suc k) d (omega (arith, l))) cell is

-- its words do just the snippet
pub snippet_does : (base cells : ℕ) → base % 4 ≡ 0 → cell_at base cells ≤ 2 ^ 31 → (dead : ℕ → List Part)
    → (snips : List (List Op)) → All (IsGood cells) snips → (edge : ℕ)
    → DoesJust (codes_of base dead snips edge) base (dead edge)
    (spills_of (dead edge) (named_by (snippet_on snips edge)) (snippet_on snips edge)) (snippet_on snips edge)
unfolding codes_of
snippet_does base cells aligned low dead snips good edge =
    let ops = snippet_on snips edge in
    let is = good_on cells snips good edge in
    (snippet_code_runs base (dead edge) ops (record {
      aligned = aligned;
      few = is.few;
      are_ops = is.are_ops;
      low = λ k d l.
          let works = in_cells cells (get_or ops k d) (is.below k d l) in
          let end = works.1 in
          record { bits = works.0; end = omega (arith, end, low) };
    })).1

-- they are few
pub code_short : (base : ℕ) (dead : ℕ → List Part) (snips : List (List Op)) (edge : ℕ)
    → length (codes_of base dead snips edge) ≤ 22 * length (snippet_on snips edge)
unfolding codes_of
code_short base dead snips edge =
    let ops = snippet_on snips edge in
    let most = costs_hold base (dead edge) (named_by ops) ops in
    omega (arith, length-map (snippet_words base (dead edge) (named_by ops) ops) word_of, most.0, most.1)

pub short_codes : (base cells : ℕ) (dead : ℕ → List Part) (snips : List (List Op)) → All (IsGood cells) snips
    → AreShort snips (codes_of base dead snips)
short_codes base cells dead snips good = record {
  short = code_short base dead snips;
  few = λ edge. let is = good_on cells snips good edge in is.few;
}
