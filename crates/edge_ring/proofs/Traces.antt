-- Which numbers of cells are those of a ring.
use Rattle.edge_ring.proofs.Common.{◌≡◌, ℕ, ◌+◌, ◌-◌, ◌^◌, ◌<◌, ◌≤◌, get_or, sym, ◌∙◌, arith, Notes, Bool, true, false, false≢true, eq-eqb, eqb-true, Any, list_any, range_with_len, IsTrace}
use Rattle.std.specs.Prelude.{◌==◌, MatchBool}
use Rattle.std.proofs.lemmas.List.Folds.{Any-from_list_any, list_any_at}
use Rattle.std.proofs.lemmas.List.FromFn.{get_or-range_with_len, length-range_with_len}

module _ (notes : Notes) where
  abbrev has : ℕ → Bool
  has bits = (1 + 2 ^ bits) == notes.cells

  -- where the test finds bits, the notes are those of a trace
  trace_of : (most : ℕ) → most ≤ 16 → notes.tool ≡ 3 → Any (λ bits. has bits ≡ true) (range_with_len 1 most) → IsTrace notes
  trace_of most few tool (k, bits, inside, at, same) =
      let within : k < most = omega (arith, inside, length-range_with_len 1 most) in
      let is : bits ≡ 1 + k = sym at ∙ get_or-range_with_len 1 most k bits within in
      record {
        tool = tool;
        bits = bits;
        some = omega (arith, is);
        few = omega (arith, is, within, few);
        cells = sym (eqb-true (1 + 2 ^ bits) notes.cells same);
      }

  -- and else they aren't
  no_trace : (most : ℕ) → 16 ≤ most → list_any has (range_with_len 1 most) ≡ false → ¬ IsTrace notes
  no_trace most many none is =
      let size = length-range_with_len 1 most in
      let some = is.some in
      let few = is.few in
      let within : is.bits - 1 < most = omega (arith, many, some, few) in
      let at : get_or (range_with_len 1 most) (is.bits - 1) 0 ≡ is.bits =
      get_or-range_with_len 1 most (is.bits - 1) 0 within ∙ omega (arith, some) in
      let same : has (get_or (range_with_len 1 most) (is.bits - 1) 0) ≡ true =
      rw at (eq-eqb (1 + 2 ^ is.bits) notes.cells (sym is.cells)) in
      false≢true (sym none ∙ list_any_at has (range_with_len 1 most) (is.bits - 1) 0 (omega (arith, within, size)) same)

  pub ring_decides : (b : Bool) (most : ℕ) → most ≡ 16 → notes.tool ≡ 3
      → b ≡ list_any has (range_with_len 1 most) → MatchBool b (IsTrace notes) (¬ IsTrace notes)
  ring_decides true most all tool is =
      trace_of most (omega (arith, all)) tool (Any-from_list_any has (range_with_len 1 most) (sym is))
  ring_decides false most all tool is = no_trace most (omega (arith, all)) (sym is)
