-- What is known of the operations of a snippet.
use Rattle.std.proofs.Common.{◌≡◌, ℕ, ◌+◌, ◌<◌, ◌≤◌, inl, inr, List, length, ap, sym, subst, arith, ◌∙◌}
use Rattle.std.specs.Prelude.{get_or}
use Rattle.std.specs.List.{All}
use Rattle.std.proofs.lemmas.Bool.{cases_lt}
use Rattle.std.proofs.lemmas.List.{get_or_default}
use Rattle.snippets.specs.declared.snippet.Op.{Op}
use Rattle.snippets.specs.Cells.{WorksBelow, WorksIn}
use Rattle.snippets.specs.Grammar.{IsOp}
use Rattle.tool_kit.specs.Good.{IsGood}

-- So many of them have numbers with their sizes, where they work on cells.
abbrev pub AreKnown : List Op → ℕ → Type 0
AreKnown ops count =
    (k : ℕ) (op : Op) → k < count → (cells : ℕ) → WorksIn cells (get_or ops k op) → IsOp (get_or ops k op)

pub known_more : (ops : List Op) (i : ℕ) (here : Op) → here ≡ get_or ops i here → i < length ops → AreKnown ops i
    → ((cells : ℕ) → WorksIn cells here → IsOp here) → AreKnown ops (i + 1)
known_more ops i here is within before known k op l cells works = elim (cases_lt k i) [
  | inl less ↦ before k op less cells works
  | inr from ↦
      let at : i ≡ k = omega (arith, from, l) in
      let same : here ≡ get_or ops k op =
      is ∙ get_or_default ops i here op within ∙ ap (λ n. get_or ops n op) at in
      subst IsOp same (known cells (subst (WorksIn cells) (sym same) works))
]

-- operations that are below a number, and so are good
pub good_ops : (cells : ℕ) (ops listed : List Op) → listed ≡ ops → length ops ≤ 8 → WorksBelow cells ops
    → ((n : ℕ) → WorksBelow n listed → All IsOp listed) → IsGood cells ops
good_ops cells ops listed same few below known = record {
  few = few;
  are_ops = subst (All IsOp) same (known cells (subst (WorksBelow cells) (sym same) below));
  below = below;
}
