-- A callback's answers for the first edges of a list.
use Rattle.std.proofs.Common.{◌≡◌, ℕ, ◌+◌, ◌<◌, inl, inr, List, [], ◌∷◌, ◌++◌, length, sym, subst, arith, ◌∙◌, length-append}
use Rattle.std.specs.Prelude.{get_or}
use Rattle.std.specs.List.{All}
use Rattle.std.proofs.lemmas.Bool.{cases_lt}
use Rattle.std.proofs.lemmas.List.{get_or_append_left, get_or_default}
use Rattle.std.proofs.Math.Seq.{get_or-append_seam}
use Rattle.std.proofs.lemmas.Option.{get_or_from_slice_get, slice_get_within}
use Rattle.cfg_normal.specs.declared.Edge.{Edge}
use Rattle.snippets.specs.declared.snippet.Op.{Op}
use Rattle.tool_kit.specs.Good.{IsGood}
use Rattle.tool_kit.specs.Code.{AreAnswers, numbered}
use Rattle.tool_kit.specs.declared.edge_ref.EdgeRef.{EdgeRef}

-- The snippets are answers for so many edges, and good ones.
pub record AreFirst {F : Type 0} (says : F → EdgeRef → List Op → Type 0) (choose : F) (cells : ℕ) (edges : List Edge)
    (count : ℕ) (snips : List (List Op)) : Type 0 where
  pub size : length snips ≡ count
  pub each : (k : ℕ) → k < count → (edge : Edge)
      → says choose (numbered k (get_or edges k edge)) (get_or snips k [])
  pub good : (k : ℕ) → k < count → IsGood cells (get_or snips k [])

-- what holds of each item so far, and of one more
one_more : (P : ℕ → List Op → Type 0) (snips : List (List Op)) (ops : List Op) (count : ℕ) → length snips ≡ count
    → ((k : ℕ) → k < count → P k (get_or snips k [])) → P count ops
    → (k : ℕ) → k < count + 1 → P k (get_or (snips ++ ops ∷ []) k [])
one_more P snips ops count size each new k l = elim (cases_lt k count) [
  | inl before ↦
      subst (P k) (sym (get_or_append_left snips (ops ∷ []) [] k (omega (arith, before, size)))) (each k before)
  | inr from ↦ last (omega (arith, from, l, size))
]
  where
    last : length snips ≡ k → P k (get_or (snips ++ ops ∷ []) k [])
    last here =
        let same : count ≡ k = sym size ∙ here in
        subst (λ (n : ℕ). P n (get_or (snips ++ ops ∷ []) n [])) here
        (subst (λ (n : ℕ). P n (get_or (snips ++ ops ∷ []) (length snips) [])) (sym size)
        (subst (P count) (sym (get_or-append_seam snips ops [] [])) new))

module _ {F : Type 0} (says : F → EdgeRef → List Op → Type 0) (choose : F) (cells : ℕ) (edges : List Edge) where
  pub first_more : (count : ℕ) (snips : List (List Op)) (next : EdgeRef) (ops : List Op)
      → AreFirst says choose cells edges count snips
      → ((edge : Edge) → next ≡ numbered count (get_or edges count edge)) → says choose next ops
      → IsGood cells ops → AreFirst says choose cells edges (count + 1) (snips ++ ops ∷ [])
  first_more count snips next ops are is answers good_one = record {
    size = omega (arith, length-append snips (ops ∷ []), are.size);
    each = one_more (λ k (xs : List Op). (edge : Edge) → says choose (numbered k (get_or edges k edge)) xs) snips ops
        count are.size are.each (λ edge. subst (λ (x : EdgeRef). says choose x ops) (is edge) answers);
    good = one_more (λ k (xs : List Op). IsGood cells xs) snips ops count are.size are.good good_one;
  }

  module _ (count : ℕ) (snips : List (List Op)) (are : AreFirst says choose cells edges count snips)
      (whole : count ≡ length edges) where
    pub all_answers : AreAnswers says choose edges snips
    all_answers = record {
      size = are.size ∙ whole;
      each = λ k edge e.
          subst (λ (x : Edge). says choose (numbered k x) (get_or snips k []))
          (get_or_from_slice_get edges k edge edge e)
          (are.each k (omega (arith, whole, slice_get_within edges k edge e)) edge);
    }

    pub all_good : All (IsGood cells) snips
    all_good = λ k ops l.
        subst (IsGood cells) (get_or_default snips k [] ops l) (are.good k (omega (arith, l, are.size)))
