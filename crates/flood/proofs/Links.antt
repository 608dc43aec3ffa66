-- The links that lead to a place, from the last down.
use Rattle.std.proofs.Common.{◌⊎◌, ◌≡◌, ℕ, zero, suc, ◌<◌, ◌≤◌, Bool, true, false, cond, ◌==◌, List, length, refl, sym, ap, ◌∙◌, arith, inl, inr}
use Rattle.std.proofs.lemmas.Bool.{eqb-true, eqb-false, cases_lt}
use Rattle.flood.specs.declared.Link.{Link}
use Rattle.flood.specs.Flood.{link_at}
use Rattle.flood.specs.Private.{last_into}

module _ (links : List Link) (p : ℕ) where
  abbrev leads : ℕ → Bool
  leads k = (link_at links k).to == p

  pub last_into-le : (k : ℕ) → last_into links p k ≤ k
  last_into-le zero = omega arith
  last_into-le (suc k) = by (leads k) (last_into-le k)
    where
      by : (b : Bool) → last_into links p k ≤ k → cond b (suc k) (last_into links p k) ≤ suc k
      by true h = omega arith
      by false h = omega arith

  -- what it names leads there
  pub last_into-leads : (k j : ℕ) → last_into links p k ≡ suc j → (j < k) × ((link_at links j).to ≡ p)
  last_into-leads zero j e = absurd (omega arith)
  last_into-leads (suc k) j e = by (leads k) refl e (last_into-leads k j)
    where
      by : (b : Bool) → leads k ≡ b → cond b (suc k) (last_into links p k) ≡ suc j
          → (last_into links p k ≡ suc j → (j < k) × ((link_at links j).to ≡ p))
          → (j < suc k) × ((link_at links j).to ≡ p)
      by true t e rest =
          let same : k ≡ j = omega arith in
          (omega arith, ap (λ i. (link_at links i).to) (sym same) ∙ eqb-true _ _ t)
      by false t e rest = let r = rest e in let low = r.0 in (omega arith, r.1)

  -- and nothing between does
  pub below_last : (k j : ℕ) → j < k → (link_at links j).to ≡ p → j < last_into links p k
  below_last zero j l e = absurd (omega arith)
  below_last (suc k) j l e = by (leads k) refl (below_last k j)
    where
      by : (b : Bool) → leads k ≡ b → (j < k → (link_at links j).to ≡ p → j < last_into links p k)
          → j < cond b (suc k) (last_into links p k)
      by true t rest = omega arith
      by false t rest = go (cases_lt j k)
        where
          go : (j < k) ⊎ (k ≤ j) → j < last_into links p k
          go (inl low) = rest low e
          go (inr high) =
              let same : j ≡ k = omega arith in
              absurd (eqb-false _ _ t (ap (λ i. (link_at links i).to) (sym same) ∙ e))

  -- the number of a link that leads there, where there is one
  pub leads_at : (n next : ℕ) → next ≡ last_into links p n → n ≤ length links → (k : ℕ) → next ≡ suc k
      → (k < length links) × ((link_at links k).to ≡ p)
  leads_at n next e few k f =
      let h = last_into-leads n k (sym e ∙ f) in
      let low = h.0 in
      (omega arith, h.1)
