-- An operation that is added to a snippet keeps it filled.
use Rattle.snippets.proofs.Common.{◌≡◌, ℕ, suc, ◌+◌, ◌-◌, ◌<◌, drop, replicate, slice_set, refl, ap, sym, ◌∙◌, arith, length-set, drop-drop, drop-set-lt, Op, IsFilled, filler}
use Rattle.snippets.specs.declared.snippet.Snippet.TheInside.{Inside}

-- one operation more
pub filled_more : (inside : Inside) (op : Op) → IsFilled inside → inside.count < 8
    → IsFilled (record { ops = slice_set inside.ops inside.count op; count = inside.count + 1 })
filled_more inside op is room = record {
  few = omega arith;
  size = length-set inside.ops inside.count op ∙ is.size;
  rest =
      drop-set-lt (inside.count + 1) inside.ops inside.count op (omega arith)
      ∙ sym (drop-drop 1 inside.count inside.ops)
      ∙ ap (drop 1) is.rest ∙ shorter (8 - inside.count) (8 - (inside.count + 1)) (omega arith);
}
  where
    shorter : (m n : ℕ) → m ≡ suc n → drop 1 (replicate m filler) ≡ replicate n filler
    shorter m n is = rw is refl
