use Rattle.v8_encode.proofs.Common.{◌≡◌, ℕ, Bool, true, false, Some, None, refl, sym, ap, ◌∙◌, if◌then◌else◌, ◌↔◌, IsSome, IfSome, IsTrue, cond_both, cleared, encode_of, has_word, ignored_of, is_instruction, word_of}
use Rattle.v8_encode.proofs.Decoded.{decode_of-word_of}
use Rattle.v8_encode.proofs.Encoded.{encode_of-decode_of}
use Rattle.v8_encode.proofs.Ignored.{cleared-word_of}
use Rattle.v8_encode.proofs.encode.Goals as goal

found : (b : Bool) (w : ℕ) → IsSome (if b then Some w else None) ↔ IsTrue b
found true w = (λ _. refl, λ _. refl)
found false w = (λ h. h, λ h. h)

-- a fact of the word holds of what is found
of_found : (P : ℕ → Type 0) (b : Bool) (w : ℕ) (R : Type 0) → (R → b ≡ true → P w) → IfSome (if b then Some w else None) (λ _. R) → IfSome (if b then Some w else None) P
of_found P b w R fact = cond_both b (Some w) None (λ r. IfSome r (λ _. R) → IfSome r P) (λ e r. fact r e) (λ _ r. r)

pub returns-clause-found : goal.returns-clause-found
unfolding encode_of
returns-clause-found c = rw c.word_for.ensures.value (found (has_word c.args.i) (word_of c.args.i))

pub returns-clause-decodes : goal.returns-clause-decodes
unfolding encode_of
returns-clause-decodes c =
    let range = rw c.word_for.ensures.value at c.word_for.ensures.range in
    rw c.word_for.ensures.value (of_found _ (has_word c.args.i) (word_of c.args.i) _ (decode_of-word_of c.args.i) range)

pub returns-clause-ignored : goal.returns-clause-ignored
unfolding encode_of
returns-clause-ignored c =
    let range = rw c.word_for.ensures.value at c.word_for.ensures.range in
    rw c.word_for.ensures.value (of_found _ (has_word c.args.i) (word_of c.args.i) _ (cleared-word_of c.args.i) range)

pub returns-clause-again : goal.returns-clause-again
returns-clause-again c =
    λ w below decodes instruction.
    c.word_for.ensures.value
    ∙ ap encode_of (sym decodes)
    ∙ encode_of-decode_of w below (ap is_instruction decodes ∙ instruction)
    ∙ ap (λ x. Some (cleared (ignored_of x) w)) decodes
