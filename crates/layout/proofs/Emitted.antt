-- The words of one entry more.
use Rattle.layout.proofs.Common.{◌≡◌, ℕ, suc, ◌+◌, inl, inr, true, false, List, [], ◌++◌, slice_get, Option, None, Some, refl, ap, sym, ◌∙◌, add-one, arith, option_map, cases_lt, false≢true, false_from_ne_true, Entry, Forms, far_from, goal_of, out_of_reach, offset, NoneLeft, code_at, code_to, far_of, has_condition, target_offset, IsEmitted}
pub use Rattle.layout.proofs.Rows.{three_order}

pub code_none : (base : ℕ) (entries : List Entry) (long : Forms) → code_to base entries long 0 ≡ []
unfolding code_to
code_none base entries long = refl

pub code_more : (base : ℕ) (entries : List Entry) (long : Forms) (n : ℕ)
    → code_to base entries long (suc n) ≡ code_to base entries long n ++ code_at base entries long n
unfolding code_to
code_more base entries long n = refl

pub emitted_none : (base : ℕ) (entries : List Entry) (long : Forms) → IsEmitted base entries long [] 0
emitted_none base entries long = record {
  is = sym (code_none base entries long);
  conditions = λ k l. absurd (omega arith);
}

pub emitted_more : (base : ℕ) (entries : List Entry) (long : Forms) (code new : List ℕ) (n : ℕ)
    → IsEmitted base entries long code n
    → new ≡ code ++ code_at base entries long n → has_condition (slice_get entries n) ≡ true
    → IsEmitted base entries long new (n + 1)
emitted_more base entries long code new n h e c = rw add-one record {
  is = cc (e, h.is, code_more base entries long n);
  conditions = λ k l. elim (cases_lt k n) [
    | inl u ↦ h.conditions k u
    | inr u ↦ let s : k ≡ n = omega arith in ap (λ (k : ℕ). has_condition (slice_get entries k)) s ∙ c
  ];
}

-- what is short is near
pub near_enough : (entries : List Entry) (long : Forms) (n : ℕ) → NoneLeft entries long → long n ≡ false
    → far_of (offset entries long n) (target_offset entries long n) ≡ false
near_enough entries long n none short = by (goal_of entries n)
    (false_from_ne_true (out_of_reach entries long n) (λ t. false≢true (sym short ∙ none n t)))
  where
    by : (o : Option ℕ) → far_from entries long n o ≡ false → far_of (offset entries long n) (option_map (offset
        entries long) o) ≡ false
    by None f = refl
    by (Some m) f = f
