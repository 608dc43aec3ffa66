-- Steps of instructions that have records.
use Rattle.v8_step.proofs.Common.{◌≡◌, ◌+◌, inl, inr, ℕ, List, None, refl, sym, ap, ◌∙◌, arith, add-one, cases_lt, IsTrue, Predecoded, OpCode, Other, AreKept, IsKept, StandsFor, instr_of, is_record, code_of, fetch_of, State, act, step_of, IsQuietRun}
use Rattle.v8_step.proofs.Executable.{code_of-step}
use Rattle.v8_step.proofs.Ops.{kept_puts, kept_steps}

pub no_step : (s : State) → IsQuietRun s 0 s
no_step s = record { state = refl; made = λ k below. absurd (omega arith); quiet = λ descriptor. refl }

pub says_some : (code : OpCode) → IsTrue (is_record code) → code ≡ Other → ⊥
says_some code some is = let h = rw is at some in absurd (cc)

stands_for : (s : State) (x : Predecoded) → IsKept (code_of s.memory) s.pc x → (x.code ≡ Other → ⊥)
    → StandsFor x (fetch_of s.memory s.pc)
unfolding fetch_of
stands_for s x kept some = elim kept.1 [ inl other ↦ absurd (some other) | inr stands ↦ stands ]

-- the instruction of a record is the step
step_turned : (s t : State) (x : Predecoded) → s.ending ≡ None → IsKept (code_of s.memory) s.pc x
    → act s (instr_of x) ≡ t → (x.code ≡ Other → ⊥) → t ≡ step_of s
step_turned s t x going kept is some = sym is ∙ kept_steps s x going (stands_for s x kept some)

-- one step more
pub one_more : (s0 s t : State) (n : ℕ) (x : Predecoded) → s.ending ≡ None → IsQuietRun s0 n s
    → IsKept (code_of s.memory) s.pc x → act s (instr_of x) ≡ t → (x.code ≡ Other → ⊥) → IsQuietRun s0 (n + 1) t
one_more s0 s t n x going h kept is some = rw add-one (record {
  state = step_turned s t x going kept is some ∙ ap step_of h.state;
  made = λ k below. elim (cases_lt k n) [
    | inl less ↦ h.made k less
    | inr least ↦ let same : k ≡ n = omega arith in rw (same, ← h.state) going
  ];
  quiet = λ descriptor. rw (h.quiet descriptor, ← h.state) (kept_puts s x descriptor (stands_for s x kept some));
})

-- the records are still those of the words that may be executed
pub still_kept : (s t : State) (x : Predecoded) (first : ℕ) (ops : List Predecoded) → s.ending ≡ None
    → IsKept (code_of s.memory) s.pc x → act s (instr_of x) ≡ t → (x.code ≡ Other → ⊥)
    → AreKept (code_of s.memory) first ops → AreKept (code_of t.memory) first ops
still_kept s t x first ops going kept is some h = rw (step_turned s t x going kept is some, code_of-step s) h
