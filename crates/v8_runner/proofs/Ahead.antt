-- Runs that go on by steps that put nothing out.
use Rattle.std.proofs.Common.{◌≡◌, ◌+◌, ◌-◌, ◌<◌, ◌≤◌, ◌⊎◌, inl, inr, ℕ, ◌++◌, None, sym, ap, ◌∙◌, arith}
use Rattle.std.proofs.lemmas.Bool.{cases_lt}
use Rattle.std.proofs.lemmas.List.{append-nil}
use Rattle.v8_step.specs.State.{State}
use Rattle.v8_step.specs.Run.{run, run_puts}
use Rattle.v8_step.specs.Turns.{IsQuietRun}
use Rattle.v8_step.proofs.RunsOn.{puts_add, run_add}
use Rattle.v8_runner.specs.Made.{AreMade}
use Rattle.v8_runner.specs.Private.{IsAhead}

pub ahead : (s0 s t : State) (n k : ℕ) → s ≡ run s0 n → AreMade s0 n → IsQuietRun s k t → IsAhead s0 n (n + k) t
ahead s0 s t n k is made h = record {
  state = h.state ∙ ap (λ (z : State). run z k) is ∙ sym (run_add s0 n k) ∙ ap (run s0) turned;
  made = λ j below. early j below (cases_lt j n);
  puts = λ descriptor. ap (λ m. run_puts s0 m descriptor) (sym turned) ∙ puts_add s0 n k descriptor
      ∙ ap (λ (z : State). run_puts s0 n descriptor ++ run_puts z k descriptor) (sym is)
      ∙ ap (λ z. run_puts s0 n descriptor ++ z) (h.quiet descriptor) ∙ append-nil (run_puts s0 n descriptor);
}
  where
    turned : k + n ≡ n + k
    turned = omega arith

    early : (j : ℕ) → j < n + k → (j < n) ⊎ (n ≤ j) → (run s0 j).ending ≡ None
    early j below (inl less) = made j less
    early j below (inr least) =
        let from : (j - n) + n ≡ j = omega arith in
        let within : j - n < k = omega arith in
        ap (λ m. (run s0 m).ending) (sym from) ∙ ap (λ (z : State). z.ending) (run_add s0 n (j - n))
        ∙ ap (λ (z : State). (run z (j - n)).ending) (sym is) ∙ h.made (j - n) within
