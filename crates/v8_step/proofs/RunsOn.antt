-- A run that goes on from where it stood.
use Rattle.v8_step.proofs.Common.{◌≡◌, ℕ, zero, suc, ◌+◌, ◌++◌, append_assoc, append-nil, refl, ap, sym, ◌∙◌, arith, State, puts_of, step_of, run, run_puts}

pub run_add : (s : State) (k l : ℕ) → run s (l + k) ≡ run (run s k) l
run_add s k zero = ap (run s) (omega arith)
run_add s k (suc l) = let e : suc l + k ≡ suc (l + k) = omega arith in ap (run s) e ∙ ap step_of (run_add s k l)

-- what it puts out
pub puts_add : (s : State) (k l descriptor : ℕ)
    → run_puts s (l + k) descriptor ≡ run_puts s k descriptor ++ run_puts (run s k) l descriptor
puts_add s k zero descriptor =
    ap (λ n. run_puts s n descriptor) (let e : zero + k ≡ k = omega arith in e)
    ∙ sym (append-nil (run_puts s k descriptor))
puts_add s k (suc l) descriptor =
    ap (λ n. run_puts s n descriptor) (let e : suc l + k ≡ suc (l + k) = omega arith in e)
    ∙ rw (puts_add s k l descriptor, run_add s k l) refl
    ∙ append_assoc (run_puts s k descriptor) (run_puts (run s k) l descriptor) (puts_of (run (run s k) l) descriptor)
