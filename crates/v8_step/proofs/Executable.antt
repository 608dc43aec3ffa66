-- No step changes what can be executed.
use Rattle.v8_step.proofs.Common.{◌≡◌, ℕ, zero, suc, refl, ap, ◌∙◌, Memory, code_of, fetch_of, fetch_from, State, step_of, run, CodeStays}
use Rattle.v8_memory.proofs.Executable.{filter-written}
use Rattle.v8_step.proofs.Kept.{kept_step}

abbrev HasCode : Memory → Memory → Type 0
HasCode m n = code_of n ≡ code_of m

pub code_of-step : (s : State) → code_of (step_of s).memory ≡ code_of s.memory
code_of-step s =
    kept_step HasCode (λ m. refl) (λ m n o e f. f ∙ e) (λ address bytes m. filter-written address bytes m.regions)
    (λ m address. refl) s.memory s refl

pub code_of-run : (s : State) (n : ℕ) → code_of (run s n).memory ≡ code_of s.memory
code_of-run s zero = refl
code_of-run s (suc n) = code_of-step (run s n) ∙ code_of-run s n

pub code_stays : CodeStays
unfolding fetch_of
code_stays = (code_of-step, λ s n address. ap (λ code. fetch_from code address) (code_of-run s n))
