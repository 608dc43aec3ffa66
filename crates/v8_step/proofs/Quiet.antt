-- What a step of the machine puts out, and what it does where it puts nothing out.
use Rattle.v8_step.proofs.Common.{◌≡◌, ℕ, List, [], Option, Some, None, refl, ap, sym, ◌∙◌, append-nil, Op2, Instr, State, act, puts_by, quiet_act}
use Rattle.eel_base.specs.Outside.{appended}
use Rattle.v8_decode.specs.declared.Instr.TheVariants as i

pub appended_nothing : (taken : Option (List ℕ)) → appended taken [] ≡ taken
appended_nothing None = refl
appended_nothing (Some bytes) = ap Some (append-nil bytes)

-- an instruction that is no Ticc
abbrev pub IsPlain : Instr → Type 0
IsPlain x = (cond rs1 : ℕ) (op2 : Op2) → x ≡ i.Ticc cond rs1 op2 → ⊥

pub quiet_acts : (s : State) (x : Instr) → IsPlain x → quiet_act s x ≡ act s x
quiet_acts s (i.Ticc cond rs1 op2) h = absurd (h cond rs1 op2 refl)
quiet_acts s x h = refl

pub puts_nothing : (s : State) (x : Instr) (descriptor : ℕ) → IsPlain x → puts_by s x descriptor ≡ []
unfolding puts_by
puts_nothing s (i.Ticc cond rs1 op2) descriptor h = absurd (h cond rs1 op2 refl)
puts_nothing s x descriptor h = refl

-- a sink that such an instruction leaves as it was
pub took_nothing : (s : State) (x : Instr) (descriptor : ℕ) (taken : Option (List ℕ)) → IsPlain x
    → taken ≡ appended taken (puts_by s x descriptor)
took_nothing s x descriptor taken h =
    sym (ap (appended taken) (puts_nothing s x descriptor h) ∙ appended_nothing taken)
