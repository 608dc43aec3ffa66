-- Numbers of a valid state.
use Rattle.v8_step.proofs.Common.{ℕ, ◌^◌, ◌<◌, State, register_of, IsValid}
use Rattle.v8_step.proofs.ValidNumbers.{register_in-range}

pub register_of-range : (s : State) (r : ℕ) → IsValid s → register_of s r < 2 ^ 32
register_of-range s r h = register_in-range s.registers s.window r h.registers
