-- A run: the states after so many steps, and what they put out.
use Rattle.std.specs.Prelude.{ℕ, zero, suc, ◌+◌, List, [], ◌∷◌, ◌++◌, false, None}
use Rattle.v8_memory.specs.Regions.{Memory}
use Rattle.v8_alu.specs.Numbers.{wrapped}
use Rattle.v8_step.specs.State.{State}
use Rattle.v8_step.specs.Step.{step_of, puts_of}
use Rattle.v8_step.specs.declared.Slot.TheVariants.{NoSlot}

-- the state after n steps
abbrev pub run : State → ℕ → State
run s zero = s
run s (suc n) = step_of (run s n)

-- the bytes that n steps put out to a descriptor
abbrev pub run_puts : State → ℕ → ℕ → List ℕ
run_puts s zero descriptor = []
run_puts s (suc n) descriptor = run_puts s n descriptor ++ puts_of (run s n) descriptor

-- so many zeros, which compute
abbrev pub zeros : ℕ → List ℕ
zeros zero = []
zeros (suc n) = 0 ∷ zeros n

-- A state in which nothing has run: one window is valid, and every register but %sp is 0.
abbrev pub first_state : Memory → ℕ → ℕ → List ℕ → State
first_state m entry sp input = record {
  pc = entry;
  npc = wrapped (entry + 4);
  slot = NoSlot;
  registers = zeros 14 ++ sp ∷ zeros 121;
  window = 0;
  valid = 1;
  codes = record { n = false; z = false; v = false; c = false };
  y = 0;
  memory = m;
  input = input;
  ending = None;
}
