-- Going on at another place.
use Rattle.std.specs.Prelude.{ℕ, ◌+◌}
use Rattle.v8_alu.specs.Numbers.{wrapped}
use Rattle.v8_memory.specs.Regions.{Memory}
use Rattle.v8_step.specs.declared.Slot.TheVariants.{NoSlot}
use Rattle.v8_step.specs.State.{State}
use Rattle.code_runs.specs.Leads.{Leads, IsBetween, IsSilent}
use Rattle.code_runs.specs.Code.{Stores}

-- the same but for where the machine goes on, and for memory
abbrev pub hopped : State → ℕ → Memory → State
hopped s to m = record s { pc = to; npc = wrapped (to + 4); slot = NoSlot; memory = m }

-- So many words lead there, put nothing out, and store only at some addresses.
pub record Hops (s : State) (count : ℕ) (May : ℕ → Type 0) (to : ℕ) (m : Memory) : Type 0 where
  pub path : Leads (IsBetween s count May) s (hopped s to m) count
  pub silent : IsSilent s count
  pub stores : Stores May s.memory m
