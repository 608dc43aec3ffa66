-- What only contracts of private functions and models cite.
use Rattle.std.specs.Prelude.{Bool, true, false, ℕ, List, take, ◌≡◌, Result, Ok, Err, OnOk, OnErr, IsErrOf, Option, Some, None, ◌-◌, [], unwrap_or, ◌&&◌, ◌==◌, if◌then◌else◌}
use Rattle.std.specs.Int.{w8, w16, from_be_bytes, Width}
use Rattle.eel_base.specs.Outside.{appended, TookPart}
use Rattle.v8_decode.specs.declared.LoadKind.{LoadKind}
use Rattle.v8_memory.specs.declared.fault.MemFault.{MemFault}
use Rattle.v8_memory.specs.declared.fault.MemFault.TheVariants.{Misaligned, NoAccess}
use Rattle.v8_step.specs.declared.Slot.{Slot}
use Rattle.v8_step.specs.declared.Slot.TheVariants.{NoSlot, Taken, Untaken}
use Rattle.v8_step.specs.Traps.{mem_address_not_aligned, data_access_exception, call_system}
use Rattle.v8_decode.specs.declared.LoadKind.TheVariants as loads
use Rattle.v8_decode.specs.declared.Instr.{Instr}
use Rattle.v8_memory.specs.Regions.{Memory, buffer_read}
use Rattle.v8_windows.specs.Registers.{window_after}
use Rattle.v8_windows.specs.Frames.{with_frame}
use Rattle.v8_step.specs.Accesses.{word_of, extended}
use Rattle.v8_step.specs.State.{State}
use Rattle.v8_decode.specs.declared.Instr.TheVariants as i
use Rattle.v8_step.specs.Step.{act, written_out}
use Rattle.v8_step.specs.Transfers.{next}
use Rattle.v8_step.specs.Calls.{is_output}

-- in the slot of a transfer
abbrev pub in_slot : Slot → Bool
in_slot NoSlot = false
in_slot Taken = true
in_slot Untaken = true

-- the trap of an access that is refused
abbrev pub trap_of : MemFault → ℕ
trap_of Misaligned = mem_address_not_aligned
trap_of NoAccess = data_access_exception

-- the value that a load of one register gives it
abbrev pub value_of : LoadKind → List ℕ → ℕ
value_of loads.LD bytes = word_of bytes
value_of loads.LDUB bytes = from_be_bytes w8 bytes
value_of loads.LDUH bytes = from_be_bytes w16 bytes
value_of loads.LDD bytes = word_of (take 4 bytes)
value_of loads.LDSB bytes = extended 8 (from_be_bytes w8 bytes)
value_of loads.LDSH bytes = extended 16 (from_be_bytes w16 bytes)

-- a number was read and bytes were written in its place; where either access is refused nothing changes
abbrev pub Exchanges : Width → Result (List ℕ) MemFault → Result Memory MemFault → State → State
    → Result ℕ MemFault → Type 0
Exchanges width (Ok bytes) (Ok m) old new result =
    (result ≡ Ok (from_be_bytes width bytes)) × (new ≡ record old { memory = m })
Exchanges width (Ok bytes) (Err fault) old new result = (result ≡ Err fault) × (new ≡ old)
Exchanges width (Err fault) stored old new result = (result ≡ Err fault) × (new ≡ old)

-- a store is done, or is refused and changes nothing
abbrev pub Stores : {A : Type 0} → Result Memory MemFault → State → State → Result A MemFault → Type 0
Stores (Ok m) old new result = OnOk result (new ≡ record old { memory = m }) × OnErr result ⊥
Stores (Err fault) old new result = IsErrOf result fault × (new ≡ old)

-- the window after the current one was loaded from these bytes, or could not be
abbrev pub Fills : Option (List ℕ) → State → State → Bool → Type 0
Fills None old new result = (result ≡ false) × (new ≡ old)
Fills (Some bytes) old new result =
    (result ≡ true)
    × (new ≡ record old { registers = with_frame old.registers (window_after old.window) bytes; valid = 2 })

-- a window was saved, or could not be
abbrev pub Spills : Option Memory → State → State → Bool → Type 0
Spills None old new result = (result ≡ false) × (new ≡ old)
Spills (Some m) old new result = (result ≡ true) × (new ≡ record old { memory = m; valid = old.valid - 1 })

-- what an instruction does that puts nothing out; a Ticc only goes on here
abbrev pub quiet_act : State → Instr → State
quiet_act s (i.Ticc cond rs1 op2) = next s
quiet_act s instr = act s instr

-- the bytes that a write call puts out to a descriptor
abbrev pub call_puts : Memory → ℕ → ℕ → ℕ → ℕ → List ℕ
call_puts m to address count descriptor =
    if (to == descriptor) && is_output descriptor then unwrap_or (buffer_read m address count) [] else []

-- those of a software trap
abbrev pub trap_puts : State → ℕ → ℕ → List ℕ
trap_puts s number descriptor = if number == call_system then written_out s descriptor else []

-- a sink took all of these bytes, or a first part of them where a sink failed
abbrev pub Puts : {A E : Type 0} → Option (List ℕ) → Option (List ℕ) → List ℕ → Result A E → Type 0
Puts old new bytes (Ok x) = new ≡ appended old bytes
Puts old new bytes (Err e) = TookPart old new bytes
