-- Software traps (section B.27 of The SPARC Architecture Manual, Version 8): the one that saves windows, and the
-- system calls of this machine. %g1 has the number of the call, %o0 to %o2 its arguments. A call that succeeds
-- clears C and one that is refused sets it; %o0 has the answer or the error number.
use Rattle.std.specs.Prelude.{ℕ, ◌-◌, ◌%◌, true, false, ◌||◌, List, length, take, drop, Option, Some, None, Bool, ◌==◌, if◌then◌else◌}
use Rattle.v8_memory.specs.Regions.{Memory, buffer_read, buffer_written, with_heap_end, is_heap_end}
use Rattle.v8_step.specs.declared.Ending.TheVariants.{Exit}
use Rattle.v8_step.specs.State.{State, register_of, with_register}
use Rattle.v8_step.specs.Traps.{trap_instruction, flush_windows, call_system, EBADF, ENOMEM, EFAULT, ENOSYS}
use Rattle.v8_step.specs.Transfers.{next, ended, trapped}
use Rattle.v8_step.specs.WindowMoves.{spill_many}

-- ---- answers

abbrev pub answered : Bool → ℕ → State → State
answered carry value s = next (record (with_register s 8 value) { codes = record s.codes { c = carry } })

abbrev pub succeeds : ℕ → State → State
succeeds value s = answered false value s

abbrev pub refuses : ℕ → State → State
refuses error s = answered true error s

-- ---- the calls

-- 3, read: into the buffer go as many bytes as it takes and the input has. The rest of it stays as it is, whatever its
-- permissions are.
abbrev pub read_into : ℕ → State → Option Memory → State
read_into count s None = refuses EFAULT s
read_into count s (Some m) = succeeds count (record s { memory = m; input = drop count s.input })

abbrev pub read_call : State → ℕ → ℕ → ℕ → State
read_call s descriptor address count =
    if descriptor == 0
    then read_into (length (take count s.input)) s (buffer_written s.memory address (take count s.input))
    else refuses EBADF s

-- the descriptors that take output
abbrev pub is_output : ℕ → Bool
is_output descriptor = (descriptor == 1) || (descriptor == 2)

-- 4, write: the bytes go out, as the step's output below says
abbrev pub write_from : ℕ → State → Option (List ℕ) → State
write_from count s None = refuses EFAULT s
write_from count s (Some bytes) = succeeds count s

abbrev pub write_call : State → ℕ → ℕ → ℕ → State
write_call s descriptor address count =
    if is_output descriptor then write_from count s (buffer_read s.memory address count) else refuses EBADF s

-- 17, brk: sets the end of the heap
abbrev pub heap_call : State → ℕ → State
heap_call s address =
    if is_heap_end address
    then succeeds 0 (record s { memory = with_heap_end s.memory address })
    else refuses ENOMEM s

-- 1, exit, gives the low byte of its argument
unfoldable pub system_call : State → ℕ → ℕ → ℕ → ℕ → State
system_call s number o0 o1 o2 =
    if number == 1 then ended s (Exit (o0 % 256)) else
    if number == 3 then read_call s o0 o1 o2 else
    if number == 4 then write_call s o0 o1 o2 else
    if number == 17 then heap_call s o0 else
    refuses ENOSYS s

-- a call with the arguments in the registers
abbrev pub system_step : State → State
system_step s = system_call s (register_of s 1) (register_of s 8) (register_of s 9) (register_of s 10)

-- the software trap of this number
unfoldable pub trap_step : State → ℕ → State
trap_step s number =
    if number == flush_windows then spill_many (s.valid - 1) s else
    if number == call_system then system_step s else
    trapped s (trap_instruction number)
