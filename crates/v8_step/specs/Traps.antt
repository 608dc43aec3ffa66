-- The trap types of table 7-1 of The SPARC Architecture Manual, Version 8, the software traps, and the error
-- numbers that system calls answer.
use Rattle.std.specs.Prelude.{ℕ, ◌+◌}

abbrev pub instruction_access_exception : ℕ
instruction_access_exception = 0x01

abbrev pub illegal_instruction : ℕ
illegal_instruction = 0x02

abbrev pub privileged_instruction : ℕ
privileged_instruction = 0x03

abbrev pub fp_disabled : ℕ
fp_disabled = 0x04

abbrev pub mem_address_not_aligned : ℕ
mem_address_not_aligned = 0x07

abbrev pub data_access_exception : ℕ
data_access_exception = 0x09

abbrev pub tag_overflow : ℕ
tag_overflow = 0x0a

abbrev pub cp_disabled : ℕ
cp_disabled = 0x24

abbrev pub division_by_zero : ℕ
division_by_zero = 0x2a

-- the trap of a Ticc with this software trap number
abbrev pub trap_instruction : ℕ → ℕ
trap_instruction number = 0x80 + number

-- the software trap that saves all windows but the current one (System V ABI, SPARC Processor Supplement,
-- "Software Trap Types": ST_FLUSH_WINDOWS), and the one that calls the system here
abbrev pub flush_windows : ℕ
flush_windows = 3

abbrev pub call_system : ℕ
call_system = 16

abbrev pub EBADF : ℕ
EBADF = 9

abbrev pub ENOMEM : ℕ
ENOMEM = 12

abbrev pub EFAULT : ℕ
EFAULT = 14

abbrev pub ENOSYS : ℕ
ENOSYS = 90
