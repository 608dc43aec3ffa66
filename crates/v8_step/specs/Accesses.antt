-- Loads, stores, and the two instructions that do both (sections B.1, B.4, B.7 and B.8 of The SPARC Architecture
-- Manual, Version 8). An address that is not aligned is judged before the access.
use Rattle.std.specs.Prelude.{ℕ, suc, ◌+◌, ◌-◌, ◌%◌, ◌^◌, List, [], ◌∷◌, ◌++◌, take, drop, Option, Some, None, nat_lt, ◌==◌, if◌then◌else◌}
use Rattle.std.specs.Int.{Width, byte_len, w8, w16, w32, to_be_bytes, from_be_bytes}
use Rattle.v8_decode.specs.declared.LoadKind.{LoadKind}
use Rattle.v8_decode.specs.declared.LoadKind.TheVariants as loads
use Rattle.v8_decode.specs.declared.StoreKind.{StoreKind}
use Rattle.v8_decode.specs.declared.StoreKind.TheVariants as stores
use Rattle.v8_memory.specs.Regions.{Memory, bytes_at, with_bytes}
use Rattle.v8_windows.specs.Registers.{register_set, pair_set}
use Rattle.v8_step.specs.declared.Ending.{Ending}
use Rattle.v8_step.specs.declared.Ending.TheVariants.{Trap}
use Rattle.v8_step.specs.State.{State, register_of, with_register}
use Rattle.v8_step.specs.Traps.{mem_address_not_aligned, data_access_exception}
use Rattle.v8_step.specs.Transfers.{next, ended, trapped}

-- ---- sizes, and so alignments, in bytes

abbrev pub load_size : LoadKind → ℕ
load_size loads.LD = 4
load_size loads.LDUB = 1
load_size loads.LDUH = 2
load_size loads.LDD = 8
load_size loads.LDSB = 1
load_size loads.LDSH = 2

abbrev pub store_size : StoreKind → ℕ
store_size stores.ST = 4
store_size stores.STB = 1
store_size stores.STH = 2
store_size stores.STD = 8

-- ---- values

-- a word as a number, the highest byte first
abbrev pub word_of : List ℕ → ℕ
word_of bytes = from_be_bytes w32 bytes

-- a number of `width` bits, with its sign extended to 32
abbrev pub extended : ℕ → ℕ → ℕ
extended width n = if nat_lt n (2 ^ (width - 1)) then n else 2 ^ 32 - 2 ^ width + n

-- the registers after a load of these bytes into rd of a window
abbrev pub loaded : List ℕ → ℕ → LoadKind → ℕ → List ℕ → List ℕ
loaded registers window loads.LD rd bytes = register_set registers window rd (word_of bytes)
loaded registers window loads.LDUB rd bytes = register_set registers window rd (from_be_bytes w8 bytes)
loaded registers window loads.LDUH rd bytes = register_set registers window rd (from_be_bytes w16 bytes)
loaded registers window loads.LDD rd bytes =
    pair_set registers window rd (word_of (take 4 bytes)) (word_of (drop 4 bytes))
loaded registers window loads.LDSB rd bytes =
    register_set registers window rd (extended 8 (from_be_bytes w8 bytes))
loaded registers window loads.LDSH rd bytes =
    register_set registers window rd (extended 16 (from_be_bytes w16 bytes))

-- the bytes that a store of rd writes
abbrev pub stored : State → StoreKind → ℕ → List ℕ
stored s stores.ST rd = to_be_bytes w32 (register_of s rd)
stored s stores.STB rd = register_of s rd % 256 ∷ []
stored s stores.STH rd = to_be_bytes w16 (register_of s rd % 2 ^ 16)
stored s stores.STD rd = to_be_bytes w32 (register_of s rd) ++ to_be_bytes w32 (register_of s (suc rd))

-- ---- accesses

-- goes on with the bytes that were read
abbrev pub on_bytes : State → Option (List ℕ) → (List ℕ → State) → State
on_bytes s None go = trapped s data_access_exception
on_bytes s (Some bytes) go = go bytes

-- goes on with the memory that was written
abbrev pub on_memory : State → Ending → Option Memory → (State → State) → State
on_memory s ending None go = ended s ending
on_memory s ending (Some m) go = go (record s { memory = m })

-- B.1 LD, LDUB, LDUH, LDD, LDSB, LDSH
unfoldable pub load_step : State → LoadKind → ℕ → ℕ → State
load_step s kind rd address =
    if address % load_size kind == 0
    then on_bytes s (bytes_at s.memory address (load_size kind))
    (λ bytes. next (record s { registers = loaded s.registers s.window kind rd bytes }))
    else trapped s mem_address_not_aligned

-- B.4 ST, STB, STH, STD
unfoldable pub store_step : State → StoreKind → ℕ → ℕ → State
store_step s kind rd address =
    if address % store_size kind == 0
    then on_memory s (Trap data_access_exception) (with_bytes s.memory address (stored s kind rd)) next
    else trapped s mem_address_not_aligned

-- reads the bytes of a width into rd and writes others in their place, where both are allowed
abbrev pub exchange_step : State → Width → ℕ → ℕ → List ℕ → State
exchange_step s width rd address new =
    if address % byte_len width == 0
    then on_bytes s (bytes_at s.memory address (byte_len width)) (λ old.
    on_memory s (Trap data_access_exception) (with_bytes s.memory address new)
    (λ t. next (with_register t rd (from_be_bytes width old))))
    else trapped s mem_address_not_aligned

-- B.7 LDSTUB
unfoldable pub ldstub_step : State → ℕ → ℕ → State
ldstub_step s rd address = exchange_step s w8 rd address (0xff ∷ [])

-- B.8 SWAP
unfoldable pub swap_step : State → ℕ → ℕ → State
swap_step s rd address = exchange_step s w32 rd address (to_be_bytes w32 (register_of s rd))
