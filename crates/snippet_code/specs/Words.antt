-- The instructions that do a snippet. Sections are those of appendix B of The SPARC Architecture Manual, Version 8.
use Rattle.std.specs.Prelude.{ℕ, suc, ◌+◌, ◌-◌, ◌*◌, ◌/◌, ◌%◌, ◌^◌, Bool, true, false, ◌==◌, nat_lt, if◌then◌else◌, List, [], ◌∷◌, ◌++◌, map, slice_index, ℤ, pos, negsuc}
use Rattle.std.specs.List.{flat_map}
use Rattle.v8_decode.specs.declared.AluOp.TheVariants as ops
use Rattle.v8_decode.specs.declared.Op2.TheVariants as o
use Rattle.v8_decode.specs.declared.Instr.{Instr}
use Rattle.v8_decode.specs.declared.Instr.TheVariants as i
use Rattle.v8_decode.specs.declared.LoadKind.TheVariants as loads
use Rattle.v8_decode.specs.declared.StoreKind.TheVariants as stores
use Rattle.v8_decode.specs.declared.Part.{Part}
use Rattle.v8_decode.specs.declared.Part.TheVariants.{Icc}
use Rattle.v8_decode.specs.Parts.{has}
use Rattle.v8_encode.specs.Encoding.{word_of}
use Rattle.snippets.specs.declared.snippet.Op.{Op}
use Rattle.snippets.specs.declared.snippet.Op.TheVariants.{Add, Put, Keep, Top, Count, Log}
use Rattle.code_runs.specs.Code.{of_page}
use Rattle.scavenge.specs.Code.{picked, spilled}
use Rattle.snippet_code.specs.Cells.{cell_at}
use Rattle.snippet_code.specs.Spills.{is_small, spills_of, registers_for}

-- ---- one operation, which works in registers r 0, r 1, ..

-- a number's upper 22 bits (SETHI, B.9), and the 10 bits below them
abbrev pub high : ℕ → ℕ → Instr
high n rd = i.Sethi rd (n / 1024)

abbrev pub low : ℕ → ℕ
low n = n % 1024

-- the word at an address whose upper bits a register has (B.1, B.4)
abbrev pub load_low : ℕ → ℕ → ℕ → Instr
load_low a base rd = i.Load loads.LD rd base (o.Imm (pos (low a)))

abbrev pub store_low : ℕ → ℕ → ℕ → Instr
store_low a base rd = i.Store stores.ST rd base (o.Imm (pos (low a)))

-- and the next one; one register has the upper bits of both, since the immediate is at most 1,027
abbrev pub load_next : ℕ → ℕ → ℕ → Instr
load_next a base rd = i.Load loads.LD rd base (o.Imm (pos (low a + 4)))

abbrev pub store_next : ℕ → ℕ → ℕ → Instr
store_next a base rd = i.Store stores.ST rd base (o.Imm (pos (low a + 4)))

-- an operation on two registers, or on a register and a number, that leaves the codes (B.11, B.12)
abbrev pub of_two : ops.the_data → ℕ → ℕ → ℕ → Instr
of_two op rs1 rs2 rd = i.Alu op false rd rs1 (o.Reg rs2)

abbrev pub with_number : ops.the_data → ℕ → ℤ → ℕ → Instr
with_number op rs1 n rd = i.Alu op false rd rs1 (o.Imm n)

abbrev pub add_low : ℕ → ℕ → Instr
add_low n rd = with_number ops.ADD rd (pos (low n)) rd

-- 1 is added, and the carry goes to the codes; the carry is added (B.13)
abbrev pub add_one : ℕ → Instr
add_one rd = i.Alu ops.ADD true rd rd (o.Imm (pos 1))

abbrev pub add_carry : ℕ → Instr
add_carry rd = with_number ops.ADDX rd (pos 0) rd

-- the codes of a difference, and BGU with annul, over the word in its slot (B.12, B.21)
abbrev pub compare : ℕ → ℕ → Instr
compare rs1 rs2 = i.Alu ops.SUB true 0 rs1 (o.Reg rs2)

abbrev pub next_if_greater : Instr
next_if_greater = i.Branch 12 true (pos 2)

abbrev pub small : ℕ → ℤ
small amount = if nat_lt amount 4096 then pos amount else negsuc (2 ^ 32 - 1 - amount)

abbrev pub add_words : ℕ → (ℕ → ℕ) → ℕ → List Instr
add_words a r amount =
    if is_small amount
    then high a (r 0) ∷ load_low a (r 0) (r 1) ∷ with_number ops.ADD (r 1) (small amount) (r 1)
    ∷ store_low a (r 0) (r 1) ∷ []
    else high a (r 0) ∷ load_low a (r 0) (r 1) ∷ high amount (r 2)
    ∷ add_low amount (r 2) ∷ of_two ops.ADD (r 1) (r 2) (r 1)
    ∷ store_low a (r 0) (r 1) ∷ []

abbrev pub put_words : ℕ → (ℕ → ℕ) → ℕ → List Instr
put_words a r value =
    if value == 0
    then high a (r 0) ∷ store_low a (r 0) 0 ∷ []
    else high a (r 0) ∷ high value (r 1) ∷ add_low value (r 1)
    ∷ store_low a (r 0) (r 1) ∷ []

abbrev pub keep_words : ℕ → (ℕ → ℕ) → ℕ → List Instr
keep_words a r reg = high a (r 0) ∷ store_low a (r 0) reg ∷ []

-- Where the codes may change: on unsigned greater the store in the branch's slot is done, else it is annulled.
-- Where they may not: the borrow of cell - register is bit 31 of ~cell & register | (~cell | register) & (cell -
-- register); as 0 or all ones it takes the difference off the cell or not (Warren, "Hacker's Delight", 2-12 and 2-18).
abbrev pub top_words : ℕ → Bool → (ℕ → ℕ) → ℕ → List Instr
top_words a true r reg =
    high a (r 0) ∷ load_low a (r 0) (r 1) ∷ compare reg (r 1) ∷ next_if_greater
    ∷ store_low a (r 0) reg ∷ []
top_words a false r reg =
    high a (r 0) ∷ load_low a (r 0) (r 1) ∷ of_two ops.SUB (r 1) reg (r 2) ∷ of_two ops.ORN reg (r 1) (r 3)
    ∷ of_two ops.AND (r 3) (r 2) (r 3) ∷ of_two ops.ANDN reg (r 1) (r 4) ∷ of_two ops.OR (r 3) (r 4) (r 3)
    ∷ with_number ops.SRA (r 3) (pos 31) (r 3) ∷ of_two ops.AND (r 3) (r 2) (r 3) ∷ of_two ops.SUB (r 1) (r 3) (r 1)
    ∷ store_low a (r 0) (r 1) ∷ []

-- A counter of two words. Where the codes may change, C is the carry. Where they may not, it is bit 31 of the old low
-- word and not the new one, since 1 is added.
abbrev pub count_words : ℕ → Bool → (ℕ → ℕ) → List Instr
count_words a true r =
    high a (r 0) ∷ load_next a (r 0) (r 1) ∷ add_one (r 1) ∷ store_next a (r 0) (r 1)
    ∷ load_low a (r 0) (r 1) ∷ add_carry (r 1) ∷ store_low a (r 0) (r 1) ∷ []
count_words a false r =
    high a (r 0) ∷ load_next a (r 0) (r 1) ∷ with_number ops.ADD (r 1) (pos 1) (r 2) ∷ store_next a (r 0) (r 2)
    ∷ of_two ops.ANDN (r 1) (r 2) (r 1) ∷ with_number ops.SRL (r 1) (pos 31) (r 1)
    ∷ load_low a (r 0) (r 2) ∷ of_two ops.ADD (r 2) (r 1) (r 2) ∷ store_low a (r 0) (r 2) ∷ []

-- A ring behind the cell that has its next place: two shifts keep so many bits of that, times 4.
abbrev pub log_words : ℕ → (ℕ → ℕ) → ℕ → ℕ → List Instr
log_words a r bits value =
    high a (r 0) ∷ load_low a (r 0) (r 1)
    ∷ with_number ops.SLL (r 1) (pos (32 - bits)) (r 2) ∷ with_number ops.SRL (r 2) (pos (30 - bits)) (r 2)
    ∷ of_two ops.ADD (r 0) (r 2) (r 2) ∷ with_number ops.ADD (r 1) (pos 1) (r 1) ∷ store_low a (r 0) (r 1)
    ∷ high value (r 1) ∷ add_low value (r 1) ∷ store_next a (r 2) (r 1) ∷ []

-- an operation, where the first cell stands at `base`
abbrev pub op_words : ℕ → Bool → (ℕ → ℕ) → Op → List Instr
op_words base codes_dead r (Add cell amount) = add_words (cell_at base cell) r amount
op_words base codes_dead r (Put cell value) = put_words (cell_at base cell) r value
op_words base codes_dead r (Keep cell reg) = keep_words (cell_at base cell) r reg
op_words base codes_dead r (Top cell reg) = top_words (cell_at base cell) codes_dead r reg
op_words base codes_dead r (Count cell) = count_words (cell_at base cell) codes_dead r
op_words base codes_dead r (Log cell bits value) = log_words (cell_at base cell) r bits value

abbrev pub all_words : ℕ → Bool → (ℕ → ℕ) → List Op → List Instr
all_words base codes_dead r ops = flat_map (op_words base codes_dead r) ops

-- ---- what it costs: how many words, and in how many registers they work

abbrev pub op_cost : Bool → Op → ℕ
op_cost codes_dead (Add cell amount) = if is_small amount then 4 else 6
op_cost codes_dead (Put cell value) = if value == 0 then 2 else 4
op_cost codes_dead (Keep cell reg) = 2
op_cost codes_dead (Top cell reg) = if codes_dead then 5 else 12
op_cost codes_dead (Count cell) = if codes_dead then 7 else 9
op_cost codes_dead (Log cell bits value) = 10

abbrev pub cost_of_all : Bool → List Op → ℕ
cost_of_all codes_dead [] = 0
cost_of_all codes_dead (op ∷ rest) = op_cost codes_dead op + cost_of_all codes_dead rest

-- and its cost
abbrev pub cost_of : List Part → List Part → List Op → ℕ
cost_of dead avoid ops = cost_of_all (has dead Icc) ops + 2 * spills_of dead avoid ops

-- ---- a whole snippet: what is spilled goes into words of the editor's page, from word 2 on, and comes back

abbrev pub save : ℕ → ℕ → Instr
save n reg = i.Store stores.ST reg 0 (of_page (n + 2))

abbrev pub restore : ℕ → ℕ → Instr
restore n reg = i.Load loads.LD reg 0 (of_page (n + 2))

-- for each register, in order, with its number
abbrev pub numbered : (ℕ → ℕ → Instr) → ℕ → List ℕ → List Instr
numbered f n [] = []
numbered f n (reg ∷ regs) = f n reg ∷ numbered f (suc n) regs

abbrev pub snippet_words : ℕ → List Part → List Part → List Op → List Instr
snippet_words base dead avoid ops =
    let want = registers_for (has dead Icc) ops in
    let out = spilled dead avoid want in
    numbered save 0 out
    ++ (all_words base (has dead Icc) (slice_index (picked dead avoid want)) ops ++ numbered restore 0 out)

-- as they stand in memory
abbrev pub code_of_snippet : ℕ → List Part → List Part → List Op → List ℕ
code_of_snippet base dead avoid ops = map word_of (snippet_words base dead avoid ops)
