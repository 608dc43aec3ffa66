-- What the words of Top make of two numbers where the codes stay.
use Rattle.snippet_code.proofs.Common.{◌≡◌, ℕ, ◌^◌, ◌<◌, max, false, Ok, AluOp, Codes, alu_of, Result, Err}
use Rattle.v8_decode.specs.declared.AluOp.TheVariants as ops
use Rattle.v8_alu.specs.declared.AluOut.{AluOut}
use Rattle.v8_alu.specs.declared.AluTrap.{AluTrap}

abbrev pub value_of : Result AluOut AluTrap → ℕ
value_of (Ok out) = out.value
value_of (Err trap) = 0

abbrev pub alu : Codes → ℕ → AluOp → ℕ → ℕ → ℕ
alu codes y op a b = value_of (alu_of op false a b codes y)

-- what they make of the cell's value and the register's
unfoldable pub top_of : Codes → ℕ → ℕ → ℕ → ℕ
top_of codes y cell reg =
    let d = alu codes y ops.SUB cell reg in
    let t = alu codes y ops.AND (alu codes y ops.ORN reg cell) d in
    let mask = alu codes y ops.SRA (alu codes y ops.OR t (alu codes y ops.ANDN reg cell)) 31 in
    alu codes y ops.SUB cell (alu codes y ops.AND mask d)

abbrev pub TopIsGreater : Type 0
TopIsGreater = (codes : Codes) (y cell reg : ℕ) → cell < 2 ^ 32 → reg < 2 ^ 32 → top_of codes y cell reg ≡ max cell reg
