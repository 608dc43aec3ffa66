-- In how many registers operations work.
use Rattle.snippet_code.proofs.Common.{◌≡◌, ℕ, ◌+◌, ◌<◌, max, Bool, List, [], ◌∷◌, ◌++◌, length, take, get_or, arith, take_more, Op, op_registers, registers_for}

for-append : (d : Bool) (ops : List Op) (op : Op)
    → registers_for d (ops ++ op ∷ []) ≡ max (registers_for d ops) (op_registers d op)
for-append d [] op = omega arith
for-append d (o ∷ ops) op = let h = for-append d ops op in omega arith

-- one operation more
pub for_more : (d : Bool) (ops : List Op) (i : ℕ) (op : Op) → i < length ops → op ≡ get_or ops i op
    → registers_for d (take (i + 1) ops) ≡ max (registers_for d (take i ops)) (op_registers d op)
for_more d ops i op below is = cc (take_more ops i op below, is, for-append d (take i ops) op)
