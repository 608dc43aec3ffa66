-- How many words a snippet has.
use Rattle.snippet_code.proofs.Common.{◌≡◌, ℕ, suc, ◌-◌, ◌*◌, ◌≤◌, Bool, List, [], ◌∷◌, ◌++◌, length, refl, ap, arith, length-append, length-drop, slice_index, Part, Icc, has, Instr, picked, spilled, spills, Op, length-take, free_live, free_dead, op_words, op_cost, all_words, cost_of_all, cost_of, numbered, save, restore, op_registers, registers_for, CostsHold}
pub use Rattle.snippet_code.proofs.Examples.{one_more}

op_length : (base : ℕ) (d : Bool) (r : ℕ → ℕ) (op : Op) → length (op_words base d r op) ≤ op_cost d op
op_length base d r op = grind arith

all_length : (base : ℕ) (d : Bool) (r : ℕ → ℕ) (ops : List Op) → length (all_words base d r ops) ≤ cost_of_all d ops
all_length base d r [] = omega arith
all_length base d r (op ∷ rest) =
    omega (
      arith,
      length-append (op_words base d r op) (all_words base d r rest),
      op_length base d r op,
      all_length base d r rest,
    )

pub numbered_length : (f : ℕ → ℕ → Instr) (n : ℕ) (regs : List ℕ) → length (numbered f n regs) ≡ length regs
numbered_length f n [] = refl
numbered_length f n (reg ∷ regs) = ap suc (numbered_length f (suc n) regs)

pub spilled_length : (dead avoid : List Part) (want : ℕ) → length (spilled dead avoid want) ≤ spills dead avoid want
spilled_length dead avoid want =
    omega (
      arith,
      length-drop (want - spills dead avoid want) (picked dead avoid want),
      length-take want (free_dead dead avoid ++ free_live dead avoid),
    )

-- ---- a bound for all
op_cost_few : (d : Bool) (op : Op) → op_cost d op ≤ 12
op_cost_few d op = grind arith

op_registers_few : (d : Bool) (op : Op) → op_registers d op ≤ 5
op_registers_few d op = grind arith

pub registers_few : (d : Bool) (ops : List Op) → registers_for d ops ≤ 5
registers_few d [] = omega arith
registers_few d (op ∷ rest) = let a = op_registers_few d op in let b = registers_few d rest in omega arith

all_cost_few : (d : Bool) (ops : List Op) → cost_of_all d ops ≤ 12 * length ops
all_cost_few d [] = omega arith
all_cost_few d (op ∷ rest) = let a = op_cost_few d op in let b = all_cost_few d rest in omega arith

bounded : (dead avoid : List Part) (ops : List Op) → cost_of dead avoid ops ≤ 22 * length ops
bounded dead avoid [] = omega arith
bounded dead avoid (op ∷ rest) =
    let b = registers_few (has dead Icc) (op ∷ rest) in
    omega (arith, all_cost_few (has dead Icc) (op ∷ rest))

pub costs_hold : CostsHold
costs_hold base dead avoid ops =
    let d = has dead Icc in
    let want = registers_for d ops in
    let out = spilled dead avoid want in
    let r : ℕ → ℕ = slice_index (picked dead avoid want) in (
      omega (
        arith,
        length-append (numbered save 0 out) (all_words base d r ops ++ numbered restore 0 out),
        length-append (all_words base d r ops) (numbered restore 0 out),
        numbered_length save 0 out,
        numbered_length restore 0 out,
        all_length base d r ops,
        spilled_length dead avoid want,
      ),
      bounded dead avoid ops,
    )
