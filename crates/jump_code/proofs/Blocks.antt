-- What the proofs of these words share.
use Rattle.jump_code.proofs.Common.{◌≡◌, ◌≢◌, ℕ, suc, ◌+◌, ◌*◌, ◌/◌, ◌%◌, ◌^◌, ◌<◌, ◌≤◌, inl, inr, false, Ok, refl, ap, ◌∙◌, subst, arith, ◌==◌, pos, Op2, Imm, Codes, alu_of, wrapped, Memory, code_of, State, register_of, operand_of, sum_of, IsValid, IsValidMemory, run-valid, page_word, Is, WorksInTwo, StandIn, says_at, Gives, HasTwo, alu, goes_on, in_two, second, sethi, Works, address_into, IsPageWord}
use Rattle.std.proofs.lemmas.Bool.Decides.{nat_tests}
use Rattle.v8_decode.specs.declared.AluOp.TheVariants as ops
pub use Rattle.addr_translate.proofs.TwelveWords.{four}

pub not_four : (n : ℕ) → n % 4 ≢ 0 → (n % 4 == 0) ≡ false
not_four n ne = grind (arith, nat_tests)

-- ---- words of the page

pub word1 : IsPageWord (page_word 1)
word1 = inr (inl refl)

pub word2 : IsPageWord (page_word 2)
word2 = inr (inr (inl refl))

pub word7 : IsPageWord (page_word 7)
word7 = inr (inr (inr (inl refl)))

-- ---- blocks

pub memory_valid : {s : State} {count : ℕ} {May : ℕ → Type 0} {r : ℕ → ℕ} {want k n : ℕ} {m : Memory} {codes : Codes}
    {f : ℕ → ℕ} → IsValid s → Works s count May r want k n (Is m) codes f → IsValidMemory m
memory_valid {s} {k = k} v w =
    let valid = subst IsValid w.path.steps (run-valid s k v) in subst IsValidMemory w.alike.memory valid.memory

-- ---- sums, and addresses

pub gives_sum : (u : State) (rs1 : ℕ) (op2 : Op2) (t : ℕ) → sum_of u rs1 op2 ≡ t → Gives ops.ADD rs1 op2 t u
unfolding alu_of
gives_sum u rs1 op2 t e =
    ap (λ z. Ok (record { value = z; codes = u.codes; y = u.y }))
    ((let f : wrapped (register_of u rs1 + operand_of u op2 + 0) ≡ wrapped (register_of u rs1 + operand_of u op2) = ap
    wrapped (omega arith) in f) ∙ e)

-- the second register takes an address
pub addressed : {s : State} {count a b : ℕ} (c : HasTwo s count a b) {n : ℕ} {m : Memory} {x y : ℕ} (address : ℕ)
    → WorksInTwo s count IsPageWord a b n m x y → address < 2 ^ 32 → suc (suc n) ≤ count
    → StandIn (code_of s.memory) (s.pc + 4 * n) (address_into b address)
    → WorksInTwo s count IsPageWord a b (suc (suc n)) m x address
addressed {s} {b = b} c {n} address w short room stand =
    let high = goes_on c w (omega arith, stand.0)
    (sethi c 1 (address / 1024) (1024 * (address / 1024)) (omega arith)
    (let e : wrapped (1024 * (address / 1024)) ≡ 1024 * (address / 1024) = omega arith in e)) in
    in_two (goes_on c high (omega arith, says_at (code_of s.memory) _ _ _ (omega arith) stand.1.0)
    (alu c 1 ops.ADD b (Imm (pos (address % 1024))) address (omega arith)
    (λ u h. gives_sum u b (Imm (pos (address % 1024))) address
    (ap (λ z. wrapped (z + wrapped (address % 1024))) (second h)
    ∙ (let e : wrapped (1024 * (address / 1024) + wrapped (address % 1024)) ≡ address = omega arith in e))))) refl refl
