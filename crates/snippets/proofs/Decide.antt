-- What a snippet makes of the cells depends on the registers alone that it names.
use Rattle.snippets.proofs.Common.{◌≡◌, ℕ, zero, suc, ◌<◌, true, max, List, [], ◌∷◌, refl, ap, sym, ◌∙◌, arith, All, and_from, lt-ltb, or_left, or_right, Reg, has, is_member, is_same, Op, Add, Put, Keep, Top, Count, Log, changed, read_by, update, updated_by, IsOp, NamedRegistersDecide}
use Rattle.v8_decode.proofs.Members.{has-members, is_same-self}
pub use Rattle.snippets.proofs.Examples.{carries}

module _ (f h : ℕ → ℕ) (same_zero : f 0 ≡ h 0) where
  abbrev AreSameOn : List Op → Type 0
  AreSameOn ops = (r : ℕ) → has (read_by ops) (Reg r) ≡ true → is_member (Reg r) ≡ true → f r ≡ h r

  one : (reg : ℕ) → reg < 32 → ((r : ℕ) → r ≡ reg → is_member (Reg r) ≡ true → f r ≡ h r) → f reg ≡ h reg
  one zero low same = same_zero
  one (suc r) low same = same (suc r) refl (and_from _ _ (lt-ltb 0 (suc r) (omega arith)) (lt-ltb (suc r) 32 low))

  is_first : (reg r : ℕ) (ops : List Op) → r ≡ reg → has (Reg reg ∷ read_by ops) (Reg r) ≡ true
  is_first reg r ops e = or_left _ _ (ap (λ (n : ℕ). is_same (Reg r) (Reg n)) (sym e) ∙ is_same-self (Reg r))

  one_same : (op : Op) (ops : List Op) → IsOp op → AreSameOn (op ∷ ops) → (cells : List ℕ)
      → updated_by f op cells ≡ updated_by h op cells
  one_same (Add cell amount) ops is same cells = refl
  one_same (Put cell new) ops is same cells = refl
  one_same (Keep cell reg) ops is same cells =
      ap (λ (v : ℕ). changed cells cell (λ value. v)) (one reg is.1 (λ r e m. same r (is_first reg r ops e) m))
  one_same (Top cell reg) ops is same cells =
      ap (λ (v : ℕ). changed cells cell (λ value. max value v))
      (one reg is.1 (λ r e m. same r (is_first reg r ops e) m))
  one_same (Count cell) ops is same cells = refl
  one_same (Log cell bits value) ops is same cells = refl

  rest_same : (op : Op) (ops : List Op) → AreSameOn (op ∷ ops) → AreSameOn ops
  rest_same (Add cell amount) ops same r is m = same r is m
  rest_same (Put cell new) ops same r is m = same r is m
  rest_same (Count cell) ops same r is m = same r is m
  rest_same (Log cell bits value) ops same r is m = same r is m
  rest_same (Keep cell reg) ops same r is m = same r (or_right _ _ is) m
  rest_same (Top cell reg) ops same r is m = same r (or_right _ _ is) m

  update_same : (ops : List Op) (cells : List ℕ) → All IsOp ops → AreSameOn ops → update f ops cells ≡ update h ops cells
  update_same [] cells are same = refl
  update_same (op ∷ ops) cells are same =
      ap (update f ops) (one_same op ops (are 0 op (omega arith)) same cells)
      ∙ update_same ops (updated_by h op cells) (λ k d l. are (suc k) d (omega (arith, l))) (rest_same op ops same)

pub decide : NamedRegistersDecide
decide f h ops cells are zero_same same =
    update_same f h zero_same ops cells are
    (λ r reads member. same r (has-members (has (read_by ops)) (Reg r) ∙ and_from _ _ member reads))
