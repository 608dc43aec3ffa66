-- The greater of a cell and a register: with the codes, where they are dead, and without.
use Rattle.snippet_code.proofs.Common.{Instr, Region, Says, List, ◌≡◌, ℕ, suc, ◌+◌, ◌-◌, ◌^◌, ◌<◌, ◌≤◌, inl, inr, max, Bool, true, false, Ok, [], ◌∷◌, refl, ap, sym, arith, if◌then◌else◌, nat_lt, pos, nat_tests, AluOp, Codes, alu_of, codes_of, wrapped, State, register_of, register_of-range, equal_or_not, put, put_other, put_same, unpicked_is, Top, holds_of, difference_overflows, cell_at, op_words, low}
use Rattle.v8_decode.specs.declared.Op2.TheVariants as o
use Rattle.v8_decode.specs.declared.AluOp.TheVariants as ops
use Rattle.snippet_code.proofs.Working.{HasWorkspace, WorksWithin}
use Rattle.snippet_code.proofs.Micro.{◌&◌, Source, Doing, as_many, does, load, mine, number, of, operate, other, now, reached, runs, set, store, works_words}
use Rattle.snippet_code.proofs.Blocks.{compares, branches}
use Rattle.snippet_code.proofs.TopValue.{top_of}
use Rattle.snippet_code.proofs.TopValue as laws
use Rattle.snippet_code.proofs.Tops.{top_is_greater}

-- ---- with the codes
compared : (x y : ℕ) (codes : Codes) (z : ℕ) → alu_of ops.SUB true x y codes z
    ≡ Ok (record {
      value = wrapped (2 ^ 33 + x - (y + 0));
      codes = codes_of (wrapped (2 ^ 33 + x - (y + 0)))
          (difference_overflows x y (wrapped (2 ^ 33 + x - (y + 0)))) (nat_lt x (y + 0));
      y = z;
    })
unfolding alu_of
compared x y codes z = refl

-- bgu
is_greater : (x y : ℕ) (v : Bool) → x < 2 ^ 32 → y < 2 ^ 32
    → holds_of 12 (codes_of (wrapped (2 ^ 33 + x - (y + 0))) v (nat_lt x (y + 0))) ≡ nat_lt y x
unfolding holds_of
is_greater x y v lx ly = grind (arith, nat_tests)

-- what is stored or not is what the greater would store
stored_or_not : (a x : ℕ) (g : ℕ → ℕ) (b : Bool) → nat_lt (g a) x ≡ b → (k : ℕ)
    → (if b then put a x g else g) k ≡ put a (max (g a) x) g k
stored_or_not a x g true e k = ap (λ z. put a z g k) (let f : x ≡ max (g a) x = grind (arith, nat_tests) in f)
stored_or_not a x g false e k =
    let m : max (g a) x ≡ g a = grind (arith, nat_tests) in
    elim (equal_or_not k a) [
      | inl h ↦ cc (h, m, put_same a (max (g a) x) g)
      | inr h ↦ sym (put_other a (max (g a) x) g k h)
    ]

-- a word of a list, by its number
at : {code : List Region} {p q : ℕ} {x : Instr} → Says code p x → p ≡ q → Says code q x
at {code = code} {x = x} says e = rw e at says

-- ---- without the codes: each of the words gives the value that the law speaks of

top_is : (k0 : Codes) (y0 cell reg : ℕ) → cell < 2 ^ 32 → reg < 2 ^ 32 →
    laws.alu k0 y0 ops.SUB cell (laws.alu k0 y0 ops.AND (laws.alu k0 y0 ops.SRA (laws.alu k0 y0 ops.OR
    (laws.alu k0 y0 ops.AND (laws.alu k0 y0 ops.ORN reg cell) (laws.alu k0 y0 ops.SUB cell reg))
    (laws.alu k0 y0 ops.ANDN reg cell)) 31) (laws.alu k0 y0 ops.SUB cell reg))
    ≡ max cell reg
unfolding top_of
top_is k0 y0 cell reg lc lr = top_is_greater k0 y0 cell reg lc lr

module _ {s : State} {count : ℕ} {May : ℕ → Type 0} {counted : ℕ → Bool} {r : ℕ → ℕ} {want : ℕ}
    (c : HasWorkspace s count May r want) {n t : ℕ} {g : ℕ → ℕ} {codes : Codes} {f : ℕ → ℕ}
    (w : WorksWithin s count May counted r want n t g codes f) where
  pub top_works : (cells : ℕ) (d : Bool) (cell reg : ℕ)
      → Doing c w cells d (Top cell reg) (op_words cells d r (Top cell reg))
  unfolding alu_of
  top_works cells true cell reg kept h room stand =
      let a = cell_at cells cell in
      let x = register_of s reg in
      let v = wrapped (2 ^ 33 + x - (g a + 0)) in
      let more = difference_overflows x (g a) v in
      let k = codes_of v more (nat_lt x (g a + 0)) in
      let fits = register_of-range s reg c.valid in
      let own = λ (j : ℕ) (b : j < want). h.unpicked reg j refl b in
      let ok = reached h cell (omega arith, omega arith) in
      let enough : 2 ≤ want = h.enough in
      let w1 = runs c reg h.numbers.1 own (set 0 a ∷ load 1 0 (low a) a ∷ []) (now c w) w (omega arith) (omega arith)
      (ok.below & ok.word & tt) (stand.0 & stand.1.0 & tt) in
      let w2 = compares c ops.SUB reg (o.Reg (r 1)) v k w1 (omega arith) (at stand.1.1.0 (omega arith))
      (λ u z. rw (unpicked_is c.block u reg z h.numbers.1 own, z.held.picked 1 (omega arith))
      (compared x (g a) u.codes u.y)) in
      let w3 = branches c 12 reg (r 0) (o.Imm (pos (low a))) a x (nat_lt (g a) x) w2 (omega arith) refl
      (is_greater x (g a) more fits (w.ran.alike.memory.range a ok.word.1.0)) (at stand.1.1.1.0 (omega arith))
      (at stand.1.1.1.1.0 (omega arith)) (λ u h. rw (h.held.picked 0 (omega arith)) ok.word.0) ok.word.1.0
      (λ u z. unpicked_is c.block u reg z h.numbers.1 own) fits ok.word.1.1 in
      record {
        codes = _;
        picked = _;
        works = works_words _ (stored_or_not a x g (nat_lt (g a) x) refl)
            (as_many (let z : suc (suc (suc (n + 2))) ≡ n + 5 = omega arith in z) w3);
        kept = λ z. absurd (cc);
      }
  top_works cells false cell reg kept h room stand =
      let a = cell_at cells cell in
      let x = register_of s reg in
      let d = laws.alu codes s.y ops.SUB (g a) x in
      let e = laws.alu codes s.y ops.ORN x (g a) in
      let l = laws.alu codes s.y ops.AND e d in
      let b = laws.alu codes s.y ops.ANDN x (g a) in
      let o1 = laws.alu codes s.y ops.OR l b in
      let m = laws.alu codes s.y ops.SRA o1 31 in
      let k = laws.alu codes s.y ops.AND m d in
      let fits = register_of-range s reg c.valid in
      let ok = reached h cell (omega arith, omega arith) in
      let small = w.ran.alike.memory.range a ok.word.1.0 in
      let op = λ (op : AluOp) (to : ℕ) (x y : Source) (v : ℕ). operate op false to x (of y) v codes in
      does c w (set 0 a ∷ load 1 0 (low a) a ∷ op ops.SUB 2 (mine 1) other d ∷ op ops.ORN 3 other (mine 1) e
      ∷ op ops.AND 3 (mine 3) (mine 2) l ∷ op ops.ANDN 4 other (mine 1) b ∷ op ops.OR 3 (mine 3) (mine 4) o1
      ∷ operate ops.SRA false 3 (mine 3) (number (pos 31)) m codes ∷ op ops.AND 3 (mine 3) (mine 2) k
      ∷ op ops.SUB 1 (mine 1) (mine 3) (max (g a) x) ∷ store (mine 1) 0 (low a) a ∷ []) reg false _ (λ j. refl) kept
      h.numbers.1 (λ j b. h.unpicked reg j refl b) h.enough room
      (ok.below & ok.word & refl & refl & refl & refl & refl & refl & refl &
      rw (top_is codes s.y (g a) x small fits) refl & (ok.word, omega arith) & tt) stand
