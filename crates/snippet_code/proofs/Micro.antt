-- Code without branches as a list of operations on picked registers and words of memory, and what such a list means:
-- an operation of snippets is a list, what each of its words needs, and one equation.
use Rattle.snippet_code.proofs.Common.{◌≡◌, ◌≢◌, ℕ, suc, ◌+◌, ◌*◌, ◌/◌, ◌^◌, ◌<◌, ◌≤◌, max, Bool, false, Ok, List, [], ◌∷◌, length, map, refl, arith, Memory, w32, pos, Op2, AluOp, Instr, Codes, alu_of, wrapped, Region, code_of, State, register_of, operand_of, Op, Says, StandIn, any_of_word, IsAlike, put, unpicked_is, ℤ, cast_unsigned, HasBlock, held_put, stores_none, with_register, cell_at, IsCellIn, low}
use Rattle.v8_decode.specs.declared.Op2.TheVariants as o
use Rattle.v8_decode.specs.declared.Instr.TheVariants as i
use Rattle.v8_decode.specs.declared.LoadKind.TheVariants as loads
use Rattle.v8_decode.specs.declared.StoreKind.TheVariants as stores
use Rattle.code_runs.proofs.Picked as word
use Rattle.snippet_code.proofs.Working.{Does, HasWorkspace, IsFit, WorksWithin, update_one}
use Rattle.snippet_code.proofs.Blocks.{both_act, ld, st, works_step}

infixr 20 ◌&◌
-- both
pub ◌&◌ : {A B : Type 0} → A → B → A × B
h & k = (h, k)

-- a picked register, by its number, or one other register
pub data Source : Type 0 where
  mine : ℕ → Source
  other : Source

pub data Operand : Type 0 where
  of : Source → Operand
  number : ℤ → Operand

-- A register's upper bits set; an operation, with the value and the codes that it gives; a word loaded and one stored, at
-- an address that a register and an offset give.
pub data Micro : Type 0 where
  set : (k n : ℕ) → Micro
  operate : (op : AluOp) (sets : Bool) (k : ℕ) (x : Source) (y : Operand) (v : ℕ) (codes : Codes) → Micro
  load : (k base off a : ℕ) → Micro
  store : (x : Source) (base off a : ℕ) → Micro

-- what memory, the codes and the picked registers hold
pub record Values : Type 0 where
  pub words : ℕ → ℕ
  pub codes : Codes
  pub held : ℕ → ℕ

pub stand_at : (code : List Region) (a b : ℕ) (xs : List Instr) → StandIn code a xs → a ≡ b → StandIn code b xs
stand_at code a b xs h e = rw e at h

-- how many picked registers it needs
abbrev source_needs : Source → ℕ
source_needs (mine k) = suc k
source_needs other = 0

abbrev operand_needs : Operand → ℕ
operand_needs (of x) = source_needs x
operand_needs (number n) = 0

abbrev needs : Micro → ℕ
needs (set k n) = suc k
needs (operate op sets k x y v codes) = max (suc k) (max (source_needs x) (operand_needs y))
needs (load k base off a) = max (suc k) (suc base)
needs (store x base off a) = max (source_needs x) (suc base)

abbrev pub all_need : List Micro → ℕ
all_need [] = 0
all_need (x ∷ xs) = max (needs x) (all_need xs)

-- as many words, by another name
pub as_many : {s : State} {count : ℕ} {May : ℕ → Type 0} {counted : ℕ → Bool} {r : ℕ → ℕ} {want n t m : ℕ}
    {g : ℕ → ℕ} {codes : Codes} {f : ℕ → ℕ} → n ≡ m → WorksWithin s count May counted r want n t g codes f
    → WorksWithin s count May counted r want m t g codes f
as_many e w = rw e at w

-- ---- as words in registers r 0, r 1, .. and q
module _ (r : ℕ → ℕ) (q : ℕ) where
  abbrev register : Source → ℕ
  register (mine k) = r k
  register other = q

  abbrev operand : Operand → Op2
  operand (of x) = o.Reg (register x)
  operand (number n) = o.Imm n

  abbrev pub instr_of : Micro → Instr
  instr_of (set k n) = i.Sethi (r k) (n / 1024)
  instr_of (operate op sets k x y v codes) = i.Alu op sets (r k) (register x) (operand y)
  instr_of (load k base off a) = i.Load loads.LD (r k) (r base) (o.Imm (pos off))
  instr_of (store x base off a) = i.Store stores.ST (register x) (r base) (o.Imm (pos off))

-- ---- what it means, where the other register holds z
module _ (z : ℕ) where
  abbrev value : (ℕ → ℕ) → Source → ℕ
  value f (mine k) = f k
  value f other = z

  abbrev operand_value : (ℕ → ℕ) → Operand → ℕ
  operand_value f (of x) = value f x
  operand_value f (number n) = wrapped (cast_unsigned w32 n)

  abbrev meaning : Micro → Values → Values
  meaning (set k n) m = record m { held = put k (1024 * (n / 1024)) m.held }
  meaning (operate op sets k x y v codes) m = record { words = m.words; codes = codes; held = put k v m.held }
  meaning (load k base off a) m = record m { held = put k (m.words a) m.held }
  meaning (store x base off a) m = record m { words = put a (value m.held x) m.words }

  abbrev pub after : List Micro → Values → Values
  after [] m = m
  after (x ∷ xs) m = after xs (meaning x m)

-- a word that may be stored, and is not counted
abbrev pub IsFree : (ℕ → Type 0) → (ℕ → Bool) → ℕ → Type 0
IsFree May counted a = May a × (any_of_word counted a ≡ false)

-- What it needs beside its registers, where Y is y: that an operation gives the value, that an address is this one, free,
-- and that what is stored is a word.
module _ (May : ℕ → Type 0) (counted : ℕ → Bool) (y z : ℕ) where
  abbrev CanOne : Micro → Values → Type 0
  CanOne (set k n) m = n < 2 ^ 32
  CanOne (operate op sets k a b v codes) m =
      alu_of op sets (value z m.held a) (operand_value z m.held b) m.codes y
      ≡ Ok (record { value = v; codes = codes; y = y })
  CanOne (load k base off a) m = (wrapped (m.held base + wrapped off) ≡ a) × IsFree May counted a
  CanOne (store x base off a) m =
      ((wrapped (m.held base + wrapped off) ≡ a) × IsFree May counted a) × (value z m.held x < 2 ^ 32)

  abbrev pub Can : List Micro → Values → Type 0
  Can [] m = Unit {0}
  Can (x ∷ xs) m = CanOne x m × Can xs (meaning z x m)

-- what they hold in a state that is so
module _ {s : State} {count : ℕ} {r : ℕ → ℕ} {want : ℕ} (c : HasBlock s count r want) (q : ℕ) (low : q < 32)
    (unpicked : (k : ℕ) → k < want → q ≢ r k) {M : Memory → Type 0} {codes : Codes} {f : ℕ → ℕ} (u : State)
    (h : IsAlike s r want M codes f u) where
  source_is : (x : Source) → source_needs x ≤ want → register_of u (register r q x) ≡ value (register_of s q) f x
  source_is (mine k) l = h.held.picked k l
  source_is other l = unpicked_is c u q h low unpicked

  operand_is : (x : Operand) → operand_needs x ≤ want
      → operand_of u (operand r q x) ≡ operand_value (register_of s q) f x
  operand_is (of x) l = source_is x l
  operand_is (number n) l = refl

module _ {s : State} {count : ℕ} {May : ℕ → Type 0} {counted : ℕ → Bool} {r : ℕ → ℕ} {want : ℕ}
    (c : HasWorkspace s count May r want) (q : ℕ) (low : q < 32) (unpicked : (k : ℕ) → k < want → q ≢ r k) where
  step : (x : Micro) (m : Values) {n t : ℕ} → WorksWithin s count May counted r want n t m.words m.codes m.held
      → needs x ≤ want → n < count → CanOne May counted s.y (register_of s q) x m
      → Says (code_of s.memory) (s.pc + 4 * n) (instr_of r q x)
      → (let z = meaning (register_of s q) x m in
      WorksWithin s count May counted r want (suc n) t z.words z.codes z.held)
  step (set k n) m {t = t} w l room can says =
      works_step c t (i.Sethi (r k) (n / 1024)) w (room, says)
      (word.sethi c.block k (n / 1024) (1024 * (n / 1024)) (omega arith) (omega arith)) (λ u h. omega arith)
  step (operate op sets k x y v codes) m {t = t} w l room can says =
      works_step c t (i.Alu op sets (r k) (register r q x) (operand r q y)) w (room, says) (λ u h. record {
        to = record (with_register u (r k) v) { codes = codes };
        acts = both_act u op sets (r k) _ _ v codes (rw (
          source_is c.block q low unpicked u h x (omega arith),
          operand_is c.block q low unpicked u h y (omega arith),
          h.codes_are,
          h.same.y_register,
        ) can);
        plain = λ cond q k z. cc;
        pc = refl;
        npc = refl;
        stores = stores_none May u.memory;
        code = refl;
        there = record {
          same = h.same;
          codes_are = refl;
          held = held_put c.block k v (omega arith) h.same.window h.held;
          memory = h.memory;
        };
      }) (λ u h. omega arith)
  step (load k base off a) m w l room can says =
      ld c k (r base) (o.Imm (pos off)) a w room (omega arith) says
      (λ u h. rw (h.held.picked base (omega arith)) can.0) can.1.0
  step (store x base off a) m {t = t} w l room can says =
      st c t _ (r base) (o.Imm (pos off)) a _ w room says (λ u h. rw (h.held.picked base (omega arith)) can.0.0)
      can.0.1.0 (λ u h. source_is c.block q low unpicked u h x (omega arith)) can.1 (rw can.0.1.1 (omega arith))

  pub runs : (xs : List Micro) (m : Values) {n t : ℕ}
      → WorksWithin s count May counted r want n t m.words m.codes m.held
      → all_need xs ≤ want → n + length xs ≤ count → Can May counted s.y (register_of s q) xs m
      → StandIn (code_of s.memory) (s.pc + 4 * n) (map (instr_of r q) xs)
      → (let z = after (register_of s q) xs m in
      WorksWithin s count May counted r want (n + length xs) t z.words z.codes z.held)
  runs [] m {n = n} w l room can stand = as_many (let e : n ≡ n + 0 = omega arith in e) w
  runs (x ∷ xs) m {n = n} w l room can stand =
      as_many (let e : suc n + length xs ≡ n + suc (length xs) = omega arith in e)
      (runs xs (meaning (register_of s q) x m) (step x m w (omega arith) (omega arith) can.0 stand.0) (omega arith)
      (omega arith) can.1 (stand_at _ (s.pc + 4 * n + 4) (s.pc + 4 * suc n) _ stand.1 (omega arith)))

-- the same words of memory, by another function
pub works_words : {s : State} {count : ℕ} {May : ℕ → Type 0} {counted : ℕ → Bool} {r : ℕ → ℕ} {want n t : ℕ}
    {g : ℕ → ℕ} {codes : Codes} {f : ℕ → ℕ} (g' : ℕ → ℕ) → ((b : ℕ) → g b ≡ g' b)
    → WorksWithin s count May counted r want n t g codes f → WorksWithin s count May counted r want n t g' codes f
works_words {g = g} g' same w = let e : g ≡ g' = λ i b. same b i in rw e at w

-- a cell's word may be stored, isn't counted, and its address has two parts
pub record IsReached (May : ℕ → Type 0) (counted : ℕ → Bool) (a : ℕ) : Type 0 where
  pub below : a < 2 ^ 32
  pub word : (wrapped (1024 * (a / 1024) + wrapped (low a)) ≡ a) × IsFree May counted a

pub reached : {May : ℕ → Type 0} {counted : ℕ → Bool} {r : ℕ → ℕ} {want cells : ℕ} {d : Bool} {op : Op}
    (h : IsFit May counted r want cells d op) (k : ℕ) → IsCellIn op k → IsReached May counted (cell_at cells k)
reached {cells = cells} h k inside =
    let z = h.below in
    let below : cell_at cells k < 2 ^ 32 = omega arith in
    record { below = below; word = (omega (arith, below), (h.cell k inside, h.free k inside)) }

-- ---- one operation
module _ {s : State} {count : ℕ} {May : ℕ → Type 0} {counted : ℕ → Bool} {r : ℕ → ℕ} {want : ℕ}
    (c : HasWorkspace s count May r want) {n t : ℕ} {g : ℕ → ℕ} {codes : Codes} {f : ℕ → ℕ}
    (w : WorksWithin s count May counted r want n t g codes f) where
  abbrev pub now : Values
  now = record { words = g; codes = codes; held = f }

  -- a list whose meaning for memory is g'
  pub does : (xs : List Micro) (q : ℕ) (d : Bool) (g' : ℕ → ℕ)
      → ((k : ℕ) → (after (register_of s q) xs now).words k ≡ g' k)
      → (d ≡ false → (after (register_of s q) xs now).codes ≡ s.codes) → q < 32 → ((k : ℕ) → k < want → q ≢ r k)
      → all_need xs ≤ want → n + length xs ≤ count → Can May counted s.y (register_of s q) xs now
      → StandIn (code_of s.memory) (s.pc + 4 * n) (map (instr_of r q) xs)
      → Does s count May counted r want d (n + length xs) t g'
  does xs q d g' same kept low unpicked enough room can stand = record {
    codes = (after (register_of s q) xs now).codes;
    picked = (after (register_of s q) xs now).held;
    works = works_words g' same (runs c q low unpicked xs now w enough room can stand);
    kept = kept;
  }

  pub not_zero : (k : ℕ) → k < want → 0 ≢ r k
  not_zero k b z = let some = c.block.some k b in absurd (omega arith)

  abbrev pub Doing : (cells : ℕ) (d : Bool) (op : Op) → List Instr → Type 0
  Doing cells d op xs =
      (d ≡ false → codes ≡ s.codes) → IsFit May counted r want cells d op → n + length xs ≤ count
      → StandIn (code_of s.memory) (s.pc + 4 * n) xs
      → Does s count May counted r want d (n + length xs) t (update_one (cell_at cells) (register_of s) op g)
