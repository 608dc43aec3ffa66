-- What is kept of code that works in a few picked registers and in some words of memory, where branches only lead
-- forward.
use Rattle.snippet_code.proofs.Common.{◌≡◌, ◌≢◌, ℕ, suc, ◌+◌, ◌*◌, ◌/◌, ◌%◌, ◌^◌, ◌<◌, ◌≤◌, max, Bool, false, List, [], ◌∷◌, Codes, Memory, NoSlot, State, CanStore, any_of_word, Works, memory_word, put, Op, Add, Put, Keep, Top, Count, Log, IsOp, cells_end, IsValid, count_stores, HasBlock, IsCellIn, kept_word, cell_at, op_registers}

-- ---- blocks

-- `count` words of code that begin where s stands, `want` registers r 0, r 1, .., and words that may be stored
pub record HasWorkspace (s : State) (count : ℕ) (May : ℕ → Type 0) (r : ℕ → ℕ) (want : ℕ) : Type 0 where
  pub block : HasBlock s count r want
  pub valid : IsValid s
  pub slot : s.slot ≡ NoSlot
  pub aligned : (a : ℕ) → May a → a % 4 ≡ 0
  pub can : (a : ℕ) → May a → CanStore s.memory a

-- these words of memory hold g, and may be stored
pub record AreStored (May : ℕ → Type 0) (g : ℕ → ℕ) (memory : Memory) : Type 0 where
  pub can : (a : ℕ) → May a → CanStore memory a
  pub words : (a : ℕ) → May a → memory_word memory a ≡ g a
  pub range : (a : ℕ) → May a → g a < 2 ^ 32

-- Where n words lead, in no more steps than words, of which at most t are stores that are counted.
pub record WorksWithin (s : State) (count : ℕ) (May : ℕ → Type 0) (counted : ℕ → Bool) (r : ℕ → ℕ) (want n t : ℕ)
    (g : ℕ → ℕ) (codes : Codes) (f : ℕ → ℕ) : Type 0 where
  pub steps : ℕ
  pub ran : Works s count May r want steps n (AreStored May g) codes f
  pub stored : count_stores counted s steps ≤ t

-- WorksWithin, with some values in the picked registers, and with the codes as they were unless they are dead
pub record Does (s : State) (count : ℕ) (May : ℕ → Type 0) (counted : ℕ → Bool) (r : ℕ → ℕ) (want : ℕ) (d : Bool)
    (n t : ℕ) (g : ℕ → ℕ) : Type 0 where
  pub codes : Codes
  pub picked : ℕ → ℕ
  pub works : WorksWithin s count May counted r want n t g codes picked
  pub kept : d ≡ false → codes ≡ s.codes

-- ---- operations

-- Words after an operation, where `at` gives the address of a cell.
abbrev pub update_one : (ℕ → ℕ) → (ℕ → ℕ) → Op → (ℕ → ℕ) → ℕ → ℕ
update_one at regs (Add cell amount) g = put (at cell) ((g (at cell) + amount) % 2 ^ 32) g
update_one at regs (Put cell value) g = put (at cell) value g
update_one at regs (Keep cell reg) g = put (at cell) (regs reg) g
update_one at regs (Top cell reg) g = put (at cell) (max (g (at cell)) (regs reg)) g
update_one at regs (Count cell) g =
    let number = (2 ^ 32 * g (at cell) + g (at (cell + 1)) + 1) % 2 ^ 64 in
    put (at (cell + 1)) (number % 2 ^ 32) (put (at cell) (number / 2 ^ 32) g)
update_one at regs (Log cell bits value) g =
    put (at cell) ((g (at cell) + 1) % 2 ^ 32) (put (at (cell + 1 + g (at cell) % 2 ^ bits)) value g)

abbrev pub update_all : (ℕ → ℕ) → (ℕ → ℕ) → List Op → (ℕ → ℕ) → ℕ → ℕ
update_all at regs [] g = g
update_all at regs (op ∷ rest) g = update_all at regs rest (update_one at regs op g)

-- the register that it reads, if it reads one
abbrev pub IsRead : Op → ℕ → Type 0
IsRead (Keep cell reg) q = q ≡ reg
IsRead (Top cell reg) q = q ≡ reg
IsRead _ q = ⊥

-- what it needs: its cells are words that may be stored and aren't counted, and its register isn't picked
pub record IsFit (May : ℕ → Type 0) (counted : ℕ → Bool) (r : ℕ → ℕ) (want base : ℕ) (d : Bool) (op : Op)
    : Type 0 where
  pub cell : (k : ℕ) → IsCellIn op k → May (cell_at base k)
  pub free : (k : ℕ) → IsCellIn op k → any_of_word counted (cell_at base k) ≡ false
  pub below : cell_at base (cells_end op) ≤ 2 ^ 31
  pub unpicked : (q k : ℕ) → IsRead op q → k < want → q ≢ r k
  pub enough : op_registers d op ≤ want
  pub numbers : IsOp op

abbrev pub AreFit : (May : ℕ → Type 0) (counted : ℕ → Bool) (r : ℕ → ℕ) (want base : ℕ) (d : Bool) (ops : List Op)
    → Type 0
AreFit May counted r want base d [] = Unit {0}
AreFit May counted r want base d (op ∷ rest) =
    IsFit May counted r want base d op × AreFit May counted r want base d rest

-- ---- what is spilled

-- these registers are the picked ones from number k on
abbrev pub AreFrom : (ℕ → ℕ) → ℕ → ℕ → List ℕ → Type 0
AreFrom r want k [] = Unit {0}
AreFrom r want k (q ∷ qs) = (k < want) × (q ≡ r k) × AreFrom r want (suc k) qs

-- their words of the page may be stored
abbrev pub HavePage : (ℕ → Type 0) → ℕ → List ℕ → Type 0
HavePage May m [] = Unit {0}
HavePage May m (q ∷ qs) = (m < 5) × May (kept_word m) × HavePage May (suc m) qs

-- words after they were saved
abbrev pub saved : (ℕ → ℕ) → ℕ → List ℕ → (ℕ → ℕ) → ℕ → ℕ
saved regs m [] g = g
saved regs m (q ∷ qs) g = saved regs (suc m) qs (put (kept_word m) (regs q) g)

-- they are saved there
abbrev pub AreSaved : (ℕ → ℕ) → ℕ → List ℕ → (ℕ → ℕ) → Type 0
AreSaved regs m [] g = Unit {0}
AreSaved regs m (q ∷ qs) g = (g (kept_word m) ≡ regs q) × AreSaved regs (suc m) qs g
