-- Cells as a list, and as words of memory.
use Rattle.snippet_code.proofs.Common.{◌≡◌, ◌≢◌, ℕ, ◌+◌, ◌*◌, ◌/◌, ◌%◌, ◌^◌, ◌<◌, ◌⊎◌, inl, inr, max, List, [], ◌∷◌, length, map, get_or, refl, ap, sym, ◌∙◌, arith, range_with_len, ext_get_or, cases_lt, mod_below, pow_pos, equal_or_not, put, put_other, put_same, Op, Add, Put, Keep, Top, Count, Log, update, cells_end, set, ap₂, get_or-set_same, get_or-set_other, length-set, changed, with_wide, updated_by, cell_of, cell_at, IsCellIn, IsCellOf}
use Rattle.std.proofs.lemmas.List.FromFn.{get_or-map-range_with_len, length-map-range_with_len}
use Rattle.snippet_code.proofs.Working.{update_one, update_all}

-- so many cells, by the words at their addresses
abbrev pub listed : ℕ → ℕ → (ℕ → ℕ) → List ℕ
listed base n g = map (λ k. g (cell_at base k)) (range_with_len 0 n)

pub listed_at : (base n : ℕ) (g : ℕ → ℕ) (k : ℕ) → k < n → get_or (listed base n g) k 0 ≡ g (cell_at base k)
listed_at base n g k below = get_or-map-range_with_len (λ j. g (cell_at base j)) 0 n k k 0 below (omega arith)

listed_length : (base n : ℕ) (g : ℕ → ℕ) → length (listed base n g) ≡ n
listed_length base n g = length-map-range_with_len (λ j. g (cell_at base j)) 0 n

pub listed_same : (base n : ℕ) (g h : ℕ → ℕ) → ((k : ℕ) → k < n → g (cell_at base k) ≡ h (cell_at base k))
    → listed base n g ≡ listed base n h
listed_same base n g h same =
    ext_get_or 0 (listed base n g) (listed base n h) (listed_length base n g ∙ sym (listed_length base n h))
    (λ k below. each k (omega (arith, listed_length base n g)))
  where
    each : (k : ℕ) → k < n → get_or (listed base n g) k 0 ≡ get_or (listed base n h) k 0
    each k below = listed_at base n g k below ∙ same k below ∙ sym (listed_at base n h k below)

-- a word put for a cell
listed_put : (base n : ℕ) (g : ℕ → ℕ) (c v : ℕ) → c < n
    → listed base n (put (cell_at base c) v g) ≡ set (listed base n g) c v
listed_put base n g c v inside =
    ext_get_or 0 (listed base n (put (cell_at base c) v g)) (set (listed base n g) c v)
    (listed_length base n (put (cell_at base c) v g) ∙ sym (length-set (listed base n g) c v ∙ listed_length base n g))
    (λ k below. each k (omega (arith, listed_length base n (put (cell_at base c) v g))) (equal_or_not k c))
  where
    each : (k : ℕ) → k < n → (k ≡ c) ⊎ (k ≢ c)
        → get_or (listed base n (put (cell_at base c) v g)) k 0 ≡ get_or (set (listed base n g) c v) k 0
    each k below (inl e) =
        rw e (listed_at base n (put (cell_at base c) v g) c inside ∙ put_same (cell_at base c) v g
        ∙ sym (get_or-set_same (listed base n g) c v 0 (omega (arith, listed_length base n g))))
    each k below (inr ne) =
        listed_at base n (put (cell_at base c) v g) k below
        ∙ put_other (cell_at base c) v g (cell_at base k) (λ e. ne (let f : k ≡ c = omega arith in f))
        ∙ sym (listed_at base n g k below) ∙ sym (get_or-set_other (listed base n g) c k v 0 ne)

-- a cell changed by its value
listed_changed : (base n : ℕ) (g : ℕ → ℕ) (c : ℕ) (f : ℕ → ℕ) → c < n
    → listed base n (put (cell_at base c) (f (g (cell_at base c))) g) ≡ changed (listed base n g) c f
listed_changed base n g c f inside =
    cc (listed_put base n g c (f (g (cell_at base c))) inside, listed_at base n g c inside)

listed_wide : (base n cell : ℕ) (g : ℕ → ℕ) (number : ℕ) → cell + 1 < n → listed base n
    (put (cell_at base (cell + 1)) (number % 2 ^ 32) (put (cell_at base cell) (number / 2 ^ 32) g))
    ≡ with_wide (listed base n g) cell number
listed_wide base n cell g number inside =
    listed_put base n (put (cell_at base cell) (number / 2 ^ 32) g) (cell + 1) (number % 2 ^ 32) inside
    ∙ ap (λ (cells : List ℕ). set cells (cell + 1) (number % 2 ^ 32))
    (listed_put base n g cell (number / 2 ^ 32) (omega arith))

-- a ring's place, and then the cell before it
listed_ring : (base n cell place value : ℕ) (g : ℕ → ℕ) (f : ℕ → ℕ) → cell < place → place < n
    → listed base n (put (cell_at base cell) (f (g (cell_at base cell))) (put (cell_at base place) value g))
    ≡ changed (set (listed base n g) place value) cell f
listed_ring base n cell place value g f before inside =
    let cells = listed base n g in
    listed_put base n (put (cell_at base place) value g) cell (f (g (cell_at base cell))) (omega arith)
    ∙ ap (λ (z : List ℕ). set z cell (f (g (cell_at base cell)))) (listed_put base n g place value inside)
    ∙ ap (λ z. set (set cells place value) cell (f z)) (sym (listed_at base n g cell (omega arith))
    ∙ sym (get_or-set_other cells place cell value 0 (λ e. omega arith)))

listed_one : (base n : ℕ) (regs : ℕ → ℕ) (op : Op) (g : ℕ → ℕ) → ((k : ℕ) → IsCellIn op k → k < n)
    → listed base n (update_one (cell_at base) regs op g) ≡ updated_by regs op (listed base n g)
listed_one base n regs (Add cell amount) g inside =
    listed_changed base n g cell (λ v. (v + amount) % 2 ^ 32) (inside cell (omega arith, omega arith))
listed_one base n regs (Put cell value) g inside =
    listed_changed base n g cell (λ v. value) (inside cell (omega arith, omega arith))
listed_one base n regs (Keep cell reg) g inside =
    listed_changed base n g cell (λ v. regs reg) (inside cell (omega arith, omega arith))
listed_one base n regs (Top cell reg) g inside =
    listed_changed base n g cell (λ v. max v (regs reg)) (inside cell (omega arith, omega arith))
listed_one base n regs (Count cell) g inside =
    let next = inside (cell + 1) (omega arith, omega arith) in
    listed_wide base n cell g ((2 ^ 32 * g (cell_at base cell) + g (cell_at base (cell + 1)) + 1) % 2 ^ 64) next
    ∙ ap₂ (λ x y. with_wide (listed base n g) cell ((2 ^ 32 * x + y + 1) % 2 ^ 64))
    (sym (listed_at base n g cell (omega arith))) (sym (listed_at base n g (cell + 1) next))
listed_one base n regs (Log cell bits value) g inside =
    let place = cell + 1 + g (cell_at base cell) % 2 ^ bits in
    let small = mod_below (g (cell_at base cell)) (2 ^ bits) (pow_pos bits) in
    let within = inside place (omega arith, omega arith) in
    listed_ring base n cell place value g (λ v. (v + 1) % 2 ^ 32) (omega arith) within
    ∙ ap (λ z. changed (set (listed base n g) (cell + 1 + z % 2 ^ bits) value) cell (λ v. (v + 1) % 2 ^ 32))
    (sym (listed_at base n g cell (omega arith)))

pub listed_all : (base n : ℕ) (regs : ℕ → ℕ) (ops : List Op) (g : ℕ → ℕ) → ((k : ℕ) → IsCellOf ops k → k < n)
    → listed base n (update_all (cell_at base) regs ops g) ≡ update regs ops (listed base n g)
listed_all base n regs [] g inside = refl
listed_all base n regs (op ∷ rest) g inside =
    listed_all base n regs rest (update_one (cell_at base) regs op g) (λ k h. inside k (inr h))
    ∙ ap (update regs rest) (listed_one base n regs op g (λ k h. inside k (inl h)))

-- ---- what stays

-- another address
away : (b v : ℕ) (g : ℕ → ℕ) (a : ℕ) → b ≢ a → put b v g a ≡ g a
away b v g a ne = put_other b v g a (λ e. ne (sym e))

one_away : (base : ℕ) (regs : ℕ → ℕ) (op : Op) (g : ℕ → ℕ) (a : ℕ)
    → ((k : ℕ) → IsCellIn op k → cell_at base k ≢ a) → update_one (cell_at base) regs op g a ≡ g a
one_away base regs (Count cell) g a far =
    let number = (2 ^ 32 * g (cell_at base cell) + g (cell_at base (cell + 1)) + 1) % 2 ^ 64 in
    away (cell_at base (cell + 1)) (number % 2 ^ 32) (put (cell_at base cell) (number / 2 ^ 32) g) a
    (far (cell + 1) (omega arith, omega arith))
    ∙ away (cell_at base cell) (number / 2 ^ 32) g a (far cell (omega arith, omega arith))
one_away base regs (Log cell bits value) g a far =
    let place = cell + 1 + g (cell_at base cell) % 2 ^ bits in
    let small = mod_below (g (cell_at base cell)) (2 ^ bits) (pow_pos bits) in
    away (cell_at base cell) ((g (cell_at base cell) + 1) % 2 ^ 32) (put (cell_at base place) value g) a
    (far cell (omega arith, omega arith)) ∙ away (cell_at base place) value g a (far place (omega arith, omega arith))
one_away base regs op g a far = away _ _ g a (far (cell_of op) (omega arith, omega arith))

pub all_away : (base : ℕ) (regs : ℕ → ℕ) (ops : List Op) (g : ℕ → ℕ) (a : ℕ)
    → ((k : ℕ) → IsCellOf ops k → cell_at base k ≢ a) → update_all (cell_at base) regs ops g a ≡ g a
all_away base regs [] g a far = refl
all_away base regs (op ∷ rest) g a far =
    all_away base regs rest (update_one (cell_at base) regs op g) a (λ k h. far k (inr h))
    ∙ one_away base regs op g a (λ k h. far k (inl h))

-- whether a cell is worked on
in_or_not : (op : Op) (k : ℕ) → IsCellIn op k ⊎ (IsCellIn op k → ⊥)
in_or_not op k = elim (cases_lt k (cell_of op)) [
  | inl low ↦ inr (λ h. omega (arith, h.0))
  | inr from ↦ elim (cases_lt k (cells_end op)) [
    | inl below ↦ inl (from, below)
    | inr past ↦ inr (λ h. omega (arith, h.1))
  ]
]

pub cell_or_not : (ops : List Op) (k : ℕ) → IsCellOf ops k ⊎ (IsCellOf ops k → ⊥)
cell_or_not [] k = inr (λ h. h)
cell_or_not (op ∷ rest) k = elim (in_or_not op k) [
  | inl h ↦ inl (inl h)
  | inr out ↦ elim (cell_or_not rest k) [
    | inl h ↦ inl (inr h)
    | inr none ↦ inr (λ h. elim h [ inl i ↦ out i | inr j ↦ none j ])
  ]
]
