-- The values of counters, and the numbers of a flow.
use Rattle.count_rebuild.proofs.Common.{◌≡◌, ℕ, ◌+◌, ◌*◌, ◌^◌, ◌<◌, ◌==◌, false, List, [], ◌∷◌, length, map, get_or, Option, Some, None, refl, ap, sym, ◌∙◌, subst, arith, ℤ, pos, negsuc, nat_abs, slice_index, All, get_or-map, cond_both, false≢true, leb-false, length-map, All-cons, All-nil, int_at, edge_seen, cell_value, counter_value, is_large, is_negative}
use Rattle.notes.specs.declared.note.NoteEdge as declared_edge

-- ---- the values of counters

small_counter : (version : ℕ) (cells : List ℕ) → ((i : ℕ) → get_or cells i 0 < 2 ^ 32) → (cell : ℕ)
    → counter_value version cells cell < 2 ^ 64
small_counter version cells fit cell =
    cond_both (version == 1) (get_or cells cell 0) (2 ^ 32 * get_or cells cell 0 + get_or cells (cell + 1) 0)
    (λ value. value < 2 ^ 64) (λ e. omega (arith, first)) (λ e. omega (arith, first, next))
  where
    first : get_or cells cell 0 < 2 ^ 32
    first = fit cell

    next : get_or cells (cell + 1) 0 < 2 ^ 32
    next = fit (cell + 1)

small_value : (version : ℕ) (cells : List ℕ) → ((i : ℕ) → get_or cells i 0 < 2 ^ 32) → (cell : Option ℕ)
    → nat_abs (cell_value version cells cell) < 2 ^ 64
small_value version cells fit None = omega arith
small_value version cells fit (Some cell) = small_counter version cells fit cell

pub small_values : (version : ℕ) (cells : List ℕ) → ((i : ℕ) → get_or cells i 0 < 2 ^ 32)
    → (edges : List declared_edge.NoteEdge)
    → All (λ value. nat_abs value < 2 ^ 64) (map (λ edge. cell_value version cells (edge_seen edge).cell) edges)
small_values version cells fit [] = All-nil (λ (value : ℤ). nat_abs value < 2 ^ 64)
small_values version cells fit (edge ∷ edges) =
    All-cons (λ (value : ℤ). nat_abs value < 2 ^ 64) (cell_value version cells edge.cell) _
    (small_value version cells fit edge.cell) (small_values version cells fit edges)

-- ---- numbers that aren't below 0

pub whole_value : (z : ℤ) → is_negative z ≡ false → pos (nat_abs z) ≡ z
whole_value (pos n) h = refl
whole_value (negsuc n) h = absurd (false≢true (sym h))

pub whole_flow : (flow : List ℤ) (counts : List ℕ) → counts ≡ map nat_abs flow
    → ((e : ℕ) → is_negative (int_at flow e) ≡ false) → int_at flow ≡ (λ e. pos (slice_index counts e))
whole_flow flow counts are whole = λ i e. at e i
  where
    at : (e : ℕ) → int_at flow e ≡ pos (slice_index counts e)
    at e =
        sym (whole_value (int_at flow e) (whole e))
        ∙ ap pos (sym (ap (λ (counts : List ℕ). slice_index counts e) are ∙ get_or-map nat_abs flow e (pos 0)))

-- ---- numbers of 64 bits

-- numbers that are neither below 0 nor large fit
small_count : (z : ℤ) → is_large z ≡ false → is_negative z ≡ false → nat_abs z < 2 ^ 64
small_count (pos n) small whole = leb-false (2 ^ 64) n small
small_count (negsuc n) small whole = absurd (false≢true (sym whole))

pub small_counts : (flow : List ℤ) (counts : List ℕ) → counts ≡ map nat_abs flow
    → ((e : ℕ) → is_negative (int_at flow e) ≡ false)
    → ((e : ℕ) → e < length flow → is_large (int_at flow e) ≡ false)
    → (e : ℕ) → e < length counts → slice_index counts e < 2 ^ 64
small_counts flow counts are whole small e l =
    let inside : e < length flow = omega (arith, l, ap length are, length-map flow nat_abs) in
    let is : slice_index counts e ≡ nat_abs (int_at flow e) =
    ap (λ (counts : List ℕ). slice_index counts e) are ∙ get_or-map nat_abs flow e (pos 0) in
    subst (λ (n : ℕ). n < 2 ^ 64) (sym is) (small_count (int_at flow e) (small e inside) (whole e))
