-- Stores that are counted.
use Rattle.code_runs.proofs.Common.{◌≡◌, ℕ, zero, suc, ◌+◌, ◌<◌, ◌≤◌, Bool, false, ◌||◌, Option, Some, None, List, refl, ap, ◌∙◌, arith, list_any, range_with_len, Instr, Region, code_of, fetch_of, fetch_from, Ending, State, step_of, run, any_byte, stores_at, one_if, on_fetched, unless_over, stores_in_step, count_stores, Says}
use Rattle.code_runs.proofs.Leads.{run_add}

none_within : (counted : ℕ → Bool) (from count : ℕ)
    → ((a : ℕ) → from ≤ a → a < from + count → counted a ≡ false) → list_any counted (range_with_len from count) ≡ false
none_within counted from zero free = refl
none_within counted from (suc count) free =
    ap (λ (b : Bool). b || list_any counted (range_with_len (from + 1) count)) (free from (omega arith) (omega arith))
    ∙ none_within counted (from + 1) count (λ a low high. free a (omega arith) (omega arith))

-- none of whose bytes is counted
pub uncounted_span : (counted : ℕ → Bool) (from count : ℕ)
    → ((a : ℕ) → from ≤ a → a < from + count → counted a ≡ false)
    → any_byte counted (record { from = from; count = count }) ≡ false
unfolding any_byte
uncounted_span counted from count free = none_within counted from count free

over_less : (ending : Option Ending) (n : ℕ) → unless_over ending n ≤ n
over_less None n = omega arith
over_less (Some ending) n = omega arith

-- a step of a word
pub says_stores : (counted : ℕ → Bool) (s : State) (x : Instr) → s.ending ≡ None → Says (code_of s.memory) s.pc x
    → stores_in_step counted s ≤ one_if counted (stores_at s x)
unfolding stores_in_step fetch_of
says_stores counted s x live says =
    let here : on_fetched counted s (fetch_from (code_of s.memory) s.pc) ≡ one_if counted (stores_at s x) =
    ap (on_fetched counted s) says.fetched ∙ ap (λ (z : Instr). one_if counted (stores_at s z)) says.decodes in
    let first = over_less (step_of s).ending (on_fetched counted s (fetch_from (code_of s.memory) s.pc)) in
    let both = over_less s.ending
    (unless_over (step_of s).ending (on_fetched counted s (fetch_from (code_of s.memory) s.pc))) in
    omega (arith, here, first, both)

-- one that ends the run
pub ends_stores : (counted : ℕ → Bool) (s : State) (ending : Ending) → (step_of s).ending ≡ Some ending
    → stores_in_step counted s ≡ 0
unfolding stores_in_step
ends_stores counted s ending over =
    rw over (omega (arith, over_less s.ending 0))

-- that word where the machine stands, in another machine's code
pub stores_there : (counted : ℕ → Bool) (s : State) (code : List Region) (a : ℕ) (x : Instr) → s.ending ≡ None
    → code_of s.memory ≡ code → s.pc ≡ a → Says code a x → stores_in_step counted s ≤ one_if counted (stores_at s x)
stores_there counted s code a x live same at says =
    says_stores counted s x live (rw (same, at) says)

-- a way, and then the next one
pub count_add : (counted : ℕ → Bool) (s t : State) (k : ℕ) → run s k ≡ t → (l : ℕ)
    → count_stores counted s (k + l) ≡ count_stores counted s k + count_stores counted t l
count_add counted s t k e zero = ap (count_stores counted s) (let f : k + 0 ≡ k = omega arith in f) ∙ omega arith
count_add counted s t k e (suc l) =
    let there : run s (k + l) ≡ run t l = rw ((let f : k + l ≡ l + k = omega arith in f), run_add s k l, e) refl in
    let next = ap (count_stores counted s) (let f : k + suc l ≡ suc (k + l) = omega arith in f) in
    omega (arith, next, count_add counted s t k e l, ap (stores_in_step counted) there)

pub count_one : (counted : ℕ → Bool) (s : State) → count_stores counted s 1 ≡ stores_in_step counted s
count_one counted s = omega arith

-- none, where it is no more than none
pub no_stores : (counted : ℕ → Bool) (s : State) (x : Instr) → s.ending ≡ None → Says (code_of s.memory) s.pc x
    → one_if counted (stores_at s x) ≡ 0 → count_stores counted s 1 ≡ 0
no_stores counted s x live says none =
    let one = says_stores counted s x live says in
    let all = count_one counted s in
    omega (arith, one, all, none)

-- ways without such stores
pub none_then : (counted : ℕ → Bool) (s t : State) (k l : ℕ) → run s k ≡ t → count_stores counted s k ≡ 0
    → count_stores counted t l ≡ 0 → count_stores counted s (k + l) ≡ 0
none_then counted s t k l e h g = count_add counted s t k e l ∙ omega (arith, h, g)
