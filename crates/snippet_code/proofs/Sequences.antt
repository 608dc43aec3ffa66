-- Operations one after the other, and the registers that are saved before them and loaded after them.
use Rattle.snippet_code.proofs.Common.{◌≡◌, ◌≢◌, ℕ, zero, suc, ◌+◌, ◌*◌, ◌<◌, ◌≤◌, ◌⊎◌, inl, inr, Bool, false, Some, List, [], ◌∷◌, ◌++◌, length, refl, ap, sym, ◌∙◌, subst, arith, length-append, if◌then◌else◌, ◌||◌, Instr, Codes, Region, code_of, State, register_of, sum_of, register_of-range, Says, StandIn, equal_or_not, put, put_other, put_same, Op, any_of_word, word_span, one_if, or_parts, or_from, cell_at, kept_word, of_page, op_words, all_words, numbered, save, restore, low, high}
use Rattle.v8_decode.specs.declared.Instr.TheVariants as i
use Rattle.v8_decode.specs.declared.LoadKind.TheVariants as loads
use Rattle.snippet_code.proofs.Working.{HasWorkspace, WorksWithin, update_all, Does, AreFit, AreFrom, HavePage, saved, AreSaved}
use Rattle.snippet_code.proofs.Micro.{as_many, stand_at}
use Rattle.snippet_code.proofs.OneOperation.{op_works}
use Rattle.snippet_code.proofs.Blocks.{ld, st}

-- ---- words of two lists
pub stand_then : (code : List Region) (a : ℕ) (xs ys : List Instr) → StandIn code a (xs ++ ys)
    → StandIn code a xs × StandIn code (a + 4 * length xs) ys
stand_then code a [] ys h = (tt, rw (let e : a ≡ a + 4 * 0 = omega arith in e) at h)
stand_then code a (x ∷ xs) ys h =
    let p = stand_then code (a + 4) xs ys h.1 in (
      (h.0, p.0),
      rw (let e : a + 4 + 4 * length xs ≡ a + 4 * suc (length xs) = omega arith in e) at p.1,
    )

-- what a store in the page's words costs at most
pub record IsCost (counted : ℕ → Bool) (cost : ℕ) : Type 0 where
  pub one : cost ≤ 1
  pub each : (n : ℕ) → n < 5 → one_if counted (Some (word_span (kept_word n))) ≤ cost
  pub none : ((n : ℕ) → n < 5 → any_of_word counted (kept_word n) ≡ false) → cost ≡ 0

if_below : (b c : Bool) → (c ≡ false → b ≡ false) → (if b then 1 else 0) ≤ (if c then 1 else 0)
if_below b c h = grind arith

if_one : (b : Bool) → (if b then 1 else 0) ≤ 1
if_one b = grind arith

module _ (counted : ℕ → Bool) where
  abbrev any_below : ℕ → Bool
  any_below zero = false
  any_below (suc n) = any_of_word counted (kept_word n) || any_below n

  none_kept : (n : ℕ) → any_below n ≡ false → (k : ℕ) → k < n → any_of_word counted (kept_word k) ≡ false
  none_kept zero e k few = absurd (omega arith)
  none_kept (suc n) e k few =
      let parts = or_parts (any_of_word counted (kept_word n)) (any_below n) e in
      elim (equal_or_not k n) [
        | inl same ↦ rw same parts.0
        | inr other ↦ none_kept n parts.1 k (omega (arith, other))
      ]

  any_none : (n : ℕ) → ((k : ℕ) → k < n → any_of_word counted (kept_word k) ≡ false) → any_below n ≡ false
  any_none zero h = refl
  any_none (suc n) h =
      or_from (any_of_word counted (kept_word n)) (any_below n) (h n (omega arith))
      (any_none n (λ k few. h k (omega (arith, few))))

  pub cost_of_page : (cost : ℕ) × IsCost counted cost
  cost_of_page = (
    if any_below 5 then 1 else 0,
    record {
      one = if_one (any_below 5);
      each = λ n few. if_below (any_of_word counted (kept_word n)) (any_below 5) (λ e. none_kept 5 e n few);
      none = λ h. ap (λ (b : Bool). if b then 1 else 0) (any_none 5 h);
    },
  )

one_more : (cost t n : ℕ) → t + cost + cost * n ≡ t + cost * suc n
one_more cost t n = let e : cost * suc n ≡ cost + cost * n = grind (arith) in omega (arith, e)

page_sum : (u : State) (m : ℕ) → m < 5 → sum_of u 0 (of_page (m + 2)) ≡ kept_word m
page_sum u (suc (suc (suc (suc (suc m))))) h = absurd (omega arith)
page_sum u m h = refl

module _ {s : State} {count : ℕ} {May : ℕ → Type 0} {counted : ℕ → Bool} {r : ℕ → ℕ} {want : ℕ}
    (c : HasWorkspace s count May r want) where
  pub all_work : (cells : ℕ) (d : Bool) (ops : List Op) {n t : ℕ} {g : ℕ → ℕ}
      → Does s count May counted r want d n t g → AreFit May counted r want cells d ops
      → n + length (all_words cells d r ops) ≤ count
      → StandIn (code_of s.memory) (s.pc + 4 * n) (all_words cells d r ops)
      → Does s count May counted r want d (n + length (all_words cells d r ops)) t
      (update_all (cell_at cells) (register_of s) ops g)
  all_work cells d [] {n} {t} {g} w h room stand =
      subst (λ z. Does s count May counted r want d z t g) (let e : n ≡ n + 0 = omega arith in e) w
  all_work cells d (op ∷ rest) {n} {t} {g} w h room stand =
      let code = code_of s.memory in
      let xs = op_words cells d r op in
      let ys = all_words cells d r rest in
      let l : length (xs ++ ys) ≡ length xs + length ys = length-append xs ys in
      let two = stand_then code (s.pc + 4 * n) xs ys stand in
      let one = op_works c w.works cells d op w.kept h.0 (omega arith) two.0 in
      let more = all_work cells d rest one h.1 (omega arith)
      (stand_at code (s.pc + 4 * n + 4 * length xs) (s.pc + 4 * (n + length xs)) ys two.1 (omega arith)) in
      rw (let e : n + length xs + length ys ≡ n + length (xs ++ ys) = omega arith in e) at more

  -- ---- saved before
  pub saves : (cost : ℕ) → IsCost counted cost → (k m : ℕ) (qs : List ℕ) {n t : ℕ} {g : ℕ → ℕ} {codes : Codes}
      → WorksWithin s count May counted r want n t g codes (λ j. register_of s (r j)) → AreFrom r want k qs
      → HavePage May m qs
      → n + length (numbered save m qs) ≤ count → StandIn (code_of s.memory) (s.pc + 4 * n) (numbered save m qs)
      → WorksWithin s count May counted r want (n + length qs) (t + cost * length qs) (saved (register_of s) m qs g) codes
      (λ j. register_of s (r j))
  saves cost is k m [] {n} {t} {g} {codes} w picked page room stand =
      let none : t + cost * 0 ≡ t = omega arith in rw none (as_many (let e : n ≡ n + 0 = omega arith in e) w)
  saves cost is k m (q ∷ qs) {n} {t} {g} {codes} w picked page room stand =
      let paid = is.each m page.0 in
      let one = st c (t + cost) q 0 (of_page (m + 2)) (kept_word m) (register_of s q) w (omega arith) stand.0
      (λ u h. page_sum u m page.0) page.1
      (λ u h. ap (register_of u) picked.1 ∙ h.held.picked k picked.0 ∙ ap (register_of s) (sym picked.1))
      (register_of-range s q c.valid) (omega (arith, paid)) in
      let more = saves cost is (suc k) (suc m) qs one picked.2 page.2 (omega arith)
      (stand_at (code_of s.memory) (s.pc + 4 * n + 4) (s.pc + 4 * suc n) (numbered save (suc m) qs) stand.1
      (omega arith)) in
      rw (← one_more cost t (length qs)) (as_many (let e : suc n + length qs ≡ n + suc (length qs) = omega arith in e) more)

  -- ---- and loaded after
  pub restores : (k m : ℕ) (qs : List ℕ) {n t : ℕ} {g : ℕ → ℕ} {codes : Codes} {f : ℕ → ℕ}
      → WorksWithin s count May counted r want n t g codes f → AreFrom r want k qs → HavePage May m qs
      → AreSaved (register_of s) m qs g
      → n + length (numbered restore m qs) ≤ count → StandIn (code_of s.memory) (s.pc + 4 * n) (numbered restore m qs)
      → (f' : ℕ → ℕ) × WorksWithin s count May counted r want (n + length qs) t g codes f' ×
      ((j : ℕ) → j < k → f' j ≡ f j) × ((j : ℕ) → k ≤ j → j < k + length qs → f' j ≡ register_of s (r j))
  restores k m [] {n} {t} {g} {codes} {f} w picked page held room stand =
      (f, as_many (let e : n ≡ n + 0 = omega arith in e) w, λ j h. refl, λ j h l. absurd (omega arith))
  restores k m (q ∷ qs) {n} {t} {g} {codes} {f} w picked page held room stand =
      let here : Says (code_of s.memory) (s.pc + 4 * n) (i.Load loads.LD (r k) 0 (of_page (m + 2))) = rw picked.1 at
      stand.0 in
      let one =
      ld c k 0 (of_page (m + 2)) (kept_word m) w (omega arith) picked.0 here (λ u h. page_sum u m page.0) page.1
      in
      let more = restores (suc k) (suc m) qs one picked.2 page.2 held.1 (omega arith)
      (stand_at (code_of s.memory) (s.pc + 4 * n + 4) (s.pc + 4 * suc n) (numbered restore (suc m) qs) stand.1
      (omega arith)) in (
        more.0,
        as_many (let e : suc n + length qs ≡ n + suc (length qs) = omega arith in e) more.1,
        λ j h. more.2 j (omega arith) ∙ put_other k (g (kept_word m)) f j (λ e. (omega arith)),
        λ j h l. go more.0 more.2 more.3 j h l (equal_or_not j k),
      )
    where
      go : (f' : ℕ → ℕ) → ((j : ℕ) → j < suc k → f' j ≡ put k (g (kept_word m)) f j)
          → ((j : ℕ) → suc k ≤ j → j < suc k + length qs → f' j ≡ register_of s (r j))
          → (j : ℕ) → k ≤ j → j < k + suc (length qs) → (j ≡ k) ⊎ (j ≢ k) → f' j ≡ register_of s (r j)
      go f' low high j h l (inl e) = cc (e, low k (omega arith), put_same k (g (kept_word m)) f, held.0, picked.1)
      go f' low high j h l (inr ne) = high j (omega arith) (omega arith)
