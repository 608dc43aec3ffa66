-- Code in picked registers, word by word.
use Rattle.snippet_code.proofs.Common.{◌≡◌, ◌≢◌, ℕ, suc, ◌+◌, ◌*◌, ◌%◌, ◌^◌, ◌<◌, ◌≤◌, ◌⊎◌, inl, inr, Bool, true, false, Ok, Some, refl, ap, sym, ◌∙◌, arith, if◌then◌else◌, ◌==◌, pos, Op2, AluOp, Instr, Codes, alu_of, holds_of, wrapped, Memory, code_of, NoSlot, State, register_of, operand_of, sum_of, store_word, any_of_word, word_span, one_if, IsAlike, Works, memory_word, Says, split_below, equal_or_not, put, put_other, put_same, Taken, with_register, stores_at, stores_in_step, leads_one, leads_then, silent_one, silent_then, Acts, IsNext, goes_on, says_here, stores_next, works_to, word_stored, other_word_stored, still_stored, can_load, memory_word-range, stores_none, stores_then}
use Rattle.v8_decode.specs.declared.Instr.TheVariants as i
use Rattle.v8_decode.specs.declared.LoadKind.TheVariants as loads
use Rattle.v8_decode.specs.declared.StoreKind.TheVariants as stores
use Rattle.v8_step.specs.Transfers.{next, branched, branch_step}
use Rattle.v8_step.specs.Step.{act, step_of, alu_step}
use Rattle.v8_step.specs.Run.{run}
use Rattle.code_runs.specs.Leads.{IsBetween, IsSilent}
use Rattle.code_runs.specs.Points.{moved}
use Rattle.code_runs.proofs.Acts.{says_step, says_puts}
use Rattle.code_runs.proofs.Counted.{says_stores}
use Rattle.code_runs.proofs.Picked as word
use Rattle.snippet_code.proofs.Working.{AreStored, HasWorkspace, WorksWithin}

-- two words at different multiples of 4
pub words_apart : (a b : ℕ) → a ≢ b → a % 4 ≡ 0 → b % 4 ≡ 0 → (a + 4 ≤ b) ⊎ (b + 4 ≤ a)
words_apart a b ne x y = elim (split_below a b) [
  | inl h ↦ inl (omega arith)
  | inr h ↦ inr (omega arith)
]

-- ---- what operations do
pub both_act : (u : State) (op : AluOp) (sets : Bool) (rd rs1 : ℕ) (op2 : Op2) (v : ℕ) (codes : Codes)
    → alu_of op sets (register_of u rs1) (operand_of u op2) u.codes u.y ≡ Ok
    (record { value = v; codes = codes; y = u.y })
    → act u (i.Alu op sets rd rs1 op2) ≡ next (record (with_register u rd v) { codes = codes })
unfolding act alu_step
both_act u op sets rd rs1 op2 v codes e = ap (alu_step u rd) e

branch_acts : (u : State) (cond : ℕ) (b : Bool) → u.slot ≡ NoSlot → (cond == 8) ≡ false → holds_of cond u.codes ≡ b
    → act u (i.Branch cond true (pos 2)) ≡ branched b false true u (wrapped (u.pc + 8))
unfolding act branch_step
branch_acts u cond b slot other e = cc (slot, other, e)

-- a sum is this address wherever a state is so
abbrev pub Sums : (s : State) (May : ℕ → Type 0) (r : ℕ → ℕ) (want rs1 : ℕ) (op2 : Op2) (a : ℕ) (g : ℕ → ℕ)
    (codes : Codes) (f : ℕ → ℕ) → Type 0
Sums s May r want rs1 op2 a g codes f =
    (u : State) → IsAlike s r want (AreStored May g) codes f u → sum_of u rs1 op2 ≡ a

module _ {s : State} {count : ℕ} {May : ℕ → Type 0} {r : ℕ → ℕ} {want : ℕ} (c : HasWorkspace s count May r want) where
  -- a word stored
  words_put : {g : ℕ → ℕ} {memory : Memory} (a v : ℕ) → May a → v < 2 ^ 32 → AreStored May g memory
      → AreStored May (put a v g) (store_word memory a v)
  words_put {g} {memory} a v ok small h = record {
    can = λ b m. still_stored memory b a v (h.can b m);
    words = λ b m. word b m (equal_or_not b a);
    range = λ b m. range b m (equal_or_not b a);
  }
    where
      word : (b : ℕ) → May b → (b ≡ a) ⊎ (b ≢ a) → memory_word (store_word memory a v) b ≡ put a v g b
      word b m (inl e) = ap (memory_word (store_word memory a v)) e ∙ word_stored memory a v small (h.can a ok)
          ∙ sym (put_same a v g) ∙ ap (put a v g) (sym e)
      word b m (inr n) =
          other_word_stored memory b a v (h.can b m) (words_apart b a n (c.aligned b m) (c.aligned a ok))
          ∙ h.words b m ∙ sym (put_other a v g b n)

      range : (b : ℕ) → May b → (b ≡ a) ⊎ (b ≢ a) → put a v g b < 2 ^ 32
      range b m (inl e) = rw (ap (put a v g) e ∙ put_same a v g) small
      range b m (inr n) = rw (put_other a v g b n) (h.range b m)

  -- what a store does
  stores_word : {g : ℕ → ℕ} {codes : Codes} {f : ℕ → ℕ} (rd rs1 : ℕ) (op2 : Op2) (a v : ℕ)
      → Sums s May r want rs1 op2 a g codes f → May a
      → ((u : State) → IsAlike s r want (AreStored May g) codes f u → register_of u rd ≡ v) → v < 2 ^ 32
      → Acts May (i.Store stores.ST rd rs1 op2) (IsAlike s r want (AreStored May g) codes f)
      (IsAlike s r want (AreStored May (put a v g)) codes f)
  stores_word rd rs1 op2 a v sums ok value small =
      word.st c.block rd rs1 op2 a v sums (ap (λ z. z == 0) (c.aligned a ok)) value ok
      (λ m h. (h.can a ok, words_put a v ok small h))

module _ {s : State} {count : ℕ} {May : ℕ → Type 0} {counted : ℕ → Bool} {r : ℕ → ℕ} {want : ℕ}
    (c : HasWorkspace s count May r want) where
  -- before the first word
  pub works_none : WorksWithin s count May counted r want 0 0 (memory_word s.memory) s.codes (λ k. register_of s (r k))
  works_none = record {
    steps = 0;
    ran = word.works_none c.block (record {
      can = c.can;
      words = λ a h. refl;
      range = λ a h. memory_word-range s.memory a c.valid.memory;
    });
    stored = omega arith;
  }

  -- one word more, by what it does beside going on
  pub works_step : {n t : ℕ} {g : ℕ → ℕ} {codes : Codes} {f : ℕ → ℕ} (t' : ℕ) {g' : ℕ → ℕ} {codes' : Codes} {f' : ℕ → ℕ}
      (x : Instr) (w : WorksWithin s count May counted r want n t g codes f) → IsNext s count n x
      → Acts May x (IsAlike s r want (AreStored May g) codes f) (IsAlike s r want (AreStored May g') codes' f')
      → ((u : State) → IsAlike s r want (AreStored May g) codes f u → t + one_if counted (stores_at u x) ≤ t')
      → WorksWithin s count May counted r want (suc n) t' g' codes' f'
  works_step t' x w is acts more =
      let stored = w.stored in
      let last = stores_next c.block counted x w.ran is.1 in
      let paid = more w.ran.after w.ran.alike in
      record { steps = suc w.steps; ran = goes_on c.block w.ran is acts; stored = omega arith }

  -- ---- an operation that sets the codes alone
  pub compares : {n t : ℕ} {g : ℕ → ℕ} {codes : Codes} {f : ℕ → ℕ} (op : AluOp) (rs1 : ℕ) (op2 : Op2) (v : ℕ)
      (codes' : Codes) → WorksWithin s count May counted r want n t g codes f → n < count
      → Says (code_of s.memory) (s.pc + 4 * n) (i.Alu op true 0 rs1 op2)
      → ((u : State) → IsAlike s r want (AreStored May g) codes f u
      → alu_of op true (register_of u rs1) (operand_of u op2) u.codes u.y ≡ Ok
      (record { value = v; codes = codes'; y = u.y })) → WorksWithin s count May counted r want (suc n) t g codes' f
  compares {t = t} op rs1 op2 v codes' w below says e =
      works_step t (i.Alu op true 0 rs1 op2) w (below, says) (λ u h. record {
        to = record u { codes = codes' };
        acts = both_act u op true 0 rs1 op2 v codes' (e u h);
        plain = λ cond q k z. cc;
        pc = refl;
        npc = refl;
        stores = stores_none May u.memory;
        code = refl;
        there = record { same = h.same; codes_are = refl; held = h.held; memory = h.memory };
      }) (λ u h. omega arith)

  -- ---- loads and stores
  pub ld : {n t : ℕ} {g : ℕ → ℕ} {codes : Codes} {f : ℕ → ℕ} (j rs1 : ℕ) (op2 : Op2) (a : ℕ)
      → WorksWithin s count May counted r want n t g codes f → n < count → j < want
      → Says (code_of s.memory) (s.pc + 4 * n) (i.Load loads.LD (r j) rs1 op2)
      → Sums s May r want rs1 op2 a g codes f → May a
      → WorksWithin s count May counted r want (suc n) t g codes (put j (g a) f)
  ld {t = t} {g = g} j rs1 op2 a w below b says sums ok =
      works_step t (i.Load loads.LD (r j) rs1 op2) w (below, says)
      (word.ld c.block j rs1 op2 a (g a) b sums (ap (λ z. z == 0) (c.aligned a ok))
      (λ m h. (can_load m a (h.can a ok), h.words a ok))) (λ u h. omega arith)

  pub st : {n t : ℕ} {g : ℕ → ℕ} {codes : Codes} {f : ℕ → ℕ} (t' rd rs1 : ℕ) (op2 : Op2) (a v : ℕ)
      → WorksWithin s count May counted r want n t g codes f → n < count
      → Says (code_of s.memory) (s.pc + 4 * n) (i.Store stores.ST rd rs1 op2)
      → Sums s May r want rs1 op2 a g codes f → May a
      → ((u : State) → IsAlike s r want (AreStored May g) codes f u → register_of u rd ≡ v) → v < 2 ^ 32
      → t + one_if counted (Some (word_span a)) ≤ t'
      → WorksWithin s count May counted r want (suc n) t' (put a v g) codes f
  st t' rd rs1 op2 a v w below says sums ok value small more =
      works_step t' (i.Store stores.ST rd rs1 op2) w (below, says) (stores_word c rd rs1 op2 a v sums ok value small)
      (λ u h. rw (sums u h) more)

  -- ---- a branch over one store, which is done in its slot where the condition holds
  pub branches : {n t : ℕ} {g : ℕ → ℕ} {codes : Codes} {f : ℕ → ℕ} (cond rd rs1 : ℕ) (op2 : Op2) (a v : ℕ)
      (b : Bool) → WorksWithin s count May counted r want n t g codes f → n + 2 ≤ count → (cond == 8) ≡ false
      → holds_of cond codes ≡ b → Says (code_of s.memory) (s.pc + 4 * n) (i.Branch cond true (pos 2))
      → Says (code_of s.memory) (s.pc + 4 * suc n) (i.Store stores.ST rd rs1 op2)
      → Sums s May r want rs1 op2 a g codes f → May a
      → ((u : State) → IsAlike s r want (AreStored May g) codes f u → register_of u rd ≡ v) → v < 2 ^ 32
      → any_of_word counted a ≡ false
      → WorksWithin s count May counted r want (suc (suc n)) t (if b then put a v g else g) codes f
  branches {n} {t} {g} {codes} {f} cond rd rs1 op2 a v b w room other holds branch store sums ok value small free =
      go b holds
    where
      x : Works s count May r want w.steps n (AreStored May g) codes f
      x = w.ran

      u : State
      u = w.ran.after

      leads : (b : Bool) → holds_of cond codes ≡ b
          → step_of w.ran.after ≡ branched b false true w.ran.after (wrapped (w.ran.after.pc + 8))
      leads b e =
          says_step u (i.Branch cond true (pos 2)) x.alike.same.live (says_here c.block _ x branch)
          ∙ branch_acts u cond b (x.slot (inl c.slot)) other (ap (holds_of cond) x.alike.codes_are ∙ e)

      silent : IsSilent w.ran.after 1
      silent = silent_one u (says_puts u (i.Branch cond true (pos 2)) (λ k l j z. cc) (says_here c.block _ x branch))

      none : stores_in_step counted (run s w.steps) ≤ 0
      none = stores_next c.block counted (i.Branch cond true (pos 2)) x branch

      go : (b : Bool) → holds_of cond codes ≡ b
          → WorksWithin s count May counted r want (suc (suc n)) t (if b then put a v g else g) codes f
      go true e =
          let low = c.block.low in
          let p = x.pc in
          let q = x.npc in
          let h = x.alike in
          let fewer = w.stored in
          let free' = none in
          let mid : State = moved u.npc (wrapped (u.pc + 8)) Taken u in
          let alike : IsAlike s r want (AreStored May g) codes f (moved u.npc (wrapped (u.pc + 8)) Taken u) =
          record { same = h.same; codes_are = h.codes_are; held = h.held; memory = h.memory } in
          let acts = stores_word c rd rs1 op2 a v sums ok value small mid alike in
          let behind : u.npc ≡ s.pc + 4 * suc n = omega arith in
          let here : Says (code_of u.memory) u.npc (i.Store stores.ST rd rs1 op2) = rw (x.code, behind) store in
          let two : step_of mid ≡ next acts.to =
          says_step mid (i.Store stores.ST rd rs1 op2) h.same.live here ∙ acts.acts in
          let last : stores_in_step counted mid ≤ one_if counted (Some (word_span (sum_of mid rs1 op2))) =
          says_stores counted mid (i.Store stores.ST rd rs1 op2) h.same.live here in
          let spared : one_if counted (Some (word_span (sum_of mid rs1 op2))) ≡ 0 =
          rw (sums mid alike, free) refl in
          let there : run s (suc w.steps) ≡ mid = ap step_of x.path.steps ∙ leads true e in
          let past = acts.npc in
          let z = acts.there in
          record {
            steps = suc (suc w.steps);
            ran = works_to c.block x (next acts.to) 2 (suc (suc w.steps)) (suc (suc n)) (omega arith) (omega arith)
                (omega arith) (omega arith)
                (leads_then (IsBetween s count May) u mid (next acts.to) 1 1 (leads_one _ u mid (leads true e))
                (leads_one _ mid (next acts.to) two) (λ _ _. record
                { past = omega arith; before = omega arith; stores = x.stores }))
                (silent_then u mid 1 1 (leads true e) silent
                (silent_one mid (says_puts mid (i.Store stores.ST rd rs1 op2) (λ k l j z. cc) here)))
                (let y : acts.to.npc ≡ s.pc + 4 * suc (suc n) = omega arith in y)
                (let y : wrapped (acts.to.npc + 4) ≡ s.pc + 4 * suc (suc n) + 4 = omega arith in y) refl
                (record { same = z.same; codes_are = z.codes_are; held = z.held; memory = z.memory })
                (stores_then May May s.memory u.memory acts.to.memory (λ y h. h) x.stores acts.stores)
                (acts.code ∙ x.code);
            stored = (let last' : stores_in_step counted (run s (suc w.steps)) ≤ 0 = rw there (omega (arith, last, spared))
                in omega (arith, fewer, free', last'));
          }
      go false e =
          let low = c.block.low in
          let p = x.pc in
          let h = x.alike in
          let fewer = w.stored in
          let free' = none in
          record {
            steps = suc w.steps;
            ran = works_to c.block x (moved (wrapped (u.pc + 8)) (wrapped (u.pc + 12)) u.slot u) 1 (suc w.steps)
                (suc (suc n)) (omega arith) (omega arith) (omega arith) (omega arith) (leads_one _ u _ (leads false e))
                silent (omega arith) (omega arith) (x.slot (inl c.slot))
                (record { same = h.same; codes_are = h.codes_are; held = h.held; memory = h.memory }) x.stores x.code;
            stored = omega (arith, fewer, free');
          }
