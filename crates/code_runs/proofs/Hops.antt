-- Several blocks in one, and jumps through a register that is kept in memory meanwhile.
use Rattle.code_runs.proofs.Common.{◌≡◌, ◌≢◌, ℕ, zero, suc, ◌+◌, ◌*◌, ◌%◌, ◌<◌, ◌⊎◌, inl, inr, true, Option, List, refl, ap, sym, ◌∙◌, subst, arith, ◌==◌, slice_index, ext_get_or, Op2, Codes, Memory, code_of, place_of, register_set, Ending, Slot, NoSlot, State, register_of, with_register, sum_of, next, delayed, step_of, memory_word, CanLoad, Leads, IsBetween, IsSilent, AreHeld, IsAlike, Works, Is, Says, hopped, Hops}
use Rattle.v8_decode.specs.declared.Instr.TheVariants as i
use Rattle.v8_decode.specs.declared.LoadKind.TheVariants as loads
pub use Rattle.v8_windows.proofs.Places.{in_place}
use Rattle.code_runs.proofs.Acts.{says_step, says_puts, ld_acts, jump_acts}
use Rattle.code_runs.proofs.Leads.{leads_one, leads_then, silent_one, silent_then}
use Rattle.code_runs.proofs.Picked.{HasBlock, equal_or_not, held_put, put, put_other, put_same, says_here, unpicked_is}

-- one of the first picked numbers, or none of them
pub picked_or_not : (r : ℕ → ℕ) (want q : ℕ) → ((k : ℕ) × (k < want) × (q ≡ r k)) ⊎ ((k : ℕ) → k < want → q ≢ r k)
picked_or_not r zero q = inr (λ k b. absurd (omega arith))
picked_or_not r (suc n) q = elim (equal_or_not q (r n)) [
  | inl e ↦ inl (n, omega arith, e)
  | inr ne ↦ elim (picked_or_not r n q) [
    | inl h ↦ inl (h.0, (let b = h.1 in omega arith), h.2)
    | inr none ↦ inr (λ k b. elim (equal_or_not k n) [
      | inl e ↦ rw e ne
      | inr o ↦ none k (omega arith)
    ])
  ]
]

-- ---- the state that was reached, as a whole
same_state : (u : State) (pc npc : ℕ) (slot : Slot) (registers : List ℕ) (window valid : ℕ) (codes : Codes) (y : ℕ)
    (memory : Memory) (input : List ℕ) (ending : Option Ending)
    → u.pc ≡ pc → u.npc ≡ npc → u.slot ≡ slot → u.registers ≡ registers → u.window ≡ window → u.valid ≡ valid
    → u.codes ≡ codes → u.y ≡ y → u.memory ≡ memory → u.input ≡ input → u.ending ≡ ending
    → u ≡ record { pc = pc; npc = npc; slot = slot; registers = registers; window = window; valid = valid; codes = codes; y = y; memory = memory; input = input; ending = ending }
same_state u pc npc slot registers window valid codes y memory input ending e1 e2 e3 e4 e5 e6 e7 e8 e9 e10 e11 =
    rw (← e1, ← e2, ← e3, ← e4, ← e5, ← e6, ← e7, ← e8, ← e9, ← e10, ← e11) refl

module _ {s : State} {count : ℕ} {r : ℕ → ℕ} {want : ℕ} (c : HasBlock s count r want) where
  -- registers that hold the same are the same
  held_same : {f : ℕ → ℕ} (us qs : List ℕ) → AreHeld s r want f us s.window → AreHeld s r want f qs s.window → us ≡ qs
  held_same us qs h g = ext_get_or 0 us qs (h.count ∙ sym g.count)
      (λ p l. at p (picked_or_not (λ k. place_of s.window (r k)) want p))
    where
      at : (p : ℕ) → ((k : ℕ) × (k < want) × (p ≡ place_of s.window (r k)))
          ⊎ ((k : ℕ) → k < want → p ≢ place_of s.window (r k)) → slice_index us p ≡ slice_index qs p
      at p (inl (k, b, e)) =
          rw e (sym (in_place us s.window (r k) (c.some k b)) ∙ h.picked k b ∙ sym (g.picked k b)
          ∙ in_place qs s.window (r k) (c.some k b))
      at p (inr none) = h.others p none ∙ sym (g.others p none)

  -- where words lead, by the registers that hold such values
  works_is : {May : ℕ → Type 0} {k n : ℕ} {m : Memory} {f : ℕ → ℕ} (qs : List ℕ) → AreHeld s r want f qs s.window
      → (w : Works s count May r want k n (Is m) s.codes f) → 0 < n
      → w.after ≡ record s
      { pc = s.pc + 4 * n; npc = s.pc + 4 * n + 4; slot = NoSlot; registers = qs; memory = m }
  works_is {f = f} qs is w some =
      let h = w.alike in
      let b = h.same in
      same_state w.after _ _ _ qs _ _ _ _ _ _ s.ending w.pc w.npc (w.slot (inr some))
      (held_same w.after.registers qs
      (subst (AreHeld s r want f w.after.registers) b.window h.held) is)
      b.window b.valid h.codes_are b.y_register h.memory b.input (b.live ∙ sym c.ready.live)

  -- all as it was but for one register
  pub works_state : {May : ℕ → Type 0} {k n : ℕ} {m : Memory} {f : ℕ → ℕ} (j v : ℕ) → j < want
      → (w : Works s count May r want k n (Is m) s.codes f)
      → ((i : ℕ) → i < want → f i ≡ put j v (λ k. register_of s (r k)) i) → 0 < n
      → w.after ≡ record (with_register s (r j) v)
      { pc = s.pc + 4 * n; npc = s.pc + 4 * n + 4; slot = NoSlot; memory = m }
  works_state j v b w same some =
      let h = held_put c j v b refl (record { count = c.registers; picked = λ k l. refl; others = λ p ne. refl }) in
      works_is (register_set s.registers s.window (r j) v)
      (record { count = h.count; picked = λ i l. h.picked i l ∙ sym (same i l); others = h.others }) w some

  -- all as it was
  pub works_same : {May : ℕ → Type 0} {k n : ℕ} {m : Memory} {f : ℕ → ℕ}
      (w : Works s count May r want k n (Is m) s.codes f) → ((i : ℕ) → i < want → f i ≡ register_of s (r i)) → 0 < n
      → w.after ≡ record s { pc = s.pc + 4 * n; npc = s.pc + 4 * n + 4; slot = NoSlot; memory = m }
  works_same w same some =
      works_is s.registers (record { count = c.registers; picked = λ i l. sym (same i l); others = λ p ne. refl }) w some

  -- a register that is as it was
  pub read_is : {M : Memory → Type 0} {codes : Codes} {f : ℕ → ℕ} (u : State) (q : ℕ) → IsAlike s r want M codes f u
      → q < 32 → ((k : ℕ) → k < want → q ≡ r k → f k ≡ register_of s (r k)) → register_of u q ≡ register_of s q
  read_is {f = f} u q h low same = go (picked_or_not r want q)
    where
      go : ((k : ℕ) × (k < want) × (q ≡ r k)) ⊎ ((k : ℕ) → k < want → q ≢ r k) → register_of u q ≡ register_of s q
      go (inl (k, b, e)) = rw e (h.held.picked k b ∙ same k b e)
      go (inr none) = unpicked_is c u q h low none

  -- a jump through a picked register, which is loaded back in the jump's slot
  pub hops_through : {May : ℕ → Type 0} {n : ℕ} {m : Memory} {f : ℕ → ℕ} (j to : ℕ) (through back : Op2) (address : ℕ)
      (w : Works s count May r want n n (Is m) s.codes f) → j < want
      → ((k : ℕ) → k < want → k ≢ j → f k ≡ register_of s (r k)) → 0 < n → n + 2 ≡ count
      → (to % 4 == 0) ≡ true → Says (code_of s.memory) (s.pc + 4 * n) (i.Jmpl 0 (r j) through)
      → Says (code_of s.memory) (s.pc + 4 * suc n) (i.Load loads.LD (r j) 0 back)
      → ((u : State) → IsAlike s r want (Is m) s.codes f u → sum_of u (r j) through ≡ to)
      → ((u : State) → sum_of u 0 back ≡ address) → (address % 4 == 0) ≡ true → CanLoad m address
      → memory_word m address ≡ register_of s (r j)
      → Hops s count May to m
  hops_through {May = May} {n = n} {m = m} {f = f} j to through back address w b same some whole four jump load target sums aligned can value =
      let h = w.alike in
      let z = h.same in
      let p = w.pc in
      let q = w.npc in
      let l = c.low in
      let v = register_of s (r j) in
      let s2 = delayed (with_register w.after 0 w.after.pc) to in
      let jump_here = says_here c (i.Jmpl 0 (r j) through) w jump in
      let behind : w.after.npc ≡ s.pc + 4 * suc n = omega arith in
      let load_here : Says (code_of w.after.memory) w.after.npc (i.Load loads.LD (r j) 0 back) = rw (w.code, behind) load in
      let one : step_of w.after ≡ s2 = says_step w.after (i.Jmpl 0 (r j) through) z.live jump_here
      ∙ jump_acts w.after 0 (r j) through to (w.slot (inr some)) (target w.after h) four in
      let two : step_of s2 ≡ next (with_register s2 (r j) v) =
      says_step s2 (i.Load loads.LD (r j) 0 back) z.live load_here
      ∙ ld_acts s2 (r j) 0 back address (sums s2) aligned (rw h.memory can)
      ∙ ap (λ x. next (with_register s2 (r j) x)) (ap (λ (x : Memory). memory_word x address) h.memory ∙ value) in
      let held = held_put c j v b refl (subst (AreHeld s r want f w.after.registers) z.window h.held) in
      let there : next (with_register s2 (r j) v) ≡ hopped s to m =
      same_state (next (with_register s2 (r j) v)) _ _ _ s.registers _ _ _ _ _ _ s.ending refl refl refl
      (rw z.window (held_same (register_set w.after.registers s.window (r j) v) s.registers held
      (record { count = c.registers; picked = λ k x. back_again k x (equal_or_not k j); others = λ x ne. refl })))
      z.window z.valid h.codes_are z.y_register h.memory z.input (z.live ∙ sym c.ready.live) in
      let last = leads_then (IsBetween s count May) w.after s2 (hopped s to m) 1 1 (leads_one _ w.after s2 one)
      (leads_one _ s2 _ (two ∙ there)) (λ _ _. record { past = omega arith; before = omega arith; stores = w.stores }) in
      record {
        path = subst (λ x. Leads (IsBetween s count May) s (hopped s to m) x) whole
            (leads_then (IsBetween s count May) s w.after (hopped s to m) n 2 w.path last
            (λ _ _. record { past = omega arith; before = omega arith; stores = w.stores }));
        silent = subst (λ x. IsSilent s x) whole
            (silent_then s w.after n 2 w.path.steps w.silent
            (silent_then w.after s2 1 1 one (silent_one w.after
            (says_puts w.after (i.Jmpl 0 (r j) through) (λ cond k x e. cc) jump_here)) (silent_one s2
            (says_puts s2 (i.Load loads.LD (r j) 0 back) (λ cond k x e. cc) load_here))));
        stores = rw h.memory at w.stores;
      }
    where
      back_again : (k : ℕ) → k < want → (k ≡ j) ⊎ (k ≢ j) → register_of s (r k) ≡ put j (register_of s (r j)) f k
      back_again k x (inl e) =
          ap (λ q. register_of s (r q)) e ∙ sym (put_same j (register_of s (r j)) f)
          ∙ ap (put j (register_of s (r j)) f) (sym e)
      back_again k x (inr ne) = sym (same k x ne) ∙ sym (put_other j (register_of s (r j)) f k ne)
