-- Items of a state beside picked registers.
use Rattle.snippet_code.proofs.Common.{◌≡◌, ◌≢◌, ℕ, ◌-◌, ◌<◌, ◌≤◌, ◌⊎◌, inl, inr, Bool, true, false, ◌||◌, List, [], ◌∷◌, refl, ap, sym, ◌∙◌, arith, slice_index, nat_tests, Part, has, Codes, State, register_of, StateItem, Register, CodesItem, YRegister, IsAmong, IsSameAt, IsAlike, split_below, ArePicked, is_same, item_of}
use Rattle.v8_decode.specs.declared.Part.TheVariants as parts
use Rattle.v8_windows.specs.Registers.{place_of, register_in}
use Rattle.code_runs.proofs.Hops.{in_place, picked_or_not}
use Rattle.snippet_code.proofs.Working.{AreStored, HasWorkspace}

among : (w : ℕ) (ps : List Part) (q : ℕ) → has ps (parts.Reg q) ≡ true → IsAmong (Register (place_of w q)) w ps
among w [] q e = absurd (cc)
among w (p ∷ ps) q e = go p (is_same (parts.Reg q) p) refl e (among w ps q)
  where
    go : (z : Part) (b : Bool) → is_same (parts.Reg q) z ≡ b → (b || has ps (parts.Reg q)) ≡ true
        → (has ps (parts.Reg q) ≡ true → IsAmong (Register (place_of w q)) w ps)
        → (item_of w z ≡ Register (place_of w q)) ⊎ IsAmong (Register (place_of w q)) w ps
    go (parts.Reg x) true f k rec =
        inl (ap (λ n. Register (place_of w n)) (let d : x ≡ q = grind (arith, nat_tests) in d))
    go z true f k rec = absurd (cc)
    go z false f k rec = inr (rec k)

codes_among : (w : ℕ) (ps : List Part) → has ps parts.Icc ≡ true → IsAmong CodesItem w ps
codes_among w [] e = absurd (cc)
codes_among w (p ∷ ps) e = go p e (codes_among w ps)
  where
    go : (z : Part) → (is_same parts.Icc z || has ps parts.Icc) ≡ true
        → (has ps parts.Icc ≡ true → IsAmong CodesItem w ps) → (item_of w z ≡ CodesItem) ⊎ IsAmong CodesItem w ps
    go parts.Icc k rec = inl refl
    go z k rec = inr (rec k)

-- An item that isn't dead stays: a picked register that isn't dead has its value again, and the others kept theirs.
pub item_stays : {s : State} {count : ℕ} {May : ℕ → Type 0} {want : ℕ} {dead avoid : List Part} {regs : List ℕ}
    {spilled : ℕ} {g : ℕ → ℕ} {codes : Codes} {f : ℕ → ℕ} (c : HasWorkspace s count May (slice_index regs) want)
    (p : ArePicked dead avoid want regs spilled)
    → ((j : ℕ) → want - spilled ≤ j → j < want → f j ≡ register_of s (slice_index regs j))
    → (u : State) → IsAlike s (slice_index regs) want (AreStored May g) codes f u → (has dead parts.Icc ≡ false → codes ≡ s.codes)
    → (y : StateItem) → (IsAmong y s.window dead → ⊥) → IsSameAt y s u
item_stays {s} {want = want} {dead = dead} {regs = regs} {spilled = spilled} {f = f} c p back u h kept (Register n) ne =
    go (picked_or_not (λ k. place_of s.window (slice_index regs k)) want n)
  where
    r : ℕ → ℕ
    r = slice_index regs

    same : (k : ℕ) → k < want → (k < want - spilled) ⊎ (want - spilled ≤ k) → n ≡ place_of s.window (slice_index regs k)
        → slice_index s.registers n ≡ slice_index u.registers n
    same k b (inl l) e = absurd (ne (rw e (among s.window dead (slice_index regs k) (p.dead_first k l))))
    same k b (inr l) e =
        let g : register_of u (slice_index regs k) ≡ register_of s (slice_index regs k) = h.held.picked k b ∙ back k l b in
        ap (slice_index s.registers) e ∙ sym (in_place s.registers s.window (slice_index regs k) (p.some k b)) ∙ sym g
        ∙ ap (λ w. register_in u.registers w (slice_index regs k)) h.same.window
        ∙ in_place u.registers s.window (slice_index regs k) (p.some k b) ∙ ap (slice_index u.registers) (sym e)

    go : ((k : ℕ) × (k < want) × (n ≡ place_of s.window (slice_index regs k)))
        ⊎ ((k : ℕ) → k < want → n ≢ place_of s.window (slice_index regs k))
        → slice_index s.registers n ≡ slice_index u.registers n
    go (inl (k, b, e)) = same k b (split_below k (want - spilled)) e
    go (inr none) = sym (h.held.others n none)
item_stays {s} {dead = dead} c p back u h kept CodesItem ne = go (has dead parts.Icc) refl
  where
    go : (b : Bool) → has dead parts.Icc ≡ b → s.codes ≡ u.codes
    go true e = absurd (ne (codes_among s.window dead e))
    go false e = sym (h.codes_are ∙ kept e)
item_stays c p back u h kept YRegister ne = sym h.same.y_register
