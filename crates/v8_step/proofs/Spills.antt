-- Windows that are saved one by one.
use Rattle.v8_step.proofs.Common.{◌≡◌, ℕ, suc, ◌-◌, ◌<◌, Bool, true, false, Option, Some, None, ap, sym, ◌∙◌, arith, Memory, Window, on_memory, State, ended, saved_memory, spill_many, Spills}

-- the oldest was saved
pub one_less : (s new : State) (result : Bool) → 1 < s.valid → Spills (saved_memory s) s new result → result ≡ true
    → spill_many (new.valid - 1) new ≡ spill_many (s.valid - 1) s
one_less s new result some spilled done = from_count (s.valid - 2) (omega arith)
  where
    after : ℕ → State → State
    after n t = spill_many n (record t { valid = t.valid - 1 })

    go : (n : ℕ) (saved : Option Memory) → Spills saved s new result → s.valid - 1 ≡ suc n
        → spill_many (new.valid - 1) new ≡ on_memory s Window saved (after n)
    go n None h count = absurd (cc)
    go n (Some m) h count =
        ap (λ (t : State). spill_many (t.valid - 1) t) h.1
        ∙ ap (λ k. after k (record s { memory = m })) (omega arith)

    from_count : (n : ℕ) → s.valid - 1 ≡ suc n → spill_many (new.valid - 1) new ≡ spill_many (s.valid - 1) s
    from_count n count =
        go n (saved_memory s) spilled count ∙ ap (λ k. spill_many k s) (sym count)

-- the oldest could not be saved
pub none_saved : (s new : State) (result : Bool) → 1 < s.valid → Spills (saved_memory s) s new result
    → result ≡ false → ended new Window ≡ spill_many (s.valid - 1) s
none_saved s new result some spilled refused = from_count (s.valid - 2) (omega arith)
  where
    go : (n : ℕ) (saved : Option Memory) → Spills saved s new result
        → ended new Window ≡ on_memory s Window saved (λ t. spill_many n (record t { valid = t.valid - 1 }))
    go n None h = ap (λ (t : State). ended t Window) h.1
    go n (Some m) h = absurd (cc)

    from_count : (n : ℕ) → s.valid - 1 ≡ suc n → ended new Window ≡ spill_many (s.valid - 1) s
    from_count n count = go n (saved_memory s) spilled ∙ ap (λ k. spill_many k s) (sym count)

pub fewer : (s new : State) (result : Bool) → 1 < s.valid → Spills (saved_memory s) s new result → result ≡ true
    → new.valid < s.valid
fewer s new result some spilled done = go (saved_memory s) spilled
  where
    go : (saved : Option Memory) → Spills saved s new result → new.valid < s.valid
    go None h = absurd (cc)
    go (Some m) h = omega (arith, ap (λ (t : State). t.valid) h.1)
