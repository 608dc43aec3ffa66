use Rattle.v8_step.proofs.Common.{◌≡◌, ◌-◌, Bool, true, false, ℕ, List, Option, Some, None, refl, ap, sym, ◌∙◌, w32, to_be_bytes, flat_map, Memory, Written, frame_of, State, frame_written, saved_memory, save_address, oldest_window, Spills}
use Rattle.v8_step.specs.contracts.machine.Machine.{the_view}
use Rattle.v8_step.proofs.machine.Machine.spill.Goals as goal

saves : (s : State) (address : ℕ) (words : List ℕ) → address ≡ save_address s
    → words ≡ frame_of s.registers (oldest_window s)
    → frame_written s.memory address (flat_map (to_be_bytes w32) words) ≡ saved_memory s
saves s address words is_address are_words = rw (is_address, are_words)

-- the state as it was passed, and as its parts say it
spills : (passed s new : State) (saved : Option Memory) (after : Memory) (result : Bool) → passed ≡ s
    → saved ≡ saved_memory s → Written saved s.memory after result → result ≡ true
    → new ≡ record s { memory = after; valid = s.valid - 1 } → Spills (saved_memory passed) passed new result
spills passed s new saved after result is_view is_saved written done made =
    rw (is_view, ← is_saved) (go saved written)
  where
    go : (m : Option Memory) → Written m s.memory after result → Spills m s new result
    go None h = absurd (cc)
    go (Some m) h = (h.0, made ∙ ap (λ x. record s { memory = x; valid = s.valid - 1 }) h.1)

stays : (passed s new : State) (saved : Option Memory) (after : Memory) (result : Bool) → passed ≡ s
    → saved ≡ saved_memory s → Written saved s.memory after result → result ≡ false
    → new ≡ record s { memory = after } → Spills (saved_memory passed) passed new result
stays passed s new saved after result is_view is_saved written refused made =
    rw (is_view, ← is_saved) (go saved written)
  where
    go : (m : Option Memory) → Written m s.memory after result → Spills m s new result
    go None h = (h.0, made ∙ ap (λ x. record s { memory = x }) h.1)
    go (Some m) h = absurd (cc)

pub returns-then-saved : goal.returns-then-saved
returns-then-saved c =
    let s : State = the_view c.self.inside in
    let after : Memory = c.write_frame-saved.new.memory in
    spills c.args.self.now s _ _ after c.write_frame-saved.result (sym c.self.view_is)
    (saves s c.oldest.result.0.0 c.oldest.result.1 c.oldest.ensures.address c.oldest.ensures.words)
    c.write_frame-saved.ensures c.if-saved.true
    (ap (λ w. record s { registers = w.registers; window = w.window; valid = w.valid; memory = after })
    c.spilled.ensures)

pub returns-else-saved : goal.returns-else-saved
returns-else-saved c =
    let s : State = the_view c.self.inside in
    stays c.args.self.now s _ _ c.write_frame-saved.new.memory c.write_frame-saved.result (sym c.self.view_is)
    (saves s c.oldest.result.0.0 c.oldest.result.1 c.oldest.ensures.address c.oldest.ensures.words)
    c.write_frame-saved.ensures c.if-saved.false refl
