use Rattle.v8_step.proofs.Common.{◌≡◌, ◌+◌, ℕ, Bool, true, List, Option, Some, None, ◌==◌, ap, sym, ◌∙◌, if◌then◌else◌, wrapped, placed, Fills, State, register_of, Slot, NoSlot, fill, fill_from, frame_read, leave, restore_step, frame_pointer}
use Rattle.v8_step.proofs.machine.Machine.restore_behind_fill.Goals as goal

restore_filled : (s t u : State) (done : Bool) (rd value : ℕ) → s.valid ≡ 1
    → Fills (frame_read s.memory (register_of s frame_pointer)) s t done → done ≡ true → u ≡ leave rd value t
    → (pc npc : ℕ) (slot : Slot)
    → restore_step (placed s pc npc slot) rd value ≡ placed u npc (wrapped (npc + 4)) NoSlot
unfolding restore_step
restore_filled s t u done rd value one filled made is pc npc slot =
    ap (λ v. if v == 1 then fill (placed s pc npc slot) (leave rd value) else leave rd value (placed s pc npc slot)) one
    ∙ go (frame_read s.memory (register_of s frame_pointer)) filled
  where
    go : (m : Option (List ℕ)) → Fills m s t done
        → fill_from (placed s pc npc slot) m (leave rd value) ≡ placed u npc (wrapped (npc + 4)) NoSlot
    go None h = absurd (cc)
    go (Some m) h = sym (ap (λ z. placed z npc (wrapped (npc + 4)) NoSlot) (is ∙ ap (leave rd value) h.1))

pub returns-then-fill-clause-goes : goal.returns-then-fill-clause-goes
returns-then-fill-clause-goes c = λ made.
    restore_filled c.args.self.now c.fill.new.self _ _ c.args.rd c.args.value c.requires c.fill.ensures c.if-fill.true
    c.leave.ensures
