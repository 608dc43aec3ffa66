use Rattle.v8_step.proofs.Common.{◌≡◌, ◌+◌, ◌-◌, ℕ, Bool, true, Option, Some, None, ◌==◌, ap, sym, ◌∙◌, if◌then◌else◌, wrapped, Memory, Window, on_memory, placed, Spills, State, Slot, NoSlot, enter, save_step, saved_memory, spill}
use Rattle.v8_step.proofs.machine.Machine.save_behind_spill.Goals as goal

save_spilled : (s t u : State) (done : Bool) (rd value : ℕ) → s.valid ≡ 7 → Spills (saved_memory s) s t done → done ≡ true
    → u ≡ enter rd value t → (pc npc : ℕ) (slot : Slot)
    → save_step (placed s pc npc slot) rd value ≡ placed u npc (wrapped (npc + 4)) NoSlot
unfolding save_step
save_spilled s t u done rd value full spilled made is pc npc slot =
    ap (λ v. if v == 7 then spill (placed s pc npc slot) (enter rd value) else enter rd value (placed s pc npc slot)) full
    ∙ go (saved_memory s) spilled
  where
    go : (m : Option Memory) → Spills m s t done
        → on_memory (placed s pc npc slot) Window m (λ z. enter rd value (record z { valid = z.valid - 1 }))
        ≡ placed u npc (wrapped (npc + 4)) NoSlot
    go None h = absurd (cc)
    go (Some m) h = sym (ap (λ z. placed z npc (wrapped (npc + 4)) NoSlot) (is ∙ ap (enter rd value) h.1))

pub returns-then-spill-clause-goes : goal.returns-then-spill-clause-goes
returns-then-spill-clause-goes c = λ made.
    save_spilled c.args.self.now c.spill.new.self _ _ c.args.rd c.args.value c.requires c.spill.ensures c.if-spill.true
    c.enter.ensures
