-- Every instruction that is no transfer does the same from two states that agree on what it reads.
use Rattle.two_runs.proofs.Common.{◌≡◌, ◌<◌, ◌⊎◌, ℕ, zero, suc, Bool, true, false, None, List, [], ◌∷◌, length, refl, sym, inl, inr, ◌∙◌, arith, slice_index, Instr, Span, State, StateItem, Register, Codes, YRegister, IsSameAt, AreSameAt, AreSameAfter, IsReady, IsSameWorld, StepsAlike, IsAmong, writes_of, act, puts_by, decode_of, reads_all, is_transfer, AllApart, judged_by, live_step, live_puts}
use Rattle.std.proofs.Math.Seq.{ext_get_or}
use Rattle.v8_decode.specs.Effects.{reads_of}
use Rattle.v8_decode.specs.declared.Instr.TheVariants as i
use Rattle.v8_decode.specs.declared.Part.{Part}
use Rattle.v8_decode.specs.declared.Part.TheVariants.{Icc}
use Rattle.two_runs.proofs.Twins.{AreTwins, judged_alike, twins_act, twins_put}
use Rattle.two_runs.proofs.Unread.{judged_read, kept_act, like_act}
use Rattle.v8_windows.specs.Code.{AreRegisters}
use Rattle.v8_step.specs.Items.{IsItem}
use Rattle.v8_step.specs.Code.{IsSameForReading}
pub use Rattle.two_runs.proofs.Examples.{first_word}

-- An instruction does the same from both, and puts out the same bytes.
abbrev pub ActsAlike : Instr → Type 0
ActsAlike instr =
    (pages : List Span) (s t : State) → IsReady pages instr s t
    → AreSameAfter pages instr s t (act s instr) (act t instr)
    × ((descriptor : ℕ) → puts_by s instr descriptor ≡ puts_by t instr descriptor)

carry : (item : StateItem) (a b c : State) → a.registers ≡ b.registers → a.codes ≡ b.codes → a.y ≡ b.y
    → IsSameAt item b c → IsSameAt item a c
carry item a b c r k y h = grind arith

same_at : (item : StateItem) (s : State) → IsSameAt item s s
same_at item s = grind arith

-- what two states have that share all but what isn't read
pub record AreLed (instr : Instr) (s t a b : State) : Type 0 where
  pub like : (record b { registers = a.registers; codes = a.codes; y = a.y } ≡ a) × (length a.registers ≡ length b.registers)
  pub items : a.ending ≡ None → (item : StateItem)
      → IsAmong item s.window (writes_of instr) ⊎ IsSameAt item s t → IsSameAt item a b

module _ (pages : List Span) (s t : State) (rs : AreRegisters s.registers) (ru : AreRegisters t.registers)
    (ending : s.ending ≡ t.ending) (w : IsSameWorld pages s t) where
  abbrev pub moved : State
  moved = record s { pc = t.pc; npc = t.npc; slot = t.slot; memory = t.memory }

  abbrev other : State
  other = record moved { registers = t.registers; codes = t.codes; y = t.y }

  is_other : other ≡ t
  is_other = grind (arith, w)

  same_for : (ps : List Part) → AreSameAt ps s t → AreSameAt ps moved other
  same_for [] h = tt
  same_for (Icc ∷ ps) h = (h.0, same_for ps h.1)
  same_for (p ∷ ps) h = (h.0, same_for ps h.1)

  pub twins_from : ((item : StateItem) → IsItem item → IsSameAt item s t) → AreTwins pages s t
  twins_from f = assumption (ext_get_or 0 s.registers t.registers w.registers register, f Codes tt, f YRegister tt)
    where
      register : (k : ℕ) → k < length s.registers → slice_index s.registers k ≡ slice_index t.registers k
      register zero below = rs.zero ∙ sym ru.zero
      register (suc k) below = let count : length s.registers ≡ 136 = rs.count in f (Register (suc k))
          (omega arith, omega arith)

  pub led : (instr : Instr) → IsSameForReading instr s t → AreLed instr moved t (act moved instr) (act t instr)
  led instr h = by (reads_all instr) refl
    where
      by : (b : Bool) → reads_all instr ≡ b → AreLed instr moved t (act moved instr) (act t instr)
      by true all =
          let twins = twins_from (h.0 all) in
          let same : moved ≡ t = grind (arith, twins) in
          rw same (record { like = (refl, refl); items = λ live item g. same_at item (act t instr) })
      by false some = rw (← is_other) (record {
        like = like_act moved t.registers t.codes t.y w.registers instr some (same_for (reads_of instr) h.1);
        items = λ live item g. kept_act moved t.registers t.codes t.y w.registers instr item some (same_for (reads_of instr) h.1) live g;
      })

  pub judged_too : (instr : Instr) → IsSameForReading instr s t → AllApart pages (judged_by s instr)
      → AllApart pages (judged_by t instr)
  judged_too instr h apart = by (reads_all instr) refl
    where
      there : AllApart pages (judged_by moved instr)
      there = judged_alike pages s moved (assumption (w.memory, refl)) instr apart

      by : (b : Bool) → reads_all instr ≡ b → AllApart pages (judged_by t instr)
      by true all =
          let twins = twins_from (h.0 all) in
          let same : moved ≡ t = grind (arith, twins) in
          rw same at there
      by false some =
          rw (judged_read moved t.registers t.codes t.y w.registers instr some (same_for (reads_of instr) h.1), is_other) at there

  pub after : (instr : Instr) → IsSameForReading instr s t → AreTwins pages (act s instr) (act moved instr)
      → AreSameAfter pages instr s t (act s instr) (act t instr)
  after instr h twins =
      let l = led instr h in
      record {
        ending = grind (arith, twins, l);
        world = grind (arith, twins, l);
        items = λ live item g. carry item (act s instr) (act moved instr) (act t instr) twins.registers twins.codes twins.y
            (l.items (sym twins.ending ∙ live) item (elim g [ inl x ↦ inl x | inr x ↦ inr (carry item moved s t refl refl refl x) ]));
      }

puts_same : (instr : Instr) (pages : List Span) (s t : State) (descriptor : ℕ) → IsReady pages instr s t
    → puts_by s instr descriptor ≡ puts_by t instr descriptor
unfolding puts_by
puts_same (i.Ticc cond rs1 op2) pages s t descriptor ready =
    twins_put pages s t (twins_from pages s t ready.first_registers ready.second_registers
    (ready.first_live ∙ sym ready.second_live) ready.world (ready.items.0 refl)) (i.Ticc cond rs1 op2) descriptor
    ready.first_apart
puts_same _ pages s t descriptor ready = refl

pub acts_alike : (instr : Instr) → is_transfer instr ≡ false → ActsAlike instr
acts_alike instr e pages s t ready =
    let w = ready.world in
    let moved : State = record s { pc = t.pc; npc = t.npc; slot = t.slot; memory = t.memory } in
    let twins : AreTwins pages s moved = assumption (w.memory, refl) in (
      after pages s t ready.first_registers ready.second_registers (ready.first_live ∙ sym ready.second_live) w instr
          ready.items (twins_act pages s moved twins instr e ready.first_apart),
      λ descriptor. puts_same instr pages s t descriptor ready,
    )

pub steps_alike : StepsAlike
steps_alike word e pages s t ready fetched fetched' =
    let h = acts_alike (decode_of word) e pages s t ready in
    let p = live_step s word ready.first_live fetched in
    let q = live_step t word ready.second_live fetched' in (
      rw (p, q) h.0,
      λ descriptor. live_puts s word descriptor ready.first_live fetched ∙ h.1 descriptor
          ∙ sym (live_puts t word descriptor ready.second_live fetched'),
    )
