-- Two machines at one point do the same: what the word there reads are items, which both have alike.
use Rattle.code_runs.proofs.Common.{◌≡◌, ◌≢◌, ℕ, inl, inr, Bool, true, false, Some, None, List, [], ◌∷◌, refl, ap, sym, ◌∙◌, arith, Instr, decode_of, AllApart, place_of, place_of-below, place_of-some, State, act, puts_by, judged_by}
use Rattle.notes.specs.Format.{Notes}
use Rattle.v8_memory.specs.Code.{IsSameOutside}
use Rattle.v8_decode.specs.declared.Instr.TheVariants as i
use Rattle.v8_decode.specs.declared.Part.{Part}
use Rattle.v8_decode.specs.declared.Part.TheVariants.{Reg, Icc, Y}
use Rattle.v8_decode.specs.Effects.{reads_all, reads_of}
use Rattle.v8_step.specs.Items.{StateItem, Register, Codes, YRegister, IsItem, IsAmong, IsSameAt, is_transfer}
use Rattle.v8_step.specs.Code.{AreSameAt, IsSameForReading}
use Rattle.two_runs.specs.Alike.{IsSameWorld}
use Rattle.two_runs.specs.Needed.{ReadsIn}
use Rattle.two_runs.proofs.Twins.{AreTwins, transfers_act, twins_act, twins_put}
use Rattle.two_runs.specs.Visits.{pages_of}
use Rattle.v8_step.proofs.CopiedMoves.{goes_act}
use Rattle.two_runs.proofs.Alike.{after, judged_too, led, twins_from}
use Rattle.code_runs.specs.PointsAlike.{AreAtOnePoint, PointsActAlike}

-- ---- what is read are items

pub AreNamed : List Part → Type 0
AreNamed [] = Unit {0}
AreNamed (Reg r ∷ ps) = (r ≢ 0) × AreNamed ps
AreNamed (Icc ∷ ps) = AreNamed ps
AreNamed (Y ∷ ps) = AreNamed ps

named_reads : (instr : Instr) → AreNamed (reads_of instr)
unfolding AreNamed
named_reads (i.Branch cond annul disp22) = grind arith
named_reads (i.Alu op cc rd rs1 op2) = grind arith
named_reads (i.Store kind rd rs1 op2) = grind arith
named_reads (i.Swap rd rs1 op2) = grind arith
named_reads instr = grind arith

pub same_parts : (ps : List Part) (s u : State) → AreNamed ps
    → ((item : StateItem) → IsItem item → IsAmong item s.window ps → IsSameAt item s u) → AreSameAt ps s u
unfolding AreNamed
same_parts [] s u h f = tt
same_parts (Reg r ∷ ps) s u h f = (
  f (Register (place_of s.window r)) (place_of-some s.window r h.0, place_of-below s.window r)
      (inl refl),
  same_parts ps s u h.1 (λ item is z. f item is (inr z)),
)
same_parts (Icc ∷ ps) s u h f = (f Codes tt (inl refl), same_parts ps s u h (λ item is z. f item is (inr z)))
same_parts (Y ∷ ps) s u h f = (f YRegister tt (inl refl), same_parts ps s u h (λ item is z. f item is (inr z)))

same_reading : (instr : Instr) (s u : State)
    → ((item : StateItem) → IsItem item → ReadsIn (Some instr) s.window item → IsSameAt item s u)
    → IsSameForReading instr s u
same_reading instr s u f = (
  λ all item is. f item is (inl all),
  same_parts (reads_of instr) s u (named_reads instr) (λ item is z. f item is (inr z)),
)

-- ---- where they go

module _ (notes : Notes) (s u : State) (at : AreAtOnePoint s u) (w : IsSameWorld (pages_of notes) s u) (instr : Instr)
    (apart : AllApart (pages_of notes) (judged_by s instr)) where
  -- the first machine with the second one's memory
  abbrev there : State
  there = record s { pc = u.pc; npc = u.npc; slot = u.slot; memory = u.memory }

  is_there : record s { memory = u.memory } ≡ there
  is_there = grind (arith, at)

  twins_there : AreTwins (pages_of notes) (act s instr) (act there instr)
  twins_there = by (is_transfer instr) refl
    where
      by : (b : Bool) → is_transfer instr ≡ b → AreTwins (pages_of notes) (act s instr) (act there instr)
      by true e =
          let stays = transfers_act s u.memory instr e in
          let memory : IsSameOutside (pages_of notes) (act s instr).memory u.memory = rw stays.1 w.memory in
          rw (← is_there, stays.0) (assumption (memory, refl))
      by false e = twins_act (pages_of notes) s there (assumption (w.memory, refl)) instr e apart

  point_there : (act s instr).ending ≡ None → (act there instr).ending ≡ None → AreAtOnePoint (act s instr) (act there instr)
  point_there live live' = by (is_transfer instr) refl
    where
      by : (b : Bool) → is_transfer instr ≡ b → AreAtOnePoint (act s instr) (act there instr)
      by true e =
          let stays = transfers_act s u.memory instr e in
          rw (← is_there, stays.0) (record { pc = refl; npc = refl; slot = refl })
      by false e =
          let a = goes_act s instr e live in
          let b = goes_act there instr e live' in
          let npc = at.npc in
          record { pc = grind (arith, a, b, npc); npc = grind (arith, a, b, npc); slot = grind (arith, a, b) }

puts_same : (notes : Notes) (instr : Instr) (s u : State) (descriptor : ℕ)
    → ((reads_all instr ≡ true) → AreTwins (pages_of notes) s u) → AllApart (pages_of notes) (judged_by s instr)
    → puts_by s instr descriptor ≡ puts_by u instr descriptor
unfolding puts_by
puts_same notes (i.Ticc cond rs1 op2) s u descriptor twins apart = twins_put (pages_of notes) s u (twins refl) (i.Ticc cond rs1 op2) descriptor apart
puts_same notes _ s u descriptor twins apart = refl

pub no_puts : (s : State) (instr : Instr) (descriptor : ℕ) → is_transfer instr ≡ true → puts_by s instr descriptor ≡ []
unfolding puts_by
no_puts s (i.Ticc cond rs1 op2) descriptor e = absurd (cc)
no_puts s _ descriptor e = refl

pub points_act_alike : PointsActAlike
points_act_alike notes None s u live live' rs ru at w f apart = record {
  judged = tt;
  ending = refl;
  world = record { window = w.window; valid = w.valid; input = w.input; memory = w.memory; registers = w.registers };
  puts = λ descriptor. refl;
  items = λ e. absurd (cc);
  point = λ e. absurd (cc);
}
points_act_alike notes (Some word) s u live live' rs ru at w f apart =
    let instr = decode_of word in
    let both : s.ending ≡ u.ending = live ∙ sym live' in
    let reading = same_reading instr s u f in
    let twins = twins_there notes s u at w instr apart in
    let same = led (pages_of notes) s u rs ru both w instr reading in
    let h = after (pages_of notes) s u rs ru both w instr reading twins in
    record {
      judged = judged_too (pages_of notes) s u rs ru both w instr reading apart;
      ending = h.ending;
      world = h.world;
      puts = λ descriptor. puts_same notes instr s u descriptor (λ all. twins_from (pages_of notes) s u rs ru both w (reading.0 all)) apart;
      items = λ go item is g. h.items go item g;
      point = λ go.
          let p = point_there notes s u at w instr apart go (sym twins.ending ∙ go) in
          let like = same.like.0 in
          record {
            pc = p.pc ∙ ap (λ (z : State). z.pc) (sym like);
            npc = p.npc ∙ ap (λ (z : State). z.npc) (sym like);
            slot = p.slot ∙ ap (λ (z : State). z.slot) (sym like);
          };
    }
