-- What is known of the open switches of a set-up's graph, each by its number.
use Rattle.image_code.proofs.Common.{◌≡◌, ℕ, ◌+◌, ◌-◌, ◌<◌, ◌≤◌, true, false, Some, List, refl, ap, arith, nat_tests, slice_get, eq-eqb, Words, IsText, Instr, Blocks, blocks_of, end_of, entered_of, is_jump, Open, Graph, IsOpenSwitch, opens_are, before_jump, Value, IsCaseBlock, AreOpen, LoadsEntry, approach_to, are_open, IsGraphOf, opens_in, first_operand, is_place, load_of, loads_by, or_first, second_operand, EditSetup, graph_in}
use Rattle.v8_decode.specs.declared.Instr.TheVariants as i
use Rattle.v8_decode.specs.declared.LoadKind.TheVariants as loads
use Rattle.cfg_blocks.specs.Ends.{is_transfer}
use Rattle.cfg_blocks.specs.declared.switches.Value.TheVariants.{Place}
use Rattle.cfg_blocks.specs.Values.{instr_at, sum_in}
use Rattle.switch_runs.proofs.CaseBlocks.{case_block, open_in}
use Rattle.switch_runs.proofs.Numbered.{opens_are_one}
use Rattle.image_code.proofs.Positions.{contains, found_in_range}

-- the load whose address is kept
pub record IsLoad (text : Words) (o : Open) : Type 0 where
  pub above : o.approach.first ≤ load_of text o
  pub below : load_of text o < o.approach.jump
  pub rd : ℕ
  pub is : instr_at text (load_of text o)
      ≡ i.Load loads.LD rd (first_operand (instr_at text (load_of text o)))
      (second_operand (instr_at text (load_of text o)))
  pub place : sum_in (before_jump text (approach_to o (load_of text o)))
      (first_operand (instr_at text (load_of text o))) (second_operand (instr_at text (load_of text o)))
      ≡ Place o.switch.table.0

place_is : (table : ℕ) (v : Value) → is_place table v ≡ true → v ≡ Place table
place_is table v e = grind (arith, nat_tests)

is_load : (text : Words) (o : Open) (word : ℕ) (instr : Instr) → loads_by text o word instr ≡ true
    → (rd : ℕ) × (instr ≡ i.Load loads.LD rd (first_operand instr) (second_operand instr))
    × (sum_in (before_jump text (approach_to o word)) (first_operand instr) (second_operand instr)
    ≡ Place o.switch.table.0)
is_load text o word (i.Load loads.LD rd rs1 op2) e = (rd, refl, place_is o.switch.table.0 _ e)
is_load text o word _ e = absurd (cc)

pub load_passes : (text : Words) (o : Open) (word : ℕ) → LoadsEntry text o word
    → loads_by text o word (instr_at text word) ≡ true
load_passes text o word l =
    rw (l.is, l.place) (eq-eqb o.switch.table.0 o.switch.table.0 refl)

pub load_is : (text : Words) (b : Blocks) (o : Open) → IsCaseBlock text b o → IsLoad text o
unfolding load_of
load_is text b o c =
    let h = c.loaded in
    let here : o.approach.first + (h.load - o.approach.first) ≡ h.load = omega (arith, h.above) in
    let found = found_in_range (λ (word : ℕ). loads_by text o word (instr_at text word)) o.approach.first
    (o.approach.jump - o.approach.first) (h.load - o.approach.first) (omega (arith, h.above, h.below))
    (rw here (load_passes text o h.load h.loads)) in
    let at = ap (or_first o) found.1.is in
    let is = is_load text o found.0 (instr_at text found.0) found.1.passes in
    record {
      above = omega (arith, at, found.1.above);
      below = omega (arith, at, found.1.below, c.ordered);
      rd = is.0;
      is = rw at is.1;
      place = rw at is.2;
    }

-- Each open switch has a block of its own, which ends in its jump; and a comparison's block ends in a branch.
pub record AreCased (text : Words) (b : Blocks) (opens : List Open) : Type 0 where
  pub each : (k : ℕ) (o : Open) → slice_get opens k ≡ Some o → IsCaseBlock text b o
  pub one : (k j : ℕ) (o other : Open) → slice_get opens k ≡ Some o → slice_get opens j ≡ Some other
      → o.block ≡ other.block → o ≡ other
  pub branches : (k : ℕ) (o : Open) → slice_get opens k ≡ Some o
      → (is_transfer (end_of b o.switch.compare.0) ≡ true) × (is_jump (end_of b o.switch.compare.0) ≡ false)
  pub jumps : AreOpen b opens

pub cased : (g : EditSetup) → IsText g.text → IsGraphOf g.text (graph_in g)
    → AreCased g.text (blocks_of g.text g.given) g.switches
unfolding entered_of
cased g is_text h =
    let same_blocks : blocks_of g.text g.given ≡ blocks_of g.text h.given = ap (λ (x : Graph). x.blocks) h.is in
    let same_opens : g.switches ≡ opens_in g.text h.given h.entry = ap (λ (x : Graph). x.opens) h.is in
    rw (same_blocks, same_opens) (record {
      each = λ k o e. case_block g.text h.given h.entry is_text o (is_open k o e);
      one = λ k j o other e d.
          opens_are_one g.text (entered_of g.text h.given) h.entry o other (is_open k o e) (is_open j other d);
      branches = λ k o e. let is = is_open k o e in (ap is_transfer is.parts.branch, ap is_jump is.parts.branch);
      jumps = are_open g.text (entered_of g.text h.given) h.entry (opens_in g.text h.given h.entry)
          (opens_are g.text h.given h.entry is_text);
    })
  where
    is_open : (k : ℕ) (o : Open) → slice_get (opens_in g.text h.given h.entry) k ≡ Some o
        → IsOpenSwitch g.text (entered_of g.text h.given) h.entry o
    is_open k o e =
        open_in (IsOpenSwitch g.text (entered_of g.text h.given) h.entry) (opens_in g.text h.given h.entry) o
        (opens_are g.text h.given h.entry is_text) (contains (opens_in g.text h.given h.entry) k o e)
