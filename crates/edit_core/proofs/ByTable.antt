-- An original's open switches: their jumps go by their tables, and the program is entered at none of them.
use Rattle.edit_core.proofs.Common.{◌≡◌, ℕ, ◌+◌, ◌-◌, ◌*◌, true, List, map, Some, refl, ap, sym, ◌∙◌, arith, slice_get, Words, address_of, word_at, IsText, Instr, State, sum_of, run, IsValid, Blocks, blocks_of, is_among, entered_of, word_at-some, Open, graph_of, BeginsAt, FetchesOnly, HoldsText, opens_in, CaseTable, EditSetup, table_of, LoadsEntry, case_table, or_zero, load_is, load_passes, contains, found_in_range, GoesByTable, JumpsGoByTable, nat_tests, ◌<◌, ◌==◌, length, eq-eqb, false≢true, holding_of, node_of, cut, block, node_is, node_number, enter_number, image_number, any_at}
use Rattle.v8_decode.specs.declared.Instr.TheVariants as i
use Rattle.v8_decode.specs.declared.LoadKind.TheVariants as loads
use Rattle.switch_runs.specs.Joined.{IsCaseBlock}
use Rattle.switch_runs.proofs.CaseBlocks.{case_blocks}
use Rattle.switch_runs.proofs.Joined.{jumps_go_by_table}
use Rattle.cfg_blocks.specs.Values.{instr_at}
use Rattle.image_code.specs.Loads.{first_operand, load_of, loads_by, second_operand}
use Rattle.image_code.proofs.ImageNumbers.{not_found}
use Rattle.edit_core.proofs.Graphs.{entry_apart}

-- ---- the load whose address is kept loads an entry

loads_here : (text : Words) (o : Open) (word : ℕ) (instr : Instr) → instr_at text word ≡ instr
    → loads_by text o word instr ≡ true → LoadsEntry text o word
loads_here text o word (i.Load loads.LD rd rs1 op2) e h = grind (arith, nat_tests)
loads_here text o word _ e h = absurd (cc)

load_loads : (text : Words) (b : Blocks) (o : Open) → IsCaseBlock text b o → LoadsEntry text o (load_of text o)
unfolding load_of
load_loads text b o c =
    let h = c.loaded in
    let here : o.approach.first + (h.load - o.approach.first) ≡ h.load = omega (arith, h.above) in
    let test = λ (word : ℕ). loads_by text o word (instr_at text word) in
    let found = found_in_range test o.approach.first (o.approach.jump - o.approach.first) (h.load - o.approach.first)
    (omega (arith, h.above, h.below)) (cc (here, load_passes text o h.load h.loads)) in
    rw found.1.is (loads_here text o found.0 (instr_at text found.0) refl found.1.passes)

-- ---- the law, by what the code knows of the switches

module _ (g : EditSetup) (entry : ℕ) (s0 : State) (same : g.switches ≡ opens_in g.text g.given entry)
    (known : g.opens ≡ map (case_table g.text) g.switches) (is_text : IsText g.text) (valid : IsValid s0)
    (fetches : FetchesOnly g.text s0) (holds : HoldsText g.text s0.memory) (begins : BeginsAt g.text entry s0)
    (among : is_among g.given entry ≡ true) where
  pub by_table : JumpsGoByTable g entry s0
  unfolding entered_of
  by_table n live k table some at =
      let t = table_of g known k table some in
      let o = t.o in
      let inside = contains (opens_in g.text g.given entry) k o
      (ap (λ (os : List Open). slice_get os k) (sym same) ∙ t.is) in
      let c : IsCaseBlock g.text (blocks_of g.text g.given) o = (case_blocks g.text g.given entry is_text o inside).0 in
      let load = load_is g.text (blocks_of g.text g.given) o c in
      let l : LoadsEntry g.text o (load_of g.text o) = load_loads g.text (blocks_of g.text g.given) o c in
      let h = jumps_go_by_table g.text g.given entry s0 is_text valid fetches holds begins among o inside n
      (load_of g.text o) l (record {
        live = live;
        outside = at.outside;
        itself = cc (same, at.itself, t.same);
        at = at.stands ∙ ap (λ (c : CaseTable). Some c.jump) (sym t.same);
      }) load.above (omega (arith, load.below)) in
      let table = (word_at-some g.text o.switch.table.0 c.table.begins c.table.at).is in
      let from : or_zero (word_at g.text o.switch.table.0) ≡ c.table.begins = ap or_zero c.table.at in
      let there = (word_at-some g.text (o.switch.table.0 + 4 * h.number) h.jumps.entry h.jumps.is).is in
      let word : h.jumps.entry ≡ c.table.begins + h.number = omega (arith, table, there) in
      let sum : sum_of (run s0 h.start) l.rs1 l.op2
      ≡ address_of g.text (or_zero (word_at g.text o.switch.table.0) + h.number) =
      omega (arith, h.loaded, table, from) in
      let goes : GoesByTable g entry s0 (case_table g.text o) n =
      record {
        start = h.start;
        since = omega (arith, h.ago);
        came = λ j less.
            let k : h.start + j ≡ j + h.start = omega arith in
            let s = rw k at (h.stood j less) in
            record { itself = cc (same, s.itself); outside = s.outside; stands = s.at };
        number = h.number;
        below = h.jumps.below;
        loaded = ap (λ (x : Instr). sum_of (run s0 h.start) (first_operand x) (second_operand x)) l.is ∙ sum;
        live = h.jumps.live;
        goes = cc (h.jumps.goes, word, from);
      } in
      rw t.same at goes

-- ---- where the program is entered

module _ (text : Words) (given : List ℕ) (entry : ℕ) (is_text : IsText text) (among : is_among given entry ≡ true)
    (low : entry < length text.words) where
  entry_node : node_of (blocks_of text given) (Some entry) ≡ block (holding_of (blocks_of text given) entry)
  entry_node = node_is (blocks_of text given) entry (omega (arith, low, (cut text given is_text.some).words))

  -- control enters it where it is visited
  pub entry_enters : enter_number text (graph_of (blocks_of text given) (opens_in text given entry))
      (node_of (blocks_of text given) (Some entry)) entry
      ≡ image_number text (graph_of (blocks_of text given) (opens_in text given entry))
      (node_of (blocks_of text given) (Some entry)) entry
  entry_enters =
      let apart = entry_apart text given entry is_text among low in
      cc (entry_node, not_found (λ (o : Open). o.block == holding_of (blocks_of text given) entry) _ apart)

  -- no open switch has its jump there
  pub entry_outside : (k : ℕ) (o : Open) → slice_get (opens_in text given entry) k ≡ Some o
      → node_of (blocks_of text given) (Some entry) ≡ block o.block → ⊥
  entry_outside k o e same =
      let graph = graph_of (blocks_of text given) (opens_in text given entry) in
      let is : o.block ≡ holding_of (blocks_of text given) entry = ap (node_number graph) (sym same ∙ entry_node) in
      false≢true (sym (entry_apart text given entry is_text among low)
      ∙ any_at (λ (x : Open). x.block == holding_of (blocks_of text given) entry) _ k o e (eq-eqb _ _ is))
