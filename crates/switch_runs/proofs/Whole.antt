-- The jump of a switch goes to an entry of its table.
use Rattle.switch_runs.proofs.Common.{◌≡◌, ◌≢◌, ℕ, ◌+◌, ◌*◌, ◌%◌, ◌<◌, ◌≤◌, Bool, true, Option, Some, None, List, length, slice_index, inl, inr, refl, ap, sym, ◌∙◌, subst, arith, ℤ, pos, is_some, cases_order, eq-eqb, length-map, WordNo, Words, address_of, word_at, IsText, Op2, NoSlot, State, register_of, sum_of, jump_step, act, step_of, run, IsValid, holds_of, wrapped, EdgeKind, HoldsText, code_stays, run-valid, Approach, Compare, Switch, branch_target, end_at, end_by, Blocks, blocks_of, last_word, leaders, size_of, Entered, entered_of, approach_of, is_taken, runs_slot, before_jump, switch_of, instr_at, sum_in, length-below, FetchesOnly, BeginsAt, IsCut, cut, ends_within, some_words, lived_to, IsJump, IsSwitch, branch_at, in_list, switch_of-is, GoesIntoTable, SwitchesHold, to_branch, to_jump, IsInto, decoded_range, Place, BlockNo, nat_tests, transfers, false}
use Rattle.v8_decode.specs.declared.Op2.TheVariants as o
use Rattle.v8_decode.specs.declared.AluOp.TheVariants as ops
use Rattle.v8_decode.specs.declared.Instr.TheVariants as i
use Rattle.cfg_blocks.specs.declared.BlockEnd.TheVariants as ends
use Rattle.cfg_blocks.specs.Code.{AreFirsts}
use Rattle.switch_runs.proofs.Arriving.{at_jump, at_last-is, carries}
use Rattle.switch_runs.proofs.Blocks.{goes_to_first, is_conditional, no_transfer}
use Rattle.switch_runs.proofs.Coming.{IsAt, Ready, at_jump as values_at_jump, at_last, sum_goes}
use Rattle.switch_runs.proofs.Acts.{operands, sum_means}
use Rattle.v8_decode.specs.declared.LoadKind.{LoadKind}
use Rattle.switch_runs.proofs.Compared.{Compares, IsCompare, compare_at-is}
use Rattle.switch_runs.proofs.Held.{holds_run}
use Rattle.switch_runs.proofs.Into.{leads_in}
use Rattle.switch_runs.proofs.Outside.{stands_outside}
use Rattle.switch_runs.proofs.Steps.{carries_here}
use Rattle.switch_runs.proofs.TableEntries.{HasEntry, entry_of}

-- ---- a jump outside a slot, to an aligned address

abbrev Jumps : ℕ → State → Type 0
Jumps to t = (t.ending ≡ None) × (t.npc ≡ to)

jumps_on : (s : State) (rd rs1 : ℕ) (op2 : Op2) (to : ℕ) → s.slot ≡ NoSlot → s.ending ≡ None → sum_of s rs1 op2 ≡ to
    → to % 4 ≡ 0 → Jumps to (act s (i.Jmpl rd rs1 op2))
unfolding act jump_step
jumps_on s rd rs1 op2 to slot live is aligned = rw slot (rw is (rw (eq-eqb _ _ aligned) (live, refl)))

-- the address of a word is aligned
aligned_at : (text : Words) (address : ℕ) → IsText text → is_some (word_at text address) ≡ true → address % 4 ≡ 0
aligned_at text address is h = grind (arith, nat_tests)

-- ---- the words in order, and the jump

module _ {text : Words} (is_text : IsText text) {a : Approach} {cond : ℕ} {annul : Bool} {way : EdgeKind} {s : State}
    (r : Ready text a cond annul way s) (goes : holds_of cond (run s (to_branch a)).codes ≡ is_taken way)
    (live : (run s (to_jump a (runs_slot annul way))).ending ≡ None) where
  steps : at_last a ≡ to_jump a (runs_slot annul way)
  steps = at_last-is is_text r goes live

  stands : IsAt text a.jump (run s (at_last a))
  stands = at_jump is_text r goes live

  live_here : (run s (at_last a)).ending ≡ None
  live_here = rw steps live

  pub whole : (from : ℕ) (switch : Switch) → IsJump text a from switch
      → GoesIntoTable text switch (register_of s a.compare.register) (run s (to_jump a (runs_slot annul way)))
  whole from switch jumps =
      subst (λ (k : ℕ). GoesIntoTable text switch (register_of s a.compare.register) (run s k)) steps (record {
        stands = stands.pc ∙ ap (address_of text) (sym jumps.at);
        live = ap (λ (t : State). t.ending) step ∙ went.0;
        below = omega (arith, low, jumps.count);
        entry = has.entry;
        is = has.is;
        goes = lands;
        inside = ap (λ k. is_some (word_at text k)) lands ∙ has.inside;
      })
    where
      u : State
      u = run s (at_last a)

      x : ℕ
      x = register_of s a.compare.register

      means : (x ≤ a.compare.limit) × ((k : ℕ) → word_at text (wrapped (switch.table.0 + 4 * x)) ≡ Some k
          → sum_of u jumps.rs1 jumps.op2 ≡ slice_index text.words k)
      means = sum_goes is_text r (carries is_text r goes live) goes from switch jumps live_here

      low : x ≤ a.compare.limit
      low = means.0

      has : HasEntry text switch.table.0 x
      has = entry_of text switch.table.0 (a.compare.limit + 1) x is_text jumps.table (omega (arith, low))

      to : ℕ
      to = slice_index text.words has.entry

      sum : sum_of u jumps.rs1 jumps.op2 ≡ to
      sum = means.1 has.entry (ap (word_at text) has.wraps ∙ has.is)

      step : step_of u ≡ act u (i.Jmpl jumps.rd jumps.rs1 jumps.op2)
      step = carries_here text is_text s r.fetches (at_last a) a.jump stands.pc r.jump_low live_here ∙ ap
          (act u) jumps.is

      went : Jumps to (act u (i.Jmpl jumps.rd jumps.rs1 jumps.op2))
      went = jumps_on u jumps.rd jumps.rs1 jumps.op2 to stands.slot live_here sum (aligned_at text to is_text has.inside)

      lands : (step_of u).npc ≡ to
      lands = ap (λ (t : State). t.npc) step ∙ went.1

  -- the registers on the way: an address that is a place of the table by what the words before give
  pub place_is : (kind : LoadKind) (rd rs1 : ℕ) (op2 : Op2) → instr_at text a.jump ≡ i.Load kind rd rs1 op2 → (c : ℕ)
      → sum_in (before_jump text a) rs1 op2 ≡ Place c → (register_of s a.compare.register ≤ a.compare.limit)
      × (sum_of (run s (to_jump a (runs_slot annul way))) rs1 op2 ≡ wrapped (c + 4 * register_of s a.compare.register))
  place_is kind rd rs1 op2 is c place =
      let x : ℕ = register_of s a.compare.register in
      let at = values_at_jump is_text r (carries is_text r goes live) goes live_here in
      let q = operands rd rs1 op2 (cc (is, decoded_range _ (slice_index text.words a.jump) refl)) in
      let means = rw place at (sum_means text is_text x (λ codes. x ≤ a.compare.limit) (before_jump text a)
      (run s (at_last a)) at.count (run-valid s (at_last a) r.valid).registers at.hold rs1 op2 q.first q.second) in
      (means.0, ap (λ k. sum_of (run s k) rs1 op2) (sym steps) ∙ means.1)

-- ---- over the blocks of a text

pub block_bounds : (b : Blocks) (block : ℕ) → AreFirsts b.words b.firsts → block < length b.firsts
    → (slice_index b.firsts block ≤ last_word b.firsts b.words block)
    × (slice_index b.firsts block + size_of b block ≡ last_word b.firsts b.words block + 1)
block_bounds b block f l =
    (omega (arith, some_words b.words b.firsts f block l), omega (arith, some_words b.words b.firsts f block l))

pub not_fall : (cond : ℕ) (annul : Bool) (target : Option WordNo) → ends.Branch cond annul target ≢ ends.Fall
not_fall cond annul target e = cc

pub ends_count : (text : Words) (given : List ℕ) → length (blocks_of text given).ends ≡ length (blocks_of text given).firsts
unfolding blocks_of
ends_count text given = length-map _ _ ∙ length-below (length (leaders text given))

pub end_at-is : (text : Words) (word : ℕ) → end_at text word ≡ end_by text word (instr_at text word)
unfolding end_at
end_at-is text word = refl

pub different : (text : Words) (c : Compare) (last : ℕ) → IsCompare (instr_at text c.word) c
    → (cond : ℕ) (annul : Bool) (disp : ℤ) → instr_at text last ≡ i.Branch cond annul disp → c.word ≢ last
different text c last is cond annul disp e same =
    let f : i.Alu ops.SUB true is.rd c.register (o.Imm (pos c.limit)) ≡ i.Branch cond annul disp =
    sym is.is ∙ ap (instr_at text) same ∙ e in
    absurd (cc)

same_target : (cond : ℕ) (annul : Bool) (target other : Option WordNo)
    → ends.Branch cond annul target ≡ ends.Branch cond annul other → target ≡ other
same_target cond annul target other e = cc

pub inside : (end last word : ℕ) → end ≡ last + 1 → word < end → word ≢ last → word < last
inside end last word e l apart = elim (cases_order word last) [
  | inl same ↦ absurd (apart same)
  | inr o ↦ elim o [ inl less ↦ less | inr more ↦ absurd (omega arith) ]
]

-- ---- the whole

-- the same up to a word before the jump
pub up_to : (text : Words) (a : Approach) (cond : ℕ) (annul : Bool) (way : EdgeKind) (s : State) (word : ℕ)
    → Ready text a cond annul way s → a.first ≤ word → word ≤ a.jump
    → Ready text (record { compare = a.compare; last = a.last; slot = a.slot; first = a.first; jump = word }) cond annul way s
up_to text a cond annul way s word r above below =
    let low : word < length text.words = let low = r.jump_low in omega arith in
    let jumping : (k : ℕ) → a.first ≤ k → k < word → transfers (instr_at text k) ≡ false =
    (λ k m l. r.jumping k m (omega (arith, l, below))) in
    search (r.at, r.branch, r.leads, r.is_compare)

pub ready : (text : Words) (given : List ℕ) (entry block : ℕ) (switch : Switch)
    → switch_of text (entered_of text given) entry block ≡ Some switch
    → (from : BlockNo) (way : EdgeKind) (cond : ℕ) (annul : Bool) (compare : Compare)
    → IsInto text (entered_of text given) block from way cond annul compare
    → (s0 : State) (start n : ℕ) → IsText text → IsValid s0 → FetchesOnly text s0 → HoldsText text s0.memory
    → BeginsAt text start s0 → (run s0 n).ending ≡ None → (run s0 n).pc ≡ address_of text compare.word
    → Ready text (approach_of text (blocks_of text given) block from.0 annul way compare) cond annul way (run s0 n)
    × IsJump text (approach_of text (blocks_of text given) block from.0 annul way compare) from.0 switch
unfolding entered_of
ready text given entry block switch h from way cond annul compare into s0 start n is_text valid0 fetches0 holds0 begins live compares =
    let list : Entered = entered_of text given in
    let b : Blocks = blocks_of text given in
    let parts : IsCut text b = cut text given is_text.some in
    let is : IsSwitch text list block from way cond annul compare switch =
    switch_of-is text list entry block switch h from way cond annul into.target compare into.edge into.branch into.sets in
    let count : length b.ends ≡ length b.firsts = ends_count text given in
    let from_in : from.0 < length b.firsts =
    in_list b from.0 count (λ e. not_fall cond annul into.target (sym into.branch ∙ e)) in
    let block_in : block < length b.firsts = in_list b block count is.block_in in
    let here = block_bounds b from.0 parts.firsts from_in in
    let last : ℕ = last_word b.firsts b.words from.0 in
    let made : Compares text (slice_index b.firsts from.0) (size_of b from.0) compare =
    compare_at-is text (slice_index b.firsts from.0) (size_of b from.0) compare into.sets in
    let end : end_by text last (instr_at text last) ≡ ends.Branch cond annul into.target =
    cc (end_at-is text last, parts.ends from.0 from_in, into.branch) in
    let branches = branch_at text last (instr_at text last) cond annul into.target end in
    let low : compare.word < last =
    inside (slice_index b.firsts from.0 + size_of b from.0) last compare.word here.1 made.last.below
    (different text compare last made.is cond annul branches.0 branches.1) in
    let target : into.target ≡ branch_target text last cond branches.0 =
    same_target cond annul into.target (branch_target text last cond branches.0) (sym end ∙ ap (end_by text last) branches.1) in (
      record {
        valid = run-valid s0 n valid0;
        fetches = λ k. code_stays.1 s0 n k ∙ fetches0 k;
        holds = holds_run text s0 n holds0;
        disp = branches.0;
        at = stands_outside text given start s0 is_text fetches0 begins from.0 compare.word n from_in made.last.above low live
            compares;
        ordered = low;
        last_low = omega (arith, ends_within b.words b.firsts parts.firsts from.0 from_in, some_words b.words b.firsts parts.firsts from.0 from_in, parts.words);
        branch = branches.1;
        other = (is_conditional cond way is.bounded).0;
        compared = λ k m l. no_transfer text b parts from.0 k from_in (omega (arith, made.last.above)) l;
        slot = refl;
        leads = goes_to_first text b from.0 block cond way branches.0 into.target is.bounded target
            (leads_in text given block from way block_in into.edge cond annul into.target into.branch);
        behind = (block_bounds b block parts.firsts block_in).0;
        jump_low = omega (arith, ends_within b.words b.firsts parts.firsts block block_in, some_words b.words b.firsts parts.firsts block block_in, parts.words);
        jumping = λ k m l. no_transfer text b parts block k block_in m l;
        bounded = is.bounded;
        is_compare = made.is;
        quiet = λ k l m. made.last.quiet k l (omega (arith, here.1));
      },
      is.jumps,
    )

pub switches_hold : SwitchesHold
unfolding entered_of
switches_hold text given entry block switch h from way cond annul compare into s0 start n is_text valid0 fetches0 holds0 begins along =
    let a : Approach = approach_of text (blocks_of text given) block from.0 annul way compare in
    let both = ready text given entry block switch h from way cond annul compare into s0 start n is_text valid0 fetches0 holds0
    begins (lived_to (run s0 n) 0 (to_jump a (runs_slot annul way)) (omega arith) along.live) along.compares in
    whole is_text both.0 along.goes along.live from.0 switch both.1
