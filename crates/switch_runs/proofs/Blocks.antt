-- The words of a block, and where a branch that ends one leads.
use Rattle.switch_runs.proofs.Common.{◌≡◌, ℕ, ◌+◌, ◌<◌, ◌≤◌, Bool, true, false, ◌&&◌, ◌||◌, [], Option, Some, None, length, slice_index, refl, ap, sym, ◌∙◌, arith, inl, inr, cases_Bool, if◌then◌else◌, ◌==◌, ℤ, nat_tests, WordNo, Words, address_of, numbered, Instr, transfers, EdgeKind, branch_target, end_at, end_by, is_transfer, Blocks, holding_of, last_word, bounds, is_taken, instr_at, word_at-some, IsCut, IsIn, Leads, ends_within, is_held, some_words, end_is, transfer_ends, number_of-numbered, within_some}
use Rattle.eel_base.specs.CodeText.{target_of}
use Rattle.v8_decode.specs.declared.Instr.TheVariants as i
use Rattle.cfg_blocks.specs.declared.EdgeKind.TheVariants as kinds
use Rattle.switch_runs.proofs.Coming.{goes_to}
use Rattle.switch_runs.proofs.Into.{LeadsIn}

-- ---- transfers

transfer_end : (text : Words) (word : ℕ) (instr : Instr) → transfers instr ≡ true
    → is_transfer (end_by text word instr) ≡ true
transfer_end text word (i.Branch cond annul disp22) e = refl
transfer_end text word (i.Call disp30) e = refl
transfer_end text word (i.Jmpl rd rs1 op2) e = refl
transfer_end text word _ e = absurd (cc)

pub transfer_at : (text : Words) (word : ℕ) → transfers (instr_at text word) ≡ true
    → is_transfer (end_at text word) ≡ true
transfer_at text word e =
    cc (end_is text word (instr_at text word) refl, transfer_end text word (instr_at text word) e)

module _ (text : Words) (b : Blocks) (c : IsCut text b) (block word : ℕ) (l : block < length b.firsts)
    (above : slice_index b.firsts block ≤ word) (below : word < last_word b.firsts b.words block) where
  stands_in : (n : ℕ) → word ≤ n → n ≤ word + 1 → IsIn b.words b.firsts n block
  stands_in n m k = record { within = l; above = omega arith; below = omega arith }

  -- a word of a block but its last is no transfer
  pub no_transfer : transfers (instr_at text word) ≡ false
  no_transfer = elim (cases_Bool (transfers (instr_at text word))) [
    | inr e ↦ e
    | inl e ↦
        let inside : word < b.words = omega (arith, ends_within b.words b.firsts c.firsts block l) in
        let ends = transfer_ends text b [] c word inside (transfer_at text word e) in
        let held = is_held b.words b.firsts c.firsts word block (stands_in word (omega arith) (omega arith)) in
        let same : word ≡ last_word b.firsts b.words block = ends ∙ ap (last_word b.firsts b.words) held in
        absurd (omega arith)
  ]

  -- no block begins right behind it
  pub no_leader : Leads b.firsts (word + 1) → ⊥
  no_leader leads =
      let here : holding_of b (word + 1) ≡ block =
      is_held b.words b.firsts c.firsts (word + 1) block (stands_in (word + 1) (omega arith) (omega arith)) in
      let there : holding_of b (word + 1) ≡ leads.block =
      is_held b.words b.firsts c.firsts (word + 1) leads.block (record {
        within = leads.within;
        above = omega (arith, leads.is);
        below = omega (arith, leads.is, some_words b.words b.firsts c.firsts leads.block leads.within);
      }) in
      let first : slice_index b.firsts block ≡ word + 1 = ap (slice_index b.firsts) (sym here ∙ there) ∙ leads.is in
      absurd (omega arith)

-- ---- a branch whose way is bounded

-- neither `ba` nor `bn`
pub is_conditional : (cond : ℕ) (way : EdgeKind) → bounds cond way ≡ true → ((cond == 8) ≡ false) × ((cond == 0) ≡ false)
is_conditional cond way h = (grind (arith, nat_tests), grind (arith, nat_tests))

pub not_bounded : (cond : ℕ) → ((cond == 12) && false || (cond == 4) && false) ≡ true → ⊥
not_bounded cond h = grind arith

-- the edge goes to the first word of the block into which it leads
pub goes_to_first : (text : Words) (b : Blocks) (from block cond : ℕ) (way : EdgeKind) (disp : ℤ) (target : Option WordNo)
    → bounds cond way ≡ true → target ≡ branch_target text (last_word b.firsts b.words from) cond disp
    → LeadsIn b from block way target
    → goes_to text (last_word b.firsts b.words from) disp (is_taken way) ≡ address_of text (slice_index b.firsts block)
goes_to_first text b from block cond kinds.Taken disp target h is leads =
    let last = last_word b.firsts b.words from in
    let some : branch_target text last cond disp ≡ numbered (target_of text last disp) =
    ap (λ (n : Bool). if n then None else numbered (target_of text last disp)) (is_conditional cond kinds.Taken h).1 in
    let to : target_of text last disp ≡ Some (slice_index b.firsts block) =
    cc (number_of-numbered (target_of text last disp), some, is, leads.taken refl) in
    (word_at-some text (goes_to text last disp true) (slice_index b.firsts block) to).is
goes_to_first text b from block cond kinds.Untaken disp target h is leads =
    ap (address_of text)
    (within_some b.words (last_word b.firsts b.words from + 2) (slice_index b.firsts block) (leads.untaken refl)).1
goes_to_first text b from block cond _ disp target h is leads = absurd (not_bounded cond h)
