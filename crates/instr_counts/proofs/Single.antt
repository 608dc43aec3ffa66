-- Blocks of one word each; no switch is open then: that of a comparison is no branch.
use Rattle.instr_counts.proofs.Common.{◌≤◌, ◌≡◌, ℕ, zero, suc, ◌+◌, ◌-◌, ◌<◌, length, slice_index, arith, inl, inr, Bool, false, List, [], ◌∷◌, Option, refl, ap, sym, ◌∙◌, AreFirsts, Blocks, blocks_of, holding_of, last_word, cut, IsCut, ◌==◌, cases_lt, cond_both, Words, IsText, Instr, decode_of, WordNo, BlockEnd, EdgeKind, end_at, end_by, entered_of, AreSingle, block_end, end_of, entry_leads, ends_at_next, ends_at_words, is_held, is_last, some_words, WordsAreBlocks, HasEach, NoneAreOpen, compare_at, last_setting, sets_codes}
use Rattle.std.proofs.Math.ListN.{get_or-eq_default}
use Rattle.cfg_blocks.specs.declared.BlockEnd.TheVariants as ends
use Rattle.cfg_blocks.specs.declared.Into.{Into}
use Rattle.cfg_blocks.specs.declared.Into.TheVariants as into
use Rattle.cfg_blocks.specs.declared.switches.Switch.{Switch}
use Rattle.cfg_normal.specs.Opens.{Open, candidate, candidate_behind, candidate_into, candidate_on, is_closed, opened, opens_of, with_switch}
use Rattle.switch_runs.proofs.Whole.{ends_count}

-- where each word is given, each is the last of its block
pub words_are_blocks : WordsAreBlocks
words_are_blocks text given is each block within =
    let b = blocks_of text given in
    let c = cut text given is.some in
    let first = slice_index b.firsts block in
    let some = some_words b.words b.firsts c.firsts block within in
    let last =
    is_last b.words b.firsts c.firsts first block (record { within = within; above = omega arith; below = some }) (λ more.
    let l : suc first < length text.words = omega (arith, more, c.words) in entry_leads text given (suc first) (each _ l) l) in
    omega (arith, last, some)

module _ (b : Blocks) (f : AreFirsts b.words b.firsts) (single : AreSingle b) where
  -- so a block has the number of its word
  pub first_is : (block : ℕ) → block < length b.firsts → slice_index b.firsts block ≡ block
  first_is zero l = f.begin
  first_is (suc k) l =
      omega (arith, first_is k (omega (arith, l)), single k (omega (arith, l)), ends_at_next b.words b.firsts f k l)

  end_is : (block : ℕ) → block < length b.firsts → block_end b.firsts b.words block ≡ block + 1
  end_is block l = omega (arith, first_is block l, single block l, some_words b.words b.firsts f block l)

  pub last_is : (block : ℕ) → block < length b.firsts → last_word b.firsts b.words block ≡ block
  last_is block l = omega (arith, end_is block l)

  -- and there are as many blocks as words
  pub as_many : length b.firsts ≡ b.words
  as_many =
      let last : length b.firsts - 1 < length b.firsts = omega (arith, f.some) in
      omega (arith, end_is _ last, ends_at_words b.words b.firsts f (length b.firsts - 1) (omega (arith, f.some)), f.some)

  pub holds_itself : (word : ℕ) → word < b.words → holding_of b word ≡ word
  holds_itself word l =
      let within : word < length b.firsts = omega (arith, l, as_many) in
      let first = first_is word within in
      let end = end_is word within in
      is_held b.words b.firsts f word word (record { within = within; above = omega arith; below = omega arith })

-- ---- switches

-- a branch sets no codes
branch_quiet : (text : Words) (word cond : ℕ) (annul : Bool) (target : Option WordNo) (instr : Instr)
    → end_by text word instr ≡ ends.Branch cond annul target → sets_codes instr ≡ false
branch_quiet text word cond annul target instr e = grind arith

module _ (text : Words) (given : List ℕ) (is : IsText text) (each : HasEach text given) where
  abbrev b : Blocks
  b = blocks_of text given

  c : IsCut text b
  c = cut text given is.some

  single : AreSingle b
  single = words_are_blocks text given is each

  -- a branch is a block by itself
  none_behind : (switch : Switch) (block from : ℕ) (way : EdgeKind) (end : BlockEnd) → end_of b from ≡ end
      → candidate_behind text b switch block from way end ≡ []
  unfolding end_at
  none_behind switch block from way (ends.Branch cond annul target) e = elim (cases_lt from (length b.firsts)) [
    | inl l ↦
        let first = first_is b c.firsts single from l in
        let word : slice_index b.firsts from + 0 ≡ from = omega (arith, first) in
        let quiet = branch_quiet text from cond annul target (decode_of (slice_index text.words from))
        (ap (end_at text) (sym (last_is b c.firsts single from l)) ∙ sym (c.ends from l) ∙ e) in
        ap (λ (n : ℕ). candidate_on text b switch block from way annul (compare_at text (last_setting text (slice_index b.firsts from) n))) (single from l)
        ∙ rw (word, quiet) refl
    | inr m ↦
        let past : length b.ends ≤ from = omega (arith, m, ends_count text given) in
        let none : end_of b from ≡ ends.Fall = get_or-eq_default b.ends ends.Fall past in absurd (cc)
  ]
  none_behind switch block from way _ e = refl

  none_into : (switch : Switch) (block : ℕ) (x : Into) → candidate_into text b switch block x ≡ []
  none_into switch block (into.One from way) =
      cond_both (switch.compare.0 == from.0) _ [] (λ (os : List Open). os ≡ [])
      (λ _. none_behind switch block from.0 way (end_of b from.0) refl) (λ _. refl)
  none_into switch block _ = refl

  none_opened : (switches : List Switch) → opened text (entered_of text given) [] switches ≡ []
  unfolding candidate entered_of
  none_opened [] = refl
  none_opened (switch ∷ switches) =
      let list = entered_of text given in
      let none : with_switch text list [] switch ≡ [] =
      cond_both (is_closed text list [] switch) [] (candidate text list switch) (λ (os : List Open). os ≡ [])
      (λ _. refl) (λ _. none_into switch (holding_of list.blocks switch.jump.0) _) in
      rw none (none_opened switches)

pub none_are_open : NoneAreOpen
unfolding opens_of
none_are_open text given switches is each = none_opened text given is each switches
