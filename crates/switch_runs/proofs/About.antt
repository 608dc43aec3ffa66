-- The words about an open switch.
use Rattle.switch_runs.proofs.Common.{◌≡◌, ℕ, zero, suc, ◌+◌, ◌*◌, ◌<◌, ◌≤◌, Bool, true, false, ◌&&◌, nat_lt, List, [], ◌∷◌, length, Option, Some, None, refl, ap, sym, ◌∙◌, arith, slice_index, if◌then◌else◌, ◌==◌, slice_index_or, ℤ, Contains, flat_map, list_any, option_to_list, append-nil, length-map, get_or-below, length-below, eq-eqb, false≢true, lt-ltb, or_left, or_right, common_steps, Words, word_at, IsText, Approach, Switch, end_by, Blocks, below, blocks_of, last_word, size_of, Entered, entered_of, bounds, is_table, is_table_at, runs_slot, instr_at, word_at-some, Open, targets_in, targets_of, words_from, IsCut, cut, IsSwitch, branch_at, in_list, switch_of-is, IsOpenSwitch}
use Rattle.std.proofs.lemmas.List.Folds.{list_any-append}
use Rattle.v8_decode.specs.declared.Instr.TheVariants as i
use Rattle.cfg_blocks.specs.declared.BlockEnd.TheVariants as ends
use Rattle.switch_runs.proofs.Compared.{Compares, compare_at-is}
use Rattle.switch_runs.proofs.Opened.{found_in}
use Rattle.switch_runs.proofs.Whole.{block_bounds, different, end_at-is, ends_count, inside, not_fall}

abbrev count_if : Bool → ℕ
count_if x = if x then 1 else 0

only_runs : (x y : Bool) → y ≡ true → count_if (x && y) ≡ count_if x
only_runs x y h = grind arith

pub record About (text : Words) (b : Blocks) (entry : ℕ) (o : Open) (cond : ℕ) (annul : Bool) : Type 0 where
  pub from_in : o.switch.compare.0 < length b.firsts
  pub block_in : o.block < length b.firsts
  pub last : o.approach.last ≡ last_word b.firsts b.words o.switch.compare.0
  pub first : o.approach.first ≡ slice_index b.firsts o.block
  pub jump : o.approach.jump ≡ last_word b.firsts b.words o.block
  pub slot : o.approach.slot ≡ (if runs_slot annul o.way then 1 else 0)
  pub disp : ℤ
  pub branch : instr_at text o.approach.last ≡ i.Branch cond annul disp
  pub bounded : bounds cond o.way ≡ true
  pub above : slice_index b.firsts o.switch.compare.0 ≤ o.approach.compare.word
  pub below : o.approach.compare.word < o.approach.last
  pub apart : (slice_index b.firsts o.block == entry) ≡ false
  pub table : is_table text o.switch.table.0 o.switch.count ≡ true

pub about : (text : Words) (given : List ℕ) (entry : ℕ) → IsText text → (o : Open)
    → (is : IsOpenSwitch text (entered_of text given) entry o) → About text (blocks_of text given) entry o is.cond is.annul
unfolding entered_of
about text given entry is_text o is =
    let list : Entered = entered_of text given in
    let b : Blocks = blocks_of text given in
    let parts : IsCut text b = cut text given is_text.some in
    let s : IsSwitch text list o.block o.switch.compare o.way is.cond is.annul o.approach.compare o.switch =
    switch_of-is text list entry o.block o.switch is.is_switch o.switch.compare o.way is.cond is.annul is.parts.target
    o.approach.compare is.parts.edge is.parts.branch is.parts.sets in
    let count : length b.ends ≡ length b.firsts = ends_count text given in
    let from_in : o.switch.compare.0 < length b.firsts =
    in_list b o.switch.compare.0 count (λ e. not_fall is.cond is.annul is.parts.target (sym is.parts.branch ∙ e)) in
    let block_in : o.block < length b.firsts = in_list b o.block count s.block_in in
    let here = block_bounds b o.switch.compare.0 parts.firsts from_in in
    let last : ℕ = last_word b.firsts b.words o.switch.compare.0 in
    let made : Compares text (slice_index b.firsts o.switch.compare.0) (size_of b o.switch.compare.0) o.approach.compare =
    compare_at-is text (slice_index b.firsts o.switch.compare.0) (size_of b o.switch.compare.0) o.approach.compare is.parts.sets in
    let end : end_by text last (instr_at text last) ≡ ends.Branch is.cond is.annul is.parts.target =
    cc (end_at-is text last, parts.ends o.switch.compare.0 from_in, is.parts.branch) in
    let branches = branch_at text last (instr_at text last) is.cond is.annul is.parts.target end in
    let last_is : o.approach.last ≡ last = ap (λ (a : Approach). a.last) is.approach in
    let low : o.approach.compare.word < last =
    inside (slice_index b.firsts o.switch.compare.0 + size_of b o.switch.compare.0) last o.approach.compare.word here.1
    made.last.below (different text o.approach.compare last made.is is.cond is.annul branches.0 branches.1) in
    let room : nat_lt (last + 1) (length text.words) ≡ true = lt-ltb _ _ (rw last_is at is.last) in
    let slot : o.approach.slot ≡ (if runs_slot is.annul o.way then 1 else 0) =
    cc (is.approach, only_runs (runs_slot is.annul o.way) (nat_lt (last + 1) (length text.words)) room) in
    let below : o.approach.compare.word < o.approach.last = omega (arith, last_is, low) in
    search (
      ap (λ (a : Approach). a.first) is.approach,
      ap (λ (a : Approach). a.jump) is.approach,
      ap (instr_at text) last_is ∙ branches.1,
      s.bounded,
      made.last.above,
      (found_in text list o.block o.switch entry is.is_switch).2,
      ap (is_table text o.switch.table.0) s.jumps.count ∙ s.jumps.table,
    )

-- ---- the entries of a table are among the targets

any_flat : {X A : Type 0} (p : A → Bool) (f : X → List A) (xs : List X) (x : X) → Contains xs x
    → list_any p (f x) ≡ true → list_any p (flat_map f xs) ≡ true
any_flat p f [] x (k, l, e) h = absurd (omega arith)
any_flat p f (y ∷ ys) x (zero, l, e) h =
    list_any-append p (f y) (flat_map f ys) ∙ or_left _ _ (ap (λ z. list_any p (f z)) e ∙ h)
any_flat p f (y ∷ ys) x (suc k, l, e) h =
    list_any-append p (f y) (flat_map f ys) ∙ or_right _ _ (any_flat p f ys x (k, omega (arith, l), e) h)

any_from : (p : ℕ → Bool) (text : Words) (from count number to : ℕ) → number < count
    → word_at text (slice_index text.words (from + number)) ≡ Some to → p to ≡ true
    → list_any p (flat_map (λ word. option_to_list (word_at text (slice_index text.words word))) (words_from from count)) ≡ true
any_from p text from count number to l is h =
    any_flat p (λ word. option_to_list (word_at text (slice_index text.words word))) (words_from from count) (from + number)
    (number, in_range, at_number) (ap (λ o. list_any p (option_to_list o)) is ∙ or_left _ _ h)
  where
    in_range : number < length (words_from from count)
    in_range = omega (arith, l, length-map (below count) (λ k. from + k), length-below count)

    at_number : slice_index_or (words_from from count) number (from + number) ≡ from + number
    at_number = grind (arith, common_steps, length-below count, get_or-below count number 0)

pub target_among : (text : Words) (switch : Switch) (number entry to : ℕ) → IsText text
    → is_table text switch.table.0 switch.count ≡ true → number < switch.count
    → word_at text (switch.table.0 + 4 * number) ≡ Some entry → word_at text (slice_index text.words entry) ≡ Some to
    → list_any (λ x. x == to) (targets_of text switch) ≡ true
unfolding targets_of
target_among text switch number entry to is_text table l at goes = by (word_at text switch.table.0) refl table
  where
    f : ℕ → List ℕ
    f word = option_to_list (word_at text (slice_index text.words word))

    by : (o : Option ℕ) → word_at text switch.table.0 ≡ o → is_table_at text switch.count o ≡ true
        → list_any (λ x. x == to) (flat_map (λ word. option_to_list (word_at text (slice_index text.words word)))
        (flat_map (λ from. words_from from switch.count) (option_to_list (word_at text switch.table.0)))) ≡ true
    by None e h = absurd (false≢true h)
    by (Some from) e h =
        let there = word_at-some text (switch.table.0 + 4 * number) entry at in
        let same : entry ≡ from + number = omega (arith, (word_at-some text switch.table.0 from e).is, there.is) in
        rw e (rw (append-nil (words_from from switch.count))
        (any_from (λ x. x == to) text from switch.count number to l
        (ap (λ w. word_at text (slice_index text.words w)) (sym same) ∙ goes) (eq-eqb to to refl)))

pub in_targets : (p : ℕ → Bool) (opens : List Open) (o : Open) (k : ℕ) → Contains opens o → o.block ≡ k
    → list_any p o.targets ≡ true → list_any p (targets_in opens k) ≡ true
in_targets p opens o k among is h =
    any_flat p (λ (x : Open). if x.block == k then x.targets else []) opens o among (cc (eq-eqb o.block k is, h))
