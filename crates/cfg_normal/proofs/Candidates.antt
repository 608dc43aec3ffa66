-- What a candidate is, and what is true of the open switches of a text.
use Rattle.cfg_normal.proofs.Common.{◌≡◌, ℕ, zero, suc, ◌+◌, ◌<◌, Bool, true, false, ◌||◌, List, [], ◌∷◌, ◌++◌, length, Option, Some, None, refl, ap, sym, ◌∙◌, arith, cond, inl, inr, get_or, ◌==◌, nat_le, slice_index_or, All, AllPairs, list_any, sum_by, append-nil, get_or_past, All-head, All-nil, All-push, All-tail, count_by-le-length, sum_by_push, cases_lt, cond_both, eqb-true, or_parts, Words, BlockEnd, EdgeKind, Switch, Blocks, end_of, holding_of, Entered, IsBlockList, AreApart, AreOne, AreOpenIn, IsOpenIn, IsTableIn, Open, candidate, candidate_behind, candidate_into, candidate_on, is_candidate, is_closed, is_tabled, jumps_in, meets_any, open_by, opened, opens_of, targets_of, with_switch, words_from}
use Rattle.std.proofs.lemmas.List.Quantifiers.{all_pairs_push}
use Rattle.cfg_blocks.specs.declared.BlockEnd.TheVariants as ends
use Rattle.cfg_blocks.specs.declared.Into.{Into}
use Rattle.cfg_blocks.specs.declared.Into.TheVariants as into
use Rattle.cfg_blocks.specs.declared.switches.Compare.{Compare}
use Rattle.cfg_blocks.specs.Switches.{approach_of, compare_of}
use Rattle.cfg_normal.proofs.TableWords.{any_push, are_targets, none_tabled, table_is, tables_apart, tally, tally_few, tally_same, tally_table}
pub use Rattle.cfg_normal.proofs.Examples.{rows}

pub candidate_at : (text : Words) (list : Entered) (switch : Switch) (block : ℕ)
    → block ≡ holding_of list.blocks switch.jump.0
    → candidate text list switch
    ≡ candidate_into text list.blocks switch block (slice_index_or list.intos block into.Nothing)
unfolding candidate
candidate_at text list switch block at =
    ap (λ k. candidate_into text list.blocks switch k (slice_index_or list.intos k into.Nothing)) (sym at)

-- ---- a candidate is none, or one

record IsCandidate (text : Words) (b : Blocks) (switch : Switch) (o : Open) : Type 0 where
  switch_is : o.switch ≡ switch
  block_is : o.block ≡ holding_of b switch.jump.0
  targets_are : o.targets ≡ targets_of text switch
  compare : switch.compare.0 < length b.ends

-- what ends in a transfer is a block
is_block : (b : Blocks) (block : ℕ) (end : BlockEnd) → end_of b block ≡ end → (end ≡ ends.Fall → ⊥)
    → block < length b.ends
is_block b block end is other = elim (cases_lt block (length b.ends)) [
  | inl l ↦ l
  | inr m ↦ absurd (other (sym is ∙ get_or_past b.ends block ends.Fall m))
]

module _ (text : Words) (list : Entered) (switch : Switch) (P : List Open → Type 0) (none : P [])
    (one : (o : Open) → IsCandidate text list.blocks switch o → P (o ∷ [])) where
  abbrev block : ℕ
  block = holding_of list.blocks switch.jump.0

  by_on : (from : ℕ) (way : EdgeKind) (annul : Bool) (c : Option Compare) → switch.compare.0 < length list.blocks.ends
      → P (candidate_on text list.blocks switch block from way annul c)
  by_on from way annul None h = none
  by_on from way annul (Some c) h =
      let a = approach_of text list.blocks block from annul way c in
      cond_both (is_candidate text a) (open_by text switch block way a ∷ []) [] P
      (λ _. one (open_by text switch block way a)
      (record { switch_is = refl; block_is = refl; targets_are = refl; compare = h })) (λ _. none)

  by_behind : (from : ℕ) (way : EdgeKind) (end : BlockEnd) → end_of list.blocks from ≡ end
      → (switch.compare.0 == from) ≡ true → P (candidate_behind text list.blocks switch block from way end)
  by_behind from way (ends.Branch cond annul target) e same =
      let h : from < length list.blocks.ends = is_block list.blocks from _ e (λ f. absurd (cc)) in
      by_on from way annul (compare_of text list.blocks from) (rw (eqb-true switch.compare.0 from same) h)
  by_behind from way _ e same = none

  by_into : (x : Into) → P (candidate_into text list.blocks switch block x)
  by_into (into.One from way) =
      cond_both (switch.compare.0 == from.0)
      (candidate_behind text list.blocks switch block from.0 way (end_of list.blocks from.0)) [] P
      (λ h. by_behind from.0 way (end_of list.blocks from.0) refl h) (λ _. none)
  by_into _ = none

  candidate_is : P (candidate text list switch)
  unfolding candidate
  candidate_is = by_into (slice_index_or list.intos block into.Nothing)

-- ---- all of them

abbrev entries_of : List Open → ℕ
entries_of opens = sum_by (λ (o : Open). length o.targets) opens

record IsKept (text : Words) (b : Blocks) (opens : List Open) : Type 0 where
  each : All (IsOpenIn b) opens
  one : AreOne opens
  tables : All (λ (o : Open). IsTableIn text o.switch) opens
  apart : AllPairs AreApart opens
  entries : entries_of opens ≡ tally (is_tabled text opens) (length text.words)

one_more : (opens : List Open) (o : Open) → AreOne opens → jumps_in opens o.block ≡ false → AreOne (opens ++ o ∷ [])
one_more [] o one new = (refl, tt)
one_more (x ∷ opens) o one new =
    let parts = or_parts (x.block == o.block) (jumps_in opens o.block) new in (
      any_push (λ (p : Open). p.block == x.block) opens o ∙ rw one.0 (eqb-sym o.block x.block ∙ parts.0),
      one_more opens o one.1 parts.1,
    )
  where
    eqb-sym : (m n : ℕ) → (m == n) ≡ (n == m)
    eqb-sym m n = grind arith

module _ (text : Words) (list : Entered) (made : list.blocks.words ≡ length text.words) (is : IsBlockList list) where
  abbrev b : Blocks
  b = list.blocks

  more : (opens : List Open) (switch : Switch) → IsTableIn text switch → IsKept text b opens
      → is_closed text list opens switch ≡ false → (o : Open) → IsCandidate text b switch o
      → IsKept text b (opens ++ o ∷ [])
  more opens switch table kept new o c =
      let parts = or_parts (jumps_in opens (holding_of b switch.jump.0)) (meets_any text opens switch) new in
      let t = are_targets text switch table in
      let words = table_is text switch table.begins table.at in
      let n = length text.words in
      let count : length o.targets ≡ switch.count = ap length c.targets_are ∙ t.count in
      let tables : (k : ℕ) → is_tabled text (opens ++ o ∷ []) k
      ≡ (is_tabled text opens k || list_any (λ x. x == k) (words_from table.begins switch.count)) =
      (λ k. rw (any_push, c.switch_is, words) refl) in
      let tallied : tally (is_tabled text (opens ++ o ∷ [])) n ≡ tally (is_tabled text opens) n + switch.count =
      tally_same _ _ n (λ k h. tables k)
      ∙ tally_table (is_tabled text opens) table.begins switch.count n table.within
      (ap (list_any (is_tabled text opens)) (sym words) ∙ parts.1) in
      record {
        each = All-push (IsOpenIn b) opens o kept.each (record {
          block = rw c.block_is (omega (arith, count_by-le-length (λ first. nat_le first switch.jump.0) b.firsts, is.firsts.some));
          compare = rw c.switch_is (omega (arith, c.compare, is.ends));
          some = omega (arith, table.some);
          targets = rw (c.targets_are, made) t.within;
        });
        tables = All-push (λ (p : Open). IsTableIn text p.switch) opens o kept.tables (rw c.switch_is table);
        apart = all_pairs_push AreApart opens o kept.apart (λ k d l.
            rw c.switch_is (tables_apart text (get_or opens k d).switch switch (kept.tables k d l) table
            (none_tabled text opens table.begins switch.count
            (ap (list_any (is_tabled text opens)) (sym words) ∙ parts.1) k d l)));
        one = one_more opens o kept.one (ap (jumps_in opens) c.block_is ∙ parts.0);
        entries = sum_by_push (λ (o : Open). length o.targets) opens o ∙ omega (arith, kept.entries);
      }

  kept_all : (opens : List Open) (switches : List Switch) → All (IsTableIn text) switches → IsKept text b opens
      → IsKept text b (opened text list opens switches)
  kept_all opens [] tables kept = kept
  kept_all opens (switch ∷ switches) tables kept =
      kept_all (with_switch text list opens switch) switches (All-tail (IsTableIn text) switch switches tables)
      (cond_both (is_closed text list opens switch) opens (opens ++ candidate text list switch) (IsKept text b)
      (λ _. kept)
      (λ new. candidate_is text list switch (λ os. IsKept text b (opens ++ os)) (rw append-nil kept)
      (more opens switch (All-head (IsTableIn text) switch switches tables) kept new)))

  pub opens_are : (switches : List Switch) → All (IsTableIn text) switches → AreOpenIn b (opens_of text list switches)
  unfolding opens_of
  opens_are switches tables =
      let kept = kept_all [] switches tables (record {
        each = All-nil (IsOpenIn b);
        one = tt;
        tables = All-nil (λ (o : Open). IsTableIn text o.switch);
        apart = λ i j d l m. absurd (omega arith);
        entries = sym (none_tallied (length text.words));
      }) in
      record {
        each = kept.each;
        one = kept.one;
        apart = kept.apart;
        entries = omega (arith, kept.entries, made, tally_few (is_tabled text (opened text list [] switches)) (length text.words));
      }
    where
      none_tallied : (n : ℕ) → tally (is_tabled text []) n ≡ 0
      none_tallied zero = refl
      none_tallied (suc n) = omega (arith, none_tallied n)
