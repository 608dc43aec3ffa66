-- What is known of an open switch without a run: its jump's block, and a target for each entry of its table.
use Rattle.switch_runs.proofs.Common.{◌≡◌, ℕ, zero, suc, ◌+◌, ◌<◌, true, List, [], ◌∷◌, ◌++◌, length, Option, Some, None, refl, ap, sym, ◌∙◌, arith, slice_get, slice_index, slice_index_or, Contains, flat_map, is_some, option_to_list, false≢true, length-map, Words, word_at, IsText, common_steps, Switch, Blocks, below, blocks_of, entered_of, get_or-below, length-below, IsTableIn, Open, targets_of, words_from, IsCut, cut, some_words, Each, each-below, each-map, each_in, IsJump, switch_of-is, table_in, IsOpenSwitch, CaseBlocks, IsCaseBlock}
use Rattle.cfg_normal.proofs.TableWords.{are_targets, entry_in, targets_are}
use Rattle.switch_runs.proofs.About.{About, about}
use Rattle.switch_runs.proofs.Blocks.{no_transfer}
use Rattle.switch_runs.proofs.Loading.{has_load}
use Rattle.switch_runs.proofs.Opened.{opens_are_one}
use Rattle.switch_runs.proofs.Opened.{opens_are}
pub use Rattle.switch_runs.proofs.Examples.{into}

-- ---- the targets of a table, one for each entry

target_at : (f : ℕ → List ℕ) (words : List ℕ) (k d to : ℕ) → Each (λ w. (y : ℕ) × (f w ≡ y ∷ [])) words
    → k < length words → f (slice_index_or words k d) ≡ to ∷ [] → slice_get (flat_map f words) k ≡ Some to
target_at f [] k d to h l e = absurd (omega arith)
target_at f (w ∷ words) zero d to h l e = ap (λ ys. slice_get (ys ++ flat_map f words) zero) e
target_at f (w ∷ words) (suc k) d to h l e = cc (h.0.1, target_at f words k d to h.1 (omega (arith, l)) e)

pub some_of : (x : Option ℕ) → is_some x ≡ true → (y : ℕ) × (x ≡ Some y)
some_of None e = absurd (false≢true e)
some_of (Some y) e = (y, refl)

target_of : (text : Words) (switch : Switch) (t : IsTableIn text switch) (k : ℕ) → k < switch.count
    → slice_get (targets_of text switch) k ≡ word_at text (slice_index text.words (t.begins + k))
target_of text switch t k l =
    let to = some_of (word_at text (slice_index text.words (t.begins + k))) (t.leads k l) in
    ap (λ ys. slice_get ys k) (targets_are text switch t.begins t.at)
    ∙ target_at (entry_in text) (words_from t.begins switch.count) k 0 to.0
    (each-map (λ w. (y : ℕ) × (entry_in text w ≡ y ∷ [])) (λ j. t.begins + j) (below switch.count)
    (each-below (λ j. (y : ℕ) × (entry_in text (t.begins + j) ≡ y ∷ [])) switch.count (λ j m.
    let y = some_of (word_at text (slice_index text.words (t.begins + j))) (t.leads j m) in
    (y.0, ap (λ (o : Option ℕ). option_to_list o) y.1))))
    (omega (arith, l, length-map (below switch.count) (λ j. t.begins + j), length-below switch.count))
    (ap (entry_in text) here ∙ ap (λ (o : Option ℕ). option_to_list o) to.1) ∙ sym to.1
  where
    here : slice_index_or (words_from t.begins switch.count) k 0 ≡ t.begins + k
    here = grind (arith, common_steps, length-below switch.count, get_or-below switch.count k 0)

-- ---- what is known of the block

pub case_block : (text : Words) (given : List ℕ) (entry : ℕ) → IsText text → (o : Open)
    → (is : IsOpenSwitch text (entered_of text given) entry o) → IsCaseBlock text (blocks_of text given) o
unfolding entered_of
case_block text given entry is_text o is =
    let table = table_in text o.switch (let next = is.jump in let at = jumps.at in omega arith)
    (let c = jumps.count in omega arith) a.table in
    record {
      within = a.block_in;
      first = a.first;
      last = a.jump;
      ordered = omega (arith, a.first, a.jump, some_words b.words b.firsts parts.firsts o.block a.block_in);
      behind = is.jump;
      straight = λ word above below.
          no_transfer text b parts o.block word a.block_in (omega (arith, a.first, above))
          (omega (arith, a.jump, below));
      rd = jumps.rd;
      rs1 = jumps.rs1;
      op2 = jumps.op2;
      jumps = jumps.is;
      jump = jumps.at;
      loaded = has_load text o is.loads jumps;
      table = table;
      count = ap length is.targets ∙ (are_targets text o.switch table).count;
      targets = λ number below.
          cc (is.targets, target_of text o.switch table number below);
    }
  where
    b : Blocks
    b = blocks_of text given

    parts : IsCut text b
    parts = cut text given is_text.some

    a : About text b entry o is.cond is.annul
    a = about text given entry is_text o is

    jumps : IsJump text o.approach o.switch.compare.0 o.switch
    jumps =
        rw is.approach
        (switch_of-is text (entered_of text given) entry o.block o.switch is.is_switch o.switch.compare o.way is.cond
        is.annul is.parts.target o.approach.compare is.parts.edge is.parts.branch is.parts.sets).jumps

pub open_in : (P : Open → Type 0) (opens : List Open) (o : Open) → Each P opens → Contains opens o → P o
open_in P opens o all (k, l, e) = rw e at (each_in P opens k o all l)

pub case_blocks : CaseBlocks
unfolding entered_of
case_blocks text given entry is_text o among =
    let all = opens_are text given entry is_text in
    let is = open_in (IsOpenSwitch text (entered_of text given) entry) _ o all among in (
      case_block text given entry is_text o is,
      λ other there.
          opens_are_one text (entered_of text given) entry o other is
          (open_in (IsOpenSwitch text (entered_of text given) entry) _ other all there),
    )
