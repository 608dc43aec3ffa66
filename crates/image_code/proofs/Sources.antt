-- What is known of a text, its graph, its open switches and their loads, and of tables that are the graph's.
use Rattle.image_code.proofs.Common.{◌≡◌, ℕ, suc, ◌+◌, ◌-◌, ◌<◌, ◌≤◌, Bool, List, Option, Some, Result, refl, ap, sym, ◌∙◌, arith, length, get_or, cond_both, if◌then◌else◌, slice_get, slice_index, pos, find, range_with_len, Words, IsText, Instr, decoded_range, blocks_of, size_of, entered_of, Open, Node, PieceNo, Graph, cut, some_words, IsOpenSwitch, opens_are, IsGraph, about, is_in_range, runs_slot, lands, before_jump, after_slot, IfOk, Coded-set, coded_ℕ, ∥∥₁_elim, IsGraphOf, opens_in, StandsInText, IsSource, AreFound, AreLookups, IsWordOf, load_of, loads_by, or_first, is_load, load_after, or_word}
use Rattle.v8_decode.specs.declared.Instr.TheVariants as i
use Rattle.v8_decode.specs.declared.LoadKind.TheVariants as loads
use Rattle.v8_decode.specs.declared.Op2.TheVariants as operand
use Rattle.cfg_blocks.specs.Values.{followed, instr_at}
use Rattle.switch_runs.proofs.Acts.{operands}
use Rattle.switch_runs.proofs.CaseBlocks.{open_in}
use Rattle.switch_runs.proofs.Compared.{compare_at-is}
use Rattle.image_code.specs.declared.lookups.Lookups.{Lookups}
use Rattle.image_code.proofs.OpenNumbers.{word_prop, lands_word}
use Rattle.image_code.proofs.OpenBlocks.{IsTextGraph, text_graph}
use Rattle.image_code.proofs.Positions.{contains, looked_up}

-- ---- open switches

stands_in_text : (text : Words) (given : List ℕ) (entry : ℕ) → IsText text → (o : Open)
    → IsOpenSwitch text (entered_of text given) entry o → StandsInText text (blocks_of text given) o
unfolding entered_of
stands_in_text text given entry is_text o is =
    let b = blocks_of text given in
    let firsts = (cut text given is_text.some).firsts in
    let a = about text given entry is_text o is in
    let made = compare_at-is text (slice_index b.firsts o.switch.compare.0) (size_of b o.switch.compare.0)
    o.approach.compare is.parts.sets in
    record {
      some = omega (arith, made.is.some);
      register = (operands made.is.rd o.approach.compare.register (operand.Imm (pos o.approach.compare.limit))
          (ap is_in_range (sym made.is.is)
          ∙ decoded_range _ (slice_index text.words o.approach.compare.word) refl)).first;
      compare = omega (arith, a.below, is.last);
      branch = let slot = cond_both (runs_slot is.annul o.way) 1 0 (λ n. n ≤ 1) (λ _. omega arith) (λ _. omega arith) in
          omega (arith, is.last, a.slot, slot);
      from = a.from_in;
      block = a.block_in;
      first = a.first;
      jump = a.jump;
      ordered = omega (arith, a.first, a.jump, some_words b.words b.firsts firsts o.block a.block_in);
      behind = omega (arith, is.jump);
    }

pub source_is : {text : Words} {graph : Graph} → IsText text → IsGraph graph → IsGraphOf text graph → IsSource text graph
unfolding blocks_of
source_is {text = text} is_text is_graph h = record {
  is_text = is_text;
  is_graph_of = h;
  is_graph = is_graph;
  words = ap (λ (g : Graph). g.blocks.words) h.is;
  stands = λ o among. rw h.is (stands_in_text text h.given h.entry is_text o
      (open_in _ (opens_in text h.given h.entry) o (opens_are text h.given h.entry is_text) (rw h.is at among)));
}

-- an open switch of a graph
pub open_stands : {text : Words} {graph : Graph} → IsSource text graph → (k : ℕ) (o : Open)
    → slice_get graph.opens k ≡ Some o → StandsInText text graph.blocks o
open_stands {graph = graph} h k o e = h.stands o (contains graph.opens k o e)

-- one of a list that has them
pub item_stands : {text : Words} {graph : Graph} → IsSource text graph → {opens : List Open} → opens ≡ graph.opens
    → (n : ℕ) (o : Open) → n < length opens → o ≡ get_or opens n o → StandsInText text graph.blocks o
item_stands h same n o l is = open_stands h n o (looked_up _ _ n o same l is)

-- ---- their loads, as they are found from word to word

pub found_next : (p : ℕ → Bool) (word end : ℕ) → word < end → find p (range_with_len word (end - word))
    ≡ (if p word then Some word else find p (range_with_len (word + 1) (end - (word + 1))))
found_next p word end l = let more : end - word ≡ suc (end - (word + 1)) = omega arith in rw more refl

by_same : (text : Words) (o : Open) (word : ℕ) (instr : Instr)
    → is_load o.switch.table.0 (followed text (after_slot text o.approach) o.approach.first (word - o.approach.first))
    instr ≡ loads_by text o word instr
unfolding before_jump
by_same text o word (i.Load loads.LD rd rs1 op2) = refl
by_same text o word _ = refl

or_same : (o : Open) (found : Option ℕ) → or_word o.approach.first found ≡ or_first o found
or_same o found = grind arith

pub load_is : (text : Words) (o : Open)
    → load_after text (after_slot text o.approach) o.approach o.switch.table.0 ≡ load_of text o
unfolding load_after load_of
load_is text o =
    let words = range_with_len o.approach.first (o.approach.jump - o.approach.first) in
    ap (λ (p : ℕ → Bool). or_word o.approach.first (find p words)) (λ i word. by_same text o word (instr_at text word) i)
    ∙ or_same o (find (λ word. loads_by text o word (instr_at text word)) words)

-- ---- tables

module _ {text : Words} {graph : Graph} {l : Lookups} (found : ∥ AreFound text graph l ∥₁) where
  -- an open switch
  pub found_stands : {P : Type 0} → IsProp P → (k : ℕ) (o : Open) → slice_get graph.opens k ≡ Some o
      → (StandsInText text graph.blocks o → P) → P
  found_stands prop k o here so = ∥∥₁_elim found prop (λ h. so (open_stands h.source k o here))

  -- what is known of the graph
  pub known : {P : Type 0} → IsProp P → (IsTextGraph text graph → AreLookups text graph l → P) → P
  known prop so = ∥∥₁_elim found prop (λ h. so (text_graph text graph h.source.is_text h.source.is_graph_of) h.lookups)

  pub known_number : {n m : ℕ} → (IsTextGraph text graph → AreLookups text graph l → n ≡ m) → n ≡ m
  known_number so = known (Coded-set coded_ℕ _ _) so

  -- the piece with a number
  pub piece_number : {E : Type 0} (piece : Result PieceNo E) {n m : ℕ} → IfOk piece (λ p. p.0 ≡ n)
      → (IsTextGraph text graph → AreLookups text graph l → n ≡ m) → IfOk piece (λ p. p.0 ≡ m)
  piece_number piece is so = rw (known_number so) at is

  -- a word where control lands
  pub lands_within : (node : Node) (word : ℕ) → node ≡ lands graph (Some word) → word < length text.words
      → IsWordOf graph node word
  lands_within node word is low = known (word_prop graph node word) (λ g _. rw is (lands_word text graph g word low))
