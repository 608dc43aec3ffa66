-- The graph of an original, with its open switches.
use Rattle.edit_core.proofs.Common.{flat_map, ◌≡◌, ℕ, ◌+◌, ◌-◌, ◌*◌, ◌<◌, ◌≤◌, ◌==◌, inl, inr, true, false, Bool, List, [], ◌∷◌, length, length-append, refl, ap, sym, ◌∙◌, arith, slice_index, list_any, sum_by, cases_Bool, eq-eqb, eqb-true, false_from_ne_true, false≢true, nat_tests, lt-ltb, length-map, sum_by-cons, Words, IsText, image_of, Blocks, blocks_of, holding_of, is_among, last_word, entered_of, Node, Block, Landed, X, Graph, edges_in, IsEdgeIn, IsGraph, IsNodeIn, is_node, node_number, Open, is_copied, jumps_in, cut, Each, IsGraphOf, opens_in, case_numbers, text_graph, Plan, or_cases, compares_in, IsCut, entry_leads, first_held, cases_of, are_open, is_list}
use Rattle.cfg_normal.proofs.GraphFacts.{is_graph}
use Rattle.switch_runs.proofs.About.{about}
use Rattle.switch_runs.proofs.Opened.{opens_are}
use Rattle.edit_core.specs.Written.{given_of, graph_in, text_of}

pub graph_is : (original : List ℕ) (plan : Plan) → IsGraphOf (text_of original plan) (graph_in original plan)
graph_is original plan = record { given = given_of original plan; entry = (image_of original).entry; is = refl }

-- the number of a node
pub record IsNumber (graph : Graph) (number : ℕ) : Type 0 where
  pub few : number ≤ 2 * length graph.blocks.firsts
  pub is : is_node graph number ≡ true

pub number_of : (graph : Graph) (node : Node) → IsNodeIn graph.blocks graph.opens node
    → IsNumber graph (node_number graph node)
number_of graph (Block k) l = record { few = omega (arith, l); is = grind (arith, nat_tests) }
number_of graph (Landed k) l = record {
  few = omega (arith, l.0);
  is = let e : length graph.blocks.firsts + 1 + k.0 - (length graph.blocks.firsts + 1) ≡ k.0 = omega arith in
      rw (lt-ltb (length graph.blocks.firsts) (length graph.blocks.firsts + 1 + k.0) (omega arith), e) l.1;
}
number_of graph X l = record { few = omega arith; is = grind (arith, nat_tests) }

module _ (text : Words) (graph : Graph) (is_text : IsText text) (h : IsGraphOf text graph) where
  pub graph_cut : IsCut text graph.blocks
  graph_cut = (text_graph text graph is_text h).cut

  pub graph_facts : IsGraph graph
  unfolding entered_of
  graph_facts =
      rw h.is (is_graph (entered_of text h.given) (opens_in text h.given h.entry)
      (edges_in (blocks_of text h.given) (opens_in text h.given h.entry)) (is_list text h.given h.entry is_text)
      (are_open text h.given h.entry is_text) refl)

  pub edges_inside : Each (IsEdgeIn graph.blocks graph.opens) graph.edges
  edges_inside = (text_graph text graph is_text h).edges

  -- ---- entries

  cases_count : (opens : List Open) → length (flat_map (cases_of text graph) opens)
      ≡ sum_by (λ (o : Open). length o.targets) opens
  cases_count [] = refl
  cases_count (o ∷ opens) = simp (length-append, length-map, cases_count opens, sum_by-cons)

  -- there are no more entries than words
  pub entries_few : length (case_numbers text graph) ≤ length text.words
  entries_few = let few = (text_graph text graph is_text h).entries in omega (arith, cases_count graph.opens)

-- ---- blocks of open switches

from_any : {A G : Type 0} (p : A → Bool) (Q : A → Type 0) (xs : List A) → Each Q xs → list_any p xs ≡ true
    → ((x : A) → p x ≡ true → Q x → G) → G
from_any p Q [] each any some = absurd (cc)
from_any p Q (x ∷ xs) each any some = elim (cases_Bool (p x)) [
  | inl e ↦ some x e each.0
  | inr e ↦ from_any p Q xs each.1 (rw e at any) some
]

module _ (text : Words) (given : List ℕ) (entry : ℕ) (is_text : IsText text) where
  abbrev its : Blocks
  its = blocks_of text given

  abbrev opened : List Open
  opened = opens_in text given entry

  -- behind the last word of a block that has a copy comes a word
  pub copied_inside : (block : ℕ) → is_copied opened block ≡ true → last_word its.firsts its.words block + 1 < its.words
  unfolding entered_of
  copied_inside block copied =
      let words = (cut text given is_text.some).words in
      let are = opens_are text given entry is_text in
      elim (or_cases (jumps_in opened block) (compares_in opened block) copied) [
        | inl any ↦ from_any (λ (o : Open). o.block == block) _ opened are any (λ o at is.
            let a = about text given entry is_text o is in
            let jump = is.jump in
            let e : o.block ≡ block = eqb-true o.block block at in
            rw (← e) (omega (arith, words, jump, a.jump)))
        | inr any ↦ from_any (λ (o : Open). o.switch.compare.0 == block) _ opened are any (λ o at is.
            let a = about text given entry is_text o is in
            let last = is.last in
            let e : o.switch.compare.0 ≡ block = eqb-true o.switch.compare.0 block at in
            rw (← e) (omega (arith, words, last, a.last)))
      ]

  -- the program is entered at the block of no open switch's jump
  pub entry_apart : is_among given entry ≡ true → entry < length text.words
      → jumps_in opened (holding_of its entry) ≡ false
  unfolding entered_of
  entry_apart among low = false_from_ne_true (jumps_in opened (holding_of its entry)) (λ e.
      from_any (λ (o : Open). o.block == holding_of its entry) _ opened (opens_are text given entry is_text) e (λ o at is.
      let begins : slice_index its.firsts (holding_of its entry) ≡ entry =
      first_held its.words its.firsts (cut text given is_text.some).firsts entry (entry_leads text given entry among low) in
      absurd (false≢true (sym (about text given entry is_text o is).apart
      ∙ eq-eqb _ _ (ap (slice_index its.firsts) (eqb-true o.block (holding_of its entry) at) ∙ begins)))))
