-- The place of a slot behind the text: that of each edge which runs one.
use Rattle.edit_core.proofs.Common.{◌≡◌, ℕ, zero, suc, ◌+◌, ◌-◌, ◌<◌, ◌≤◌, ◌⊎◌, inl, inr, Bool, true, false, cond, nat_lt, List, [], ◌∷◌, ◌++◌, length, Option, Some, None, refl, ap, sym, ◌∙◌, arith, slice_get, find, flat_map, option_map, cases_Bool, cases_lt, cond_both, false_from_ne_true, false≢true, lt-ltb, nat_tests, Words, NoteRange, EdgeKind, AreFirsts, Blocks, last_word, Edge, Node, Block, Graph, edges_in, Open, is_copied, jumps_in, Each, each, each-append, range_in, filter, option_to_list, end_of, block_at, copy, each_edge, each-below, each-flat_map, each-map, each_at, is_behind, is_off, off_range, off_ranges}
use Rattle.std.proofs.lemmas.List.Folds.{find_at}
use Rattle.std.specs.List.{position_or_len}
use Rattle.cfg_blocks.specs.declared.EdgeKind.TheVariants as kinds
use Rattle.cfg_normal.specs.declared.Slot.TheVariants as slots
use Rattle.cfg_normal.specs.Graph.{case_of, copied_edges, edge_of, edges_of, landing_at, runs_slot, slot_behind, slot_on}

-- ---- edges that run a slot behind the text leave the last block

module _ (b : Blocks) (firsts : AreFirsts b.words b.firsts) where
  abbrev IsLast : Edge → Type 0
  IsLast edge = is_off edge ≡ true → edge.from ≡ Block (record { 0 = length b.firsts - 1 })

  nothing_behind : (block : ℕ) (runs : Bool)
      → is_behind (cond runs (slot_behind b.words (last_word b.firsts b.words block)) slots.Nothing) ≡ true
      → nat_lt (last_word b.firsts b.words block + 1) b.words ≡ false
  nothing_behind block false e = absurd (cc)
  nothing_behind block true e = false_from_ne_true _ (λ inside. let f = rw inside at e in absurd (cc))

  -- an edge of a block, with the slot behind it
  edge_last : (edge : Edge) (block : ℕ) (kind : EdgeKind) → block < length b.firsts → edge.from ≡ block_at block
      → edge.slot ≡ slot_on b block kind → IsLast edge
  edge_last edge block kind l from slot e =
      let none = nothing_behind block (runs_slot (end_of b block) kind) (ap is_behind (sym slot) ∙ e) in
      elim (cases_lt (suc block) (length b.firsts)) [
        | inl more ↦
            let above = firsts.ascend block (suc block) (omega arith) more in absurd (grind (arith, nat_tests))
        | inr past ↦ let last : block ≡ length b.firsts - 1 = omega arith in cc (from, last)
      ]

  -- behind the last word of a block that has a copy the text goes on
  module _ (opens : List Open) (goes_on : (block : ℕ) → is_copied opens block ≡ true
      → last_word b.firsts b.words block + 1 < b.words) where
    own_last : (block : ℕ) → block < length b.firsts → Each IsLast (edges_of b opens block)
    own_last block l =
        cond_both (jumps_in opens block) _ _ (Each IsLast) (λ _. each-map IsLast (case_of b block) _
        (each _ _ (λ node. edge_last (case_of b block node) block kinds.Case l refl refl)))
        (λ _. each-map IsLast (edge_of b opens (block_at block) block) _
        (each _ _ (λ w. edge_last (edge_of b opens (block_at block) block w) block w.kind l refl refl)))

    copied_last : (blocks : List ℕ) → Each IsLast (flat_map (copied_edges b opens) (filter (is_copied opens) blocks))
    copied_last [] = tt
    copied_last (block ∷ blocks) =
        cond_both (is_copied opens block) _ _ (λ xs. Each IsLast (flat_map (copied_edges b opens) xs)) (λ e.
        each-append IsLast (copied_edges b opens block) _ (each-map IsLast (edge_of b opens (copy block) block) _
        (each _ _ (λ w f. absurd (false≢true (sym (nothing_behind block (runs_slot (end_of b block) w.kind) f)
        ∙ lt-ltb _ _ (goes_on block e)))))) (copied_last blocks)) (λ _. copied_last blocks)

    pub all_last : Each IsLast (edges_in b opens)
    all_last =
        each_edge b opens IsLast (each-flat_map IsLast (edges_of b opens) _
        (each-below (λ block. Each IsLast (edges_of b opens block)) (length b.firsts) own_last))
        (copied_last _) (each-map IsLast landing_at _ (each _ _ (λ node e. absurd (cc))))

-- ---- their place

module _ (text : Words) (graph : Graph) (table : ℕ) where
  first_is : (from : Node) (xs : List Edge) (k : ℕ) (edge : Edge) → Each (λ e. is_off e ≡ true → e.from ≡ from) xs
      → slice_get xs k ≡ Some edge → is_off edge ≡ true → edge.from ≡ from
      → option_map (off_range text graph table) (find is_off xs) ≡ Some (off_range text graph table edge)
  first_is from [] k edge all at here same = absurd (cc)
  first_is from (x ∷ xs) zero edge all at here same = let e : x ≡ edge = cc in rw (e, here) refl
  first_is from (x ∷ xs) (suc k) edge all at here same = elim (cases_Bool (is_off x)) [
    | inl is ↦ let e : x.from ≡ edge.from = all.0 is ∙ sym same in rw (is, e) refl
    | inr is ↦ rw is (first_is from xs k edge all.1 at here same)
  ]

  -- the one place is that of each such edge
  pub off_is : graph.edges ≡ edges_in graph.blocks graph.opens → AreFirsts graph.blocks.words graph.blocks.firsts
      → ((block : ℕ) → is_copied graph.opens block ≡ true
      → last_word graph.blocks.firsts graph.blocks.words block + 1 < graph.blocks.words)
      → (number : ℕ) (edge : Edge) → slice_get graph.edges number ≡ Some edge → edge.slot ≡ slots.Off
      → off_ranges text graph table ≡ off_range text graph table edge ∷ []
  off_is edges firsts goes_on number edge at off =
      let all : Each (IsLast graph.blocks firsts) graph.edges = rw edges
      (all_last graph.blocks firsts graph.opens goes_on) in
      let here : is_off edge ≡ true = ap is_behind off in
      let last = each_at (IsLast graph.blocks firsts) graph.edges number edge all at here in
      ap option_to_list (first_is _ graph.edges number edge all at here last)

  -- what holds of nothing, and of each edge's place
  pub off_by : (P : List NoteRange → Type 0) → P [] → ((edge : Edge) → P (off_range text graph table edge ∷ []))
      → P (off_ranges text graph table)
  off_by P none some = by (find is_off graph.edges)
    where
      by : (o : Option Edge) → P (option_to_list (option_map (off_range text graph table) o))
      by None = none
      by (Some edge) = some edge

  -- there is one place at most
  pub off_few : length (off_ranges text graph table) ≤ 1
  off_few = off_by (λ rs. length rs ≤ 1) (omega arith) (λ edge. omega arith)

  -- what is so for each edge holds of the place
  pub off_each : (Q : Edge → Type 0) (P : List NoteRange → Type 0) → Each Q graph.edges → P []
      → ((edge : Edge) → Q edge → P (off_range text graph table edge ∷ [])) → P (off_ranges text graph table)
  off_each Q P all none some = by (find is_off graph.edges) refl
    where
      by : (o : Option Edge) → find is_off graph.edges ≡ o
          → P (option_to_list (option_map (off_range text graph table) o))
      by None e = none
      by (Some edge) e =
          let at = sym (find_at is_off graph.edges) ∙ e in
          some edge (each_at Q graph.edges (position_or_len is_off graph.edges) edge all at)

  -- no other address is in it
  pub ranges_beside : (ranges : List NoteRange) (a : ℕ) → (a < table) ⊎ (table + 4 ≤ a)
      → range_in (off_ranges text graph table ++ ranges) a ≡ range_in ranges a
  ranges_beside ranges a beside =
      off_by (λ rs. range_in (rs ++ ranges) a ≡ range_in ranges a) refl (λ edge. grind (arith, nat_tests))

  pub off_here : (edge : Edge) (ranges : List NoteRange)
      → range_in ((off_range text graph table edge ∷ []) ++ ranges) table ≡ Some (off_range text graph table edge)
  off_here edge ranges = grind (arith, nat_tests)
