-- Where the tables lead: to places of pieces that are there.
use Rattle.edit_core.proofs.Common.{◌≡◌, ℕ, ◌+◌, ◌^◌, ◌<◌, ◌≤◌, Addr, List, length, map, get_or, slice_index, ap, sym, ◌∙◌, arith, map-map, get_or-map, length-map, PieceNo, Program, TableAt, below, holding_of, Graph, block, node_is, Item, Placement, long_bytes, AreFit, PiecesFit, lands_at, case_numbers, text_graph, slice_get-get_or, in_held, enter_below, Request, addr, case_places, cells_size, landings_of, table_after, tables_size, AreTablesOf, TablesMatch, AreInside, AreLaid, AreMade, HasRoom, IsBuilt, count_is}
use Rattle.cfg_blocks.proofs.Below.{get_or-below, length-below}
use Rattle.edit_core.proofs.Graphs.{entries_few, graph_cut}
use Rattle.edit_core.proofs.Steps.{new_fit, new_room}

-- f of each number below n
pub map_below : {A : Type 0} (f : ℕ → A) (n k : ℕ) (d : A) → k < n → get_or (map f (below n)) k d ≡ f k
map_below f n k d l = get_or-map f (below n) k 0 d (omega (arith, l, length-below n)) ∙ ap f (get_or-below n k 0 l)

-- ---- the pieces that were made of a view, and where they were placed

module _ {image : Program} {graph : Graph} {request : Request} {pieces : List (List Item)} {words ways : List PieceNo}
    {outside begin : PieceNo} (made : AreMade image graph request pieces words ways outside begin) where
  abbrev landing : ℕ → ℕ
  landing = lands_at image.text graph request.snips.items

  pub landings_count : length words ≡ length image.text.words
  landings_count =
      sym (length-map words (λ (n : PieceNo). n.0)) ∙ ap length made.landing
      ∙ length-map (below (length image.text.words)) landing ∙ length-below (length image.text.words)

  pub cases_count : length ways ≡ length (case_numbers image.text graph)
  cases_count = sym (length-map ways (λ (n : PieceNo). n.0)) ∙ ap length made.cases

  -- tables that lead to their places are those of the edit
  pub tables_lead : (p : Placement) (table : TableAt)
      → AreTablesOf image.text (map (λ (n : PieceNo). addr (slice_index p.at n.0)) words)
      (addr (slice_index p.at outside.0)) (map (λ (n : PieceNo). slice_index p.at n.0) ways) table
      → TablesMatch image.text graph request.snips.items p table
  tables_lead p table are =
      let place : ℕ → Addr = λ k. addr (slice_index p.at k) in
      let landings : map (λ (n : PieceNo). place n.0) words ≡ landings_of image.text graph request.snips.items p =
      sym (map-map place (λ (n : PieceNo). n.0) words) ∙ ap (map place) made.landing
      ∙ map-map place landing (below (length image.text.words)) in
      let cases : map (λ (n : PieceNo). slice_index p.at n.0) ways ≡ case_places image.text graph p =
      cc (map-map (λ (k : ℕ). slice_index p.at k) (λ (n : PieceNo). n.0) ways, made.cases) in
      rw cases at (rw made.foreign at (rw landings at are))

  -- and the code is that of the edit
  pub code_built : (p : Placement) (place : ℕ → ℕ → ℕ) → AreLaid pieces
      (table_after image.base request.cells + (tables_size image.text + cells_size (length ways))) p place
      → IsBuilt image.text graph image.base request.cells request.snips.items p
  code_built p place laid = record {
    dead = made.dead;
    exact = made.exact;
    place = place;
    are = rw cases_count at (rw made.list at laid);
  }

  -- ---- where there is room

  module _ (fits : PiecesFit) (can : HasRoom image graph request) where
    pub made_fit : AreFit image.text graph request.snips.items pieces
    made_fit = rw made.list (new_fit fits can made.dead)

    -- all of them are there
    pub made_inside : AreInside (length pieces) words ways outside begin
    made_inside = record {
      landing = λ k d l.
          let inside : k < length image.text.words = omega (arith, l, landings_count) in
          let number : (get_or words k d).0 ≡ landing k =
          cc (get_or-map (λ (n : PieceNo). n.0) words k d 0 l, made.landing, map_below landing _ k 0 inside) in
          omega (arith, number, made_fit.landings k inside);
      cases = λ k d l.
          let numbers = case_numbers image.text graph in
          let number : (get_or ways k d).0 ≡ get_or numbers k 0 =
          cc (get_or-map (λ (n : PieceNo). n.0) ways k d 0 l, made.cases) in
          let fit = made_fit.cases k _ (slice_get-get_or numbers k 0 (omega (arith, l, cases_count))) in
          omega (arith, number, fit);
      foreign = rw made.foreign made_fit.foreign;
      entry =
          let c = graph_cut image.text graph can.text can.graph in
          let low : image.entry < graph.blocks.words = (let same = c.words in omega (arith, made.begins, same)) in
          let facts = text_graph image.text graph can.text can.graph in
          let held = in_held graph.blocks.words graph.blocks.firsts c.firsts image.entry low in
          let below = enter_below image.text graph facts (block (holding_of graph.blocks image.entry)) image.entry
          (held.within, (held.above, held.below)) in
          rw (made.entry, node_is graph.blocks image.entry low)
          (omega (arith, below, count_is image.text graph facts, made_fit.foreign));
    }

    pub cases_few : length ways ≤ 2 ^ 22
    cases_few = omega (arith, cases_count, entries_few image.text graph can.text can.graph, can.text.few)

    -- and there is room for them, behind the cells and the tables
    pub made_room : cells_size request.cells + (tables_size image.text + cells_size (length ways)) + long_bytes pieces
        ≤ image.room
    made_room = rw cases_count (rw made.list (new_room fits can made.dead))
