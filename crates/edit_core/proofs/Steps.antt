-- What the parts of an edit give it.
use Rattle.edit_core.proofs.Common.{◌≡◌, ℕ, ◌+◌, ◌^◌, ◌<◌, ◌≤◌, List, [], ◌∷◌, ◌++◌, length, arith, All, slice_index, length-map, IsText, Words, Program, accepted-program, Part, Graph, AddedSegment, TableAt, Item, Placement, long_bytes, long_is_enough, AreFit, PiecesFit, case_numbers, Op, Plan, Err, ArePieces, Request, CanEdit, HasRoom, IsBuilt, IsViewOf, placement_in, plan_of}
use Rattle.elf32_write.specs.Laws.{AreBytes}
use Rattle.layout.specs.declared.items.Placed.{Placed}
use Rattle.layout.specs.declared.items.LayoutFault.{LayoutFault}
use Rattle.layout.specs.declared.items.LayoutFault.TheVariants.{Room}
use Rattle.layout.specs.Compact.{RoomIs}
use Rattle.edit_core.specs.Written.{added, cells_at, code_at, if_any, page_segment, table_at, CanDo, IsNewCode, TablesMatch, cells_base, cells_size, entry_number, entry_of, graph_in, pieces_by, pieces_of, segment_size, table_after, table_base, tables_size, text_of}
use Rattle.edit_core.proofs.Bounds.{operations_few}
use Rattle.edit_core.proofs.Graphs.{entries_few, graph_cut, graph_is}
use Rattle.edit_core.proofs.Originals.{room_with_cases, small_tables, image_text, image_room}
use Rattle.edit_core.proofs.Snippets.{short_codes}
use Rattle.edit_core.proofs.Views.{bound_is}

-- pieces have room where their long forms have
pub never_lacks_room : (list : List (List Item)) (room : ℕ) (fault : LayoutFault) (needed had : ℕ) → ArePieces list
    → fault ≡ Room needed had → RoomIs (Err fault) list room → long_bytes list ≤ room → ⊥
never_lacks_room list room fault needed had are e is enough =
    let r : RoomIs (Err (Room needed had)) list room = rw e at is in
    omega (arith, long_is_enough list needed are r.0, r.2, enough)

-- the pieces of what can be edited can be placed
pub original_fit : PiecesFit → (original : List ℕ) (plan : Plan) → CanEdit original plan → CanDo original plan
    → (dead : ℕ → List Part)
    → AreFit (text_of original plan) (graph_in original plan) plan.snips (pieces_of original plan dead)
original_fit fits original plan can work dead =
    fits _ _ (table_base original plan) _ _ _ (image_text original can.sound) (graph_is original plan)
    (omega (arith, image_room original, work.few, can.room)) (short_codes _ plan.cells dead plan.snips work.good)

-- the pieces that are made of a view can be placed in its room
module _ (fits : PiecesFit) {image : Program} {graph : Graph} {request : Request} (can : HasRoom image graph request)
    (dead : ℕ → List Part) where
  abbrev new_pieces : List (List Item)
  new_pieces = pieces_by image.text graph image.base request.cells dead request.snips.items

  pub new_fit : AreFit image.text graph request.snips.items new_pieces
  new_fit =
      fits _ _ (table_after image.base request.cells) _ _ _ can.text can.graph (omega (arith, can.room, can.low))
      (short_codes image.base request.cells dead request.snips.items can.work.good)

  pub new_room : cells_size request.cells + segment_size image.text graph + long_bytes new_pieces ≤ image.room
  new_room =
      let bytes = new_fit.bytes in
      let small = small_tables image.text can.text in
      let most = room_with_cases request.cells (length image.text.words) (length (case_numbers image.text graph))
      (tables_size image.text) (long_bytes new_pieces) _
      (entries_few image.text graph can.text can.graph) small bytes in
      omega (arith, operations_few graph request.kind request.cells request.snips.items can.work, can.room)

-- how many bytes they have
pub segment_is : (text : Words) (graph : Graph) (snips : List (List Op)) (p : Placement) (table : TableAt)
    → TablesMatch text graph snips p table → length table.bytes ≡ segment_size text graph
segment_is text graph snips p table leads =
    cc (leads.size, length-map (case_numbers text graph) (λ number. slice_index p.at number))

-- ---- an original as it was seen

module _ (original : List ℕ) (plan : Plan) (image : Program) (graph : Graph) (is : IsViewOf original plan image graph) where
  pub view_text : CanEdit original plan → IsText image.text
  view_text can = rw is.0 (image_text original can.sound)

  pub view_words : CanEdit original plan → graph.blocks.words ≡ length image.text.words
  view_words can = rw (is.0, is.1)
      (graph_cut (text_of original plan) (graph_in original plan) (image_text original can.sound) (graph_is original plan)).words

  -- the piece at which it begins
  pub view_entry : (p : Placement) → slice_index p.at (entry_number image.text graph image.entry) ≡ entry_of original plan p
  view_entry p = rw (is.0, is.1)

  module _ (placed : Placed) (tables : List ℕ)
      (built : IsBuilt image.text graph image.base plan.cells plan.snips (placement_in placed))
      (leads : TablesMatch image.text graph plan.snips (placement_in placed)
      (record { base = table_after image.base plan.cells; bytes = tables }))
    where
      pub built_there : IsBuilt (text_of original plan) (graph_in original plan) (cells_base original plan) plan.cells
          plan.snips (placement_in placed)
      built_there = rw (is.0, is.1) at built

      pub code_is : All (λ word. word < 2 ^ 32) placed.code.items → AreBytes tables
          → IsNewCode original plan (placement_in placed) built_there.place
          (record { base = table_base original plan; bytes = tables })
      code_is words bytes =
          let b = built_there in
          let leads = rw (is.0, is.1) at leads in
          search (b.dead, b.exact, b.are.laid, b.are.size, b.are.short, words, leads, bytes)

      -- the segments that are added
      pub segments_are : (segments : List AddedSegment) → segments ≡ if_any plan.cells (cells_at image.base plan.cells)
          ++ table_at (record { base = table_after image.base plan.cells; bytes = tables })
          ∷ code_at (table_after image.base plan.cells + length tables) placed.code.items ∷ page_segment ∷ []
          → segments ≡ added original plan (placement_in placed)
          (record { base = table_base original plan; bytes = tables })
      segments_are segments same =
          let here : segments ≡ if_any plan.cells (cells_at image.base plan.cells)
          ++ table_at (record { base = table_after image.base plan.cells; bytes = tables })
          ∷ code_at (table_after image.base plan.cells + segment_size image.text graph) placed.code.items ∷ page_segment ∷ [] =
          cc (same, segment_is image.text graph plan.snips (placement_in placed) _ leads) in
          rw (is.0, is.1) at here

-- there is room for what is asked of an original that can be edited
pub view_has_room : (original marks : List ℕ) (request : Request) (image : Program) (graph : Graph)
    → IsViewOf original (plan_of marks request) image graph → CanEdit original (plan_of marks request)
    → CanDo original (plan_of marks request) → HasRoom image graph request
view_has_room original marks request image graph is can work =
    let plan = plan_of marks request in
    rw (is.0, is.1) (record {
      text = image_text original can.sound;
      graph = graph_is original plan;
      work = work;
      room = rw (bound_is original plan) at can.room;
      base = let base = (accepted-program original can.sound).base in omega arith;
      low = omega (arith, image_room original, (accepted-program original can.sound).below);
    })
