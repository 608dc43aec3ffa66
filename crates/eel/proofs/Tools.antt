-- What is put on edges is what its tool asks for, and so the edit by that is one as the words ask.
use Rattle.eel.proofs.Common.{◌≡◌, fault, image_text, plan_with, ℕ, zero, suc, ◌+◌, ◌*◌, ◌^◌, ◌<◌, ◌≤◌, List, [], ◌∷◌, length, map, Option, Some, None, Result, Ok, Err, refl, ap, sym, subst, ◌∙◌, arith, get_or, get_or-map, length-map, get_or-map-range_with_len, length-map-range_with_len, Op, has_cell, Edge, Plan, IsSound, Seen, view_of, EditFault, counter_in, AreCells, IfErr, IfOk, range_with_len, ext_get_or, slice_get-get_or, EdgeSet, count_below, edges_few, no_edge, AreCounters, AreCounted, IsEditOf, plan_of, AsksCounters, AsksGuessed, Asks, IsFit, IsProfileOf, MayAsk, ProfileRefuses, Says, cells_of, guessed, kind_of, ops_on, plan_for}
use Rattle.std.proofs.Math.Nat.{pow-le-pow_right}
use Rattle.eel_base.specs.declared.numbers.WordNo.{WordNo}
use Rattle.snippets.specs.declared.snippet.Op.TheVariants.{Count}
use Rattle.span_tree.specs.Cells.{AreNumbered, cell_at, cell_count}
use Rattle.span_tree.specs.Weights.{weights_of}
use Rattle.weights_in.specs.Weights.{AreWeights}
use Rattle.tool_kit.specs.declared.edge_ref.EdgeRef.{EdgeRef}
use Rattle.tool_kit.specs.declared.edge_ref.ToolKind.TheVariants as kinds
use Rattle.tool_kit.specs.Kept.{Kept}
use Rattle.tool_kit.specs.Code.{AreAnswers, numbered}
use Rattle.cfg_blocks.specs.Marks.{numbers}
use Rattle.edit_core.specs.declared.requests.EditFault.TheVariants as faults
use Rattle.edit_core.specs.Taken.{CanEdit, IsCramped}
use Rattle.edit_core.specs.Code.{AsksOf, CountsEdges, EditRefuses, IsEdited}
use Rattle.edit_core.specs.Written.{IsTheEdit}
use Rattle.edit_core.proofs.Outwardly.{does_the_same}
use Rattle.eel_said.specs.Command as words
use Rattle.eel.specs.declared.instrumentation.Instrumentation.{Instrumentation}
use Rattle.eel.specs.declared.instrumentation.Instrumentation.TheVariants as works

-- ---- answers that are known

-- Where the answer for each number is known, so is the whole list.
pub all_asked : {F : Type 0} (says : F → EdgeRef → List Op → Type 0) (choose : F) (edges : List Edge)
    (snips : List (List Op)) (ops : ℕ → List Op)
    → ((k : ℕ) (edge : Edge) (answer : List Op) → says choose (numbered k edge) answer → answer ≡ ops k)
    → AreAnswers says choose edges snips → snips ≡ map ops (range_with_len 0 (length edges))
all_asked says choose edges snips ops known are =
    ext_get_or [] snips (map ops (range_with_len 0 (length edges)))
    (are.size ∙ sym (length-map-range_with_len ops 0 (length edges)))
    (λ k within.
    let low : k < length edges = subst (λ (n : ℕ). k < n) are.size within in
    known k (get_or edges k no_edge) (get_or snips k []) (are.each k _ (slice_get-get_or edges k no_edge low))
    ∙ sym (get_or-map-range_with_len ops 0 (length edges) k k [] low (omega arith)))

-- ---- counters

module _ (cells : List (Option ℕ)) (are : AreNumbered cells) where
  abbrev counted : EdgeSet
  counted = has_cell cells

  abbrev On : ℕ → ℕ → List (List Op)
  On k n = map (λ e. counter_in 2 (cell_at cells e)) (range_with_len k n)

  next_counter : (k : ℕ) (more : List (List Op)) → AreCounters 2 (2 * count_below (suc k) counted) more
      → (cell : Option ℕ) → cell_at cells k ≡ cell
      → AreCounters 2 (2 * count_below k counted) (counter_in 2 cell ∷ more)
  next_counter k more rest None is =
      let count : count_below (suc k) counted ≡ count_below k counted + 0 = rw is refl in
      subst (λ (n : ℕ). AreCounters 2 n more) (omega (arith, count)) rest
  next_counter k more rest (Some cell) is =
      let one : Some cell ≡ Some (count_below k counted) = rw is at (are k) in
      let first : cell ≡ count_below k counted = cc one in
      let count : count_below (suc k) counted ≡ count_below k counted + 1 = rw is refl in (
        ap Count (omega (arith, first)),
        subst (λ (n : ℕ). AreCounters 2 n more) (omega (arith, first, count)) rest,
      )

  counters_from : (k n : ℕ) → AreCounters 2 (2 * count_below k counted) (On k n)
  counters_from k zero = tt
  counters_from k (suc n) =
      let next : k + 1 ≡ suc k = omega arith in
      next_counter k (On (k + 1) n)
      (subst (λ (j : ℕ). AreCounters 2 (2 * count_below j counted) (On (k + 1) n)) next (counters_from (k + 1) n))
      (cell_at cells k) refl

  -- one for each edge
  counters_are : (n : ℕ) → length cells ≡ n → On 0 n ≡ map (counter_in 2) cells
  counters_are n size =
      let all = length-map-range_with_len (λ e. counter_in 2 (cell_at cells e)) 0 n in
      ext_get_or [] (On 0 n) (map (counter_in 2) cells) (all ∙ sym size ∙ sym (length-map cells (counter_in 2)))
      (λ e within.
      get_or-map-range_with_len (λ e. counter_in 2 (cell_at cells e)) 0 n e e [] (omega (arith, within, all)) (omega arith)
      ∙ sym (get_or-map (counter_in 2) cells e None [] (omega (arith, within, all, size))))

-- ---- what each tool asks for

pub counters_asked : (view : Seen) (bytes marks weights : List ℕ) (cells : List (Option ℕ)) → view ≡ view_of bytes marks
    → AreCells view.graph weights cells
    → AsksCounters marks weights bytes (plan_for (works.Counters cells) marks bytes)
counters_asked view bytes marks weights cells is found =
    let are = subst (λ (v : Seen). AreCells v.graph weights cells) is found in
    (cells, are, ap (plan_of kinds.Profile marks (2 * cell_count cells)) (counters_are cells are.numbered _ are.size))

pub guessed_asked : (view : Seen) (bytes marks : List ℕ) (cells : List (Option ℕ)) → view ≡ view_of bytes marks
    → AreCells view.graph (weights_of view.graph.blocks view.graph.edges) cells
    → AsksGuessed marks bytes (plan_for (works.Counters cells) marks bytes)
guessed_asked view bytes marks cells is found =
    rw is at (counters_asked view bytes marks _ cells is found)

module _ (view : Seen) (bytes : List ℕ) (cells : List (Option ℕ)) (is : view ≡ view_of bytes [])
    (found : AreCells view.graph (weights_of view.graph.blocks view.graph.edges) cells) where
  pub profile_made : (file : List ℕ) → IsEditOf bytes (plan_for (works.Counters cells) [] bytes) file
      → IsProfileOf (guessed bytes) bytes file
  profile_made file made =
      let (counted, are, same) = guessed_asked view bytes [] cells is found in
      record { cells = counted; are = are; made = subst (λ (p : Plan). IsEditOf bytes p file) same made }

  pub profile_refused : (fault : EditFault)
      → EditRefuses bytes (λ plan. plan ≡ plan_for (works.Counters cells) [] bytes) fault
      → ProfileRefuses (guessed bytes) bytes fault
  profile_refused (faults.Room needed had) (plan, asks, cramped) =
      let (counted, are, same) = guessed_asked view bytes [] cells is found in
      (counted, are, subst (IsCramped needed had bytes) (asks ∙ same) cramped)
  profile_refused _ refused = refused

pub weighed_asked : (view : Seen) (bytes name lines weights : List ℕ) (cells : List (Option ℕ)) → view ≡ view_of bytes []
    → AreWeights view lines weights → AreCells view.graph weights cells
    → Asks (words.Weighed name) bytes lines (plan_for (works.Counters cells) [] bytes)
weighed_asked view bytes name lines weights cells is are found =
    (weights, rw is at are, counters_asked view bytes [] weights cells is found)

-- ---- the tool that is made of it

few_cells : (work : Instrumentation) → IsFit work → cells_of work ≤ 2 ^ 23
few_cells works.Nothing fit = omega arith
few_cells (works.Script script) fit = let few = fit.few in omega (arith, few)
few_cells (works.Counters tree) fit = let few = fit.1 in omega (arith, few)
few_cells (works.Ring bits) fit =
    let small : 2 ^ bits ≤ 2 ^ 16 = pow-le-pow_right {n = 2} (omega arith) {i = bits} {j = 16} fit.1 in
    omega (arith, small)

pub is_sound : (work : Instrumentation) → IsFit work → IsSound MayAsk Says (cells_of work) work
is_sound work fit = record {
  few = few_cells work fit;
  called = λ edge number. (fit, number);
  below = λ edge ops number said. said.1;
  same = λ edge one other number first second. first.0 ∙ sym second.0;
}

are_counted : (work : Instrumentation) → IsFit work → (marks bytes : List ℕ) → AreCounted 2 (plan_for work marks bytes)
are_counted (works.Counters tree) fit marks bytes =
    λ profile. counters_from tree fit.0 0 (length (view_of bytes marks).graph.edges)
are_counted works.Nothing fit marks bytes = λ profile. absurd (cc profile)
are_counted (works.Script script) fit marks bytes = λ profile. absurd (cc profile)
are_counted (works.Ring bits) fit marks bytes = λ profile. absurd (cc profile)

module _ (work : Instrumentation) (tool : Kept Instrumentation) (bytes : List ℕ) (marks : List WordNo) (chooses : tool.choose ≡ work)
    (counts : tool.cells ≡ cells_of work) (marked : tool.marks ≡ marks) (serves : tool.kind ≡ kind_of work) where
  plan_is : (plan : Plan) → AsksOf Says tool bytes plan → plan ≡ plan_for work (numbers marks) bytes
  plan_is plan asks =
      let snips =
      all_asked Says tool.choose (view_of bytes (numbers marks)).graph.edges plan.snips (λ edge. ops_on work edge)
      (λ k edge answer said. said.0 ∙ ap (λ (w : Instrumentation). ops_on w k) chooses) (rw marked at asks.snips) in
      λ i. record {
        kind = (asks.kind ∙ serves) i;
        marks = (asks.marks ∙ ap numbers marked) i;
        cells = (asks.cells ∙ counts) i;
        snips = snips i;
      }

  pub counts_edges : IsFit work → CountsEdges Says tool bytes
  counts_edges fit = λ plan asks.
      subst (AreCounted 2) (sym (plan_is plan asks)) (are_counted work fit (numbers marks) bytes)

  pub edits_made : {A E : Type 0} (items : A → List ℕ) (result : Result A E)
      → IfOk result (λ file. (plan : Plan) × AsksOf Says tool bytes plan × CanEdit bytes plan
      × IsEdited bytes plan (items file) × IsTheEdit bytes plan (items file))
      → IfOk result (λ file. IsEditOf bytes (plan_for work (numbers marks) bytes) (items file))
  edits_made items (Ok file) (plan, asks, can, edited, written) =
      subst (λ p. IsEditOf bytes p (items file)) (plan_is plan asks) (record {
        taken = can;
        same = does_the_same bytes plan (items file) edited.faithful;
        faithful = edited.faithful;
        version = edited.version;
        cost = edited.cost;
      })
  edits_made items (Err fault) is = is

  pub edits_refused : {A : Type 0} (result : Result A EditFault)
      → IfErr result (EditRefuses bytes (AsksOf Says tool bytes))
      → IfErr result (EditRefuses bytes (λ plan. plan ≡ plan_for work (numbers marks) bytes))
  edits_refused (Err (faults.Room needed had)) (plan, asks, cramped) = (plan, plan_is plan asks, cramped)
  edits_refused _ is = is

-- ---- the graph of a file without a fault has few edges, so that each can have a cell

pub few_edges : (bytes marks : List ℕ) (view : Seen) → view ≡ view_of bytes marks → fault bytes ≡ None
    → length view.graph.edges ≤ 2 ^ 22
few_edges bytes marks view is sound =
    omega (
      arith,
      ap (λ (v : Seen). length v.graph.edges) is,
      edges_few bytes (plan_with marks []) sound,
      (image_text bytes sound).few,
    )
