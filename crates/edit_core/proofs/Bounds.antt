-- The room that an edit asks for is enough for the operations that are made.
use Rattle.edit_core.proofs.Common.{◌≡◌, ℕ, suc, ◌+◌, ◌≤◌, List, [], ◌∷◌, length, refl, ap, arith, Edge, Graph, Each, each, snippet_on, Op, cells_end, ToolKind, AreCounters, mul-le, copies_of, operations_from, operations_in, counted_on, operations_on, IsWorkable}
use Rattle.std.proofs.Math.Nat.{le_refl}
use Rattle.std.proofs.lemmas.List.{nil_from_length}
use Rattle.tool_kit.specs.declared.edge_ref.ToolKind.TheVariants as tools

-- counters are one operation each at most
few_counted : (version next : ℕ) (snips : List (List Op)) → AreCounters version next snips
    → Each (λ ops. length ops ≤ 1) snips
few_counted version next [] are = tt
few_counted version next ([] ∷ snips) are = (omega arith, few_counted version next snips are)
few_counted version next ((op ∷ []) ∷ snips) are = (omega arith, few_counted version (cells_end op) snips are.1)
few_counted version next ((op ∷ other ∷ ops) ∷ snips) are = absurd are

all_counted : (kind : ToolKind) (snips : List (List Op)) → (kind ≡ tools.Profile → AreCounters 2 0 snips)
    → Each (λ ops. length ops ≤ counted_on kind ops) snips
all_counted tools.Profile snips are = few_counted 2 0 snips (are refl)
all_counted kind snips are = each _ snips (λ ops. le_refl _)

made : (kind : ToolKind) (graph : Graph) (all : List (List Op)) (number : ℕ) (edges : List Edge)
    (snips : List (List Op)) → length snips ≡ length edges
    → ((k : ℕ) → snippet_on all (number + k) ≡ snippet_on snips k)
    → Each (λ ops. length ops ≤ counted_on kind ops) snips
    → operations_from graph all number edges ≤ operations_on kind graph edges snips
made kind graph all number [] snips size same few = omega arith
made kind graph all number (edge ∷ edges) [] size same few = absurd (omega (arith, size))
made kind graph all number (edge ∷ edges) (ops ∷ snips) size same few =
    let here : length (snippet_on all number) ≡ length ops = cc ((let e : number ≡ number + 0 = omega arith in e), same 0) in
    let first = mul-le (copies_of graph edge) _ _ (counted_on kind ops) (le_refl _) (rw (← here) at few.0) in
    let later = made kind graph all (suc number) edges snips (omega (arith, size))
    (λ k. cc ((let e : suc number + k ≡ number + suc k = omega arith in e), same (suc k))) few.1 in
    omega (arith, first, later)

pub operations_few : (graph : Graph) (kind : ToolKind) (cells : ℕ) (snips : List (List Op))
    → IsWorkable graph kind cells snips → operations_in graph snips ≤ operations_on kind graph graph.edges snips
operations_few graph kind cells snips is =
    made kind graph snips 0 graph.edges snips is.size
    (λ k. ap (snippet_on snips) (let e : 0 + k ≡ k = omega arith in e)) (all_counted kind snips is.counters)

-- where no edge or no snippet is left
pub none_first : (kind : ToolKind) (graph : Graph) (edges : List Edge) (snips : List (List Op)) → length edges ≡ 0
    → operations_on kind graph edges snips ≡ 0
none_first kind graph edges snips none = rw (nil_from_length edges none) refl

pub none_second : (kind : ToolKind) (graph : Graph) (edges : List Edge) (snips : List (List Op)) → length snips ≡ 0
    → operations_on kind graph edges snips ≡ 0
none_second kind graph [] snips none = refl
none_second kind graph (edge ∷ edges) snips none = rw (nil_from_length snips none) refl
