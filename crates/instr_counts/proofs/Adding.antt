-- What is added up to the visits of each word.
use Rattle.instr_counts.proofs.Common.{◌≡◌, ℕ, ◌+◌, ◌<◌, List, length, slice_index, Some, refl, arith, ◌==◌, lt-ltb, AreFirsts, Node, same_node, Graph, node_of, edge_at, holding_of, along, as_slot, is_block, AreSingle, leads_to, one_if, runs_slot, finished, sum_where}
use Rattle.instr_counts.proofs.Single.{holds_itself}
use Rattle.flows.proofs.Weights.{weight_same}

-- all that is added up for a word
pub finished_is : (g : Graph) → AreFirsts g.blocks.words g.blocks.firsts → AreSingle g.blocks → (counts : List ℕ)
    → (entry word : ℕ) → entry < g.blocks.words → word < g.blocks.words
    → along g.edges counts (length g.edges) word + as_slot g.edges counts (length g.edges) word + one_if (entry == word)
    ≡ finished g entry (slice_index counts) word
finished_is g f single counts entry word starts inside =
    let led : sum_where g (slice_index counts) (leads_to g.blocks word) ≡ along g.edges counts (length g.edges) word =
    weight_same (length g.edges) (slice_index counts) _ _ (λ n l. leads_there (edge_at g n).to) in
    let slots : as_slot g.edges counts (length g.edges) word ≡ sum_where g (slice_index counts) (runs_slot word) = refl in
    let first : one_if (holding_of g.blocks entry == holding_of g.blocks word) ≡ one_if (entry == word) =
    rw (holds_itself g.blocks f single entry starts, holds_itself g.blocks f single word inside) refl in
    omega (arith, led, slots, first)
  where
    -- an edge leads to the word's block where that has the word's number
    leads_there : (to : Node) → same_node to (node_of g.blocks (Some word)) ≡ is_block word to
    leads_there to = rw (lt-ltb _ _ inside, holds_itself g.blocks f single word inside) (grind arith)
