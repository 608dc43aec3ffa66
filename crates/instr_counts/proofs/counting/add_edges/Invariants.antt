use Rattle.instr_counts.proofs.Common.{◌≡◌, ◌+◌, ◌*◌, ◌<◌, ◌≤◌, ℕ, length, slice_index, along, as_slot}
use Rattle.instr_counts.proofs.counting.add_edges.Given as goal

abbrev pub invariant-loop-number : goal.invariant-loop-number
invariant-loop-number l = record {
  len : length l.visits ≡ length l.initial.visits;
  added : (word : ℕ) → word < length l.initial.visits
      → slice_index l.visits word ≡ along l.edges l.counts l.number word + as_slot l.edges l.counts l.number word;
  small : (word : ℕ) → slice_index l.visits word ≤ l.number * 36893488147419103232;
}
