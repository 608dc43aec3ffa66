use Rattle.std.proofs.Common.{◌≡◌, ℕ, suc, ◌<◌, ◌≤◌, length, slice_index}
use Rattle.flood.specs.Private.{IsFlooding, fuel}
use Rattle.flood.specs.Flood.{Sets, link_at}
use Rattle.flood.proofs.search.tell.Given as goal

abbrev pub invariant-loop-next : goal.invariant-loop-next
invariant-loop-next l = record {
  leads : (k : ℕ) → l.next ≡ suc k → (k < length l.links) × ((link_at l.links k).to ≡ l.place);
  len : length l.sets.items ≡ length l.fn.sets.items;
  told : (reads : Sets)
      → IsFlooding reads l.links l.place (slice_index l.chain.heads.items l.place) l.fn.sets.items l.fn.stack.items
      → IsFlooding reads l.links l.place l.next l.sets.items l.stack.items;
  falls : fuel l.sets.items l.stack.items ≤ fuel l.fn.sets.items l.fn.stack.items;
}

abbrev pub decreases-loop-next : goal.decreases-loop-next
decreases-loop-next l = l.next
