-- Marks of words.
use Rattle.cfg_blocks.proofs.Common.{◌≡◌, ℕ, ◌<◌, Bool, true, ◌||◌, ◌==◌, List, length, arith, slice_set, nat_tests, common_steps, BlockEnd, is_target, end_in, leads_by, leads_in, marked}

pub marked_set : (marks : List Bool) (i k : ℕ) → i < length marks
    → marked (slice_set marks i true) k ≡ (marked marks k || (i == k))
marked_set marks i k h = grind (arith, common_steps, nat_tests)

-- which words lead, once the first word and the targets are marked
pub leads_marked : (ends : List BlockEnd) (given marks : List Bool) (k : ℕ) → 0 < length given
    → marked marks k ≡ (marked (slice_set given 0 true) k || is_target (length ends) (end_in ends) k)
    → leads_by ends marks k ≡ leads_in ends given k
leads_marked ends given marks k some h = rw (h, marked_set given 0 k some) (grind (arith, nat_tests))
