-- One set less another.
use Rattle.v8_decode.proofs.Common.{◌≡◌, ℕ, not, ◌&&◌, List, bit_and, bit_xor, refl, arith, bit_at-lt, bit_at_and, bit_at_xor, and_assoc, nat_tests, Part, has, set_of, minus, place_of, is_marked, parts_of}
use Rattle.v8_decode.proofs.Members.{has-members, members-same}
use Rattle.v8_decode.proofs.Marks.{has-members_at, has-set}

is_marked-minus : (a b : ℕ) (p : Part) → is_marked (bit_and a (bit_xor a b)) p ≡ (is_marked a p && not (is_marked b p))
is_marked-minus a b p =
    let low_a = bit_at-lt a (place_of p) in
    let low_b = bit_at-lt b (place_of p) in
    rw (bit_at_and a (bit_xor a b) (place_of p), bit_at_xor a b (place_of p)) (grind (arith, nat_tests))

pub parts_of-minus : (a b : ℕ) (s t : List Part) → parts_of a ≡ s → parts_of b ≡ t
    → parts_of (bit_and a (bit_xor a b)) ≡ minus s t
parts_of-minus a b s t es et =
    rw (← es, ← et) (members-same _ _ (λ p h. rw (is_marked-minus, has-members_at (is_marked a), has-members_at) refl))

pub has-minus : (s t r : List Part) (q : Part) → set_of s ≡ s → r ≡ minus s t → has r q ≡ (has s q && not (has t q))
has-minus s t r q set e =
    rw (e, has-members (λ p. has s p && not (has t p)) q, ← and_assoc, has-set s q set) refl
