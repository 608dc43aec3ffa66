-- Texts that are put together.
use Rattle.v8_text.proofs.Common.{◌≡◌, List, ℕ, [], ◌∷◌, ◌++◌, append_assoc, named}

-- a name, and then its operands
pub named_put : (old name mid operands new : List ℕ) → mid ≡ old ++ (name ++ 32 ∷ []) → new ≡ mid ++ operands
    → new ≡ old ++ named name operands
named_put old name mid operands new first then = rw (then, first) (simp append_assoc)
