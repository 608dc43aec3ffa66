-- What only contracts of private functions and models cite.
use Rattle.std.specs.Prelude.{◌≡◌, ◌≤◌, ℕ, List, Result, Ok, Err}
use Rattle.std.specs.Borrow.{Bor}
use Rattle.std.specs.List.{flat_map}
use Rattle.eel_base.specs.Outside.{Rose, TookPart, appended}
use Rattle.eel_said.specs.Outcome.{Stream}

-- pieces of text, one after the other
abbrev pub joined : List (Bor (List ℕ)) → List ℕ
joined pieces = flat_map (λ piece. piece.now) pieces

-- A text was to be written: it was, or a first part of it, and then the stream failed.
abbrev pub Wrote : {A E : Type 0} → Stream → Stream → List ℕ → Result A E → Type 0
Wrote old new text (Ok done) = (new.taken ≡ appended old.taken text) × (old.faults ≤ new.faults)
Wrote old new text (Err fault) =
    TookPart old.taken new.taken text × Rose old.faults new.faults × (old.faults ≤ new.faults)
