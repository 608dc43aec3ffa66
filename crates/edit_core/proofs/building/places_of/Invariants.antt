use Rattle.edit_core.proofs.Common.{◌≡◌, map, slice_index, take, addr}
use Rattle.edit_core.proofs.building.places_of.Given as goal

abbrev pub invariant-loop-piece : goal.invariant-loop-piece
invariant-loop-piece l =
    l.places.items ≡ map (λ piece. addr (slice_index (map (λ a. a.0) l.at) piece.0)) (take l.piece-index l.pieces)
