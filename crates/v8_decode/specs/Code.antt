-- What contracts of this crate's code and laws cite beyond the statement.
use Rattle.std.specs.Prelude.{not, List, filter, ◌&&◌}
use Rattle.v8_decode.specs.declared.Part.{Part}
use Rattle.v8_decode.specs.Parts.{is_same, has, members}

-- a set without a part
abbrev pub without : List Part → Part → List Part
without ps p = filter (λ q. not (is_same q p)) ps

-- what a set has and another hasn't
abbrev pub minus : List Part → List Part → List Part
minus ps qs = members (λ p. has ps p && not (has qs p))
