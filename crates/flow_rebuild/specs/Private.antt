-- What only contracts of private functions and models cite.
use Rattle.std.specs.Prelude.{ℕ, List, slice_set, ℤ, ◌+ℤ◌, neg_ℤ, if◌then◌else◌, ◌==◌}
use Rattle.flows.specs.declared.Link.{Link}
use Rattle.flow_rebuild.specs.Values.{int_at}

-- z more at v
abbrev pub added : List ℤ → ℕ → ℤ → List ℤ
added xs v z = slice_set xs v (int_at xs v +ℤ z)

-- z comes in where the link leads to, and goes out where it leads from
abbrev pub passed : List ℤ → Link → ℤ → List ℤ
passed xs l z = added (added xs l.to z) l.from (neg_ℤ z)

-- the end of a link that is not v
abbrev pub other_node : Link → ℕ → ℕ
other_node l v = if l.to == v then l.from else l.to

-- what a link carries, so that it takes z from v to its other end
abbrev pub carries : Link → ℕ → ℤ → ℤ
carries l v z = if l.to == v then neg_ℤ z else z
