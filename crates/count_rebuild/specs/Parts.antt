-- What the parts of rebuilding answer.
use Rattle.std.specs.Prelude.{◌≡◌, ℕ, ◌<◌, List, length, map, ℤ, nat_abs, false}
use Rattle.notes.specs.Format.{Notes}
use Rattle.flows.specs.Flows.{rest}
use Rattle.flows.specs.Links.{graph_of}
use Rattle.flows.specs.Trees.{on}
use Rattle.flows.specs.declared.Link.{Link}
use Rattle.flow_tree.specs.Tree.{edges_of, IsGrown}
use Rattle.flow_tree.specs.declared.Tree.{Tree}
use Rattle.flow_rebuild.specs.Values.{int_at}
use Rattle.count_rebuild.specs.declared.fault.CountFault.{CountFault}
use Rattle.count_rebuild.specs.declared.fault.CountFault.TheVariants as faults
use Rattle.count_rebuild.specs.Counts.{is_large, is_negative, IsFirst}
use Rattle.count_rebuild.specs.Noted.{has_cell, IsProfile}
use Rattle.count_rebuild.specs.Private.{AreNodes}

-- the tree of the nodes by the edges that aren't counted
pub record IsTreeOf (notes : Notes) (links : List Link) (tree : Tree) : Type 0 where
  pub profile : IsProfile notes
  pub grown : IsGrown (graph_of (length tree.reached.items) links) tree
  pub reached : AreNodes notes tree.reached.items
  pub edges : (e : ℕ) → e < length notes.edges → on (edges_of tree) e ≡ rest (has_cell notes) e

-- none of its values is below 0
abbrev pub IsWhole : List ℤ → Type 0
IsWhole flow = (e : ℕ) → is_negative (int_at flow e) ≡ false

-- none of its values is 2^64 or more
abbrev pub IsSmall : List ℤ → Type 0
IsSmall flow = (e : ℕ) → e < length flow → is_large (int_at flow e) ≡ false

-- the flow as numbers of 64 bits
pub record AreWhole (flow : List ℤ) (counts : List ℕ) : Type 0 where
  pub are : counts ≡ map nat_abs flow
  pub whole : IsWhole flow
  pub small : IsSmall flow

-- Or the first of its values that is below 0, or where none is the first that is too large. Want of memory comes only
-- where none is below 0.
abbrev pub IsBad : List ℤ → CountFault → Type 0
IsBad flow (faults.Negative edge value) = IsFirst is_negative (length flow) (int_at flow) edge.0 value
IsBad flow (faults.Large edge value) = IsWhole flow × IsFirst is_large (length flow) (int_at flow) edge.0 value
IsBad flow faults.NoMemory = IsWhole flow
IsBad flow _ = ⊥
