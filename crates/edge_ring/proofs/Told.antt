-- What the dump of a run tells, whose cells are the ring of a walk.
use Rattle.edge_ring.proofs.Common.{◌≡◌, ℕ, suc, ◌+◌, ◌-◌, ◌%◌, ◌^◌, ◌<◌, ◌≤◌, List, length, map, drop, replicate, None, sym, ◌∙◌, arith, All-append, All-drop, Notes, Dump, last_of, bad_place, All-map, All-replicate, All-weaker, pow-lt, IsRefused, IsOfWalk, MayRefuse, RingsTellTheLast}
use Rattle.std.proofs.lemmas.Option.{none-some}
use Rattle.edge_ring.specs.declared.fault.RingFault.{RingFault}
use Rattle.edge_ring.specs.declared.fault.RingFault.TheVariants as faults
use Rattle.edge_ring.specs.Answers.{AreLast}
use Rattle.edge_ring.proofs.Places.{none_bad, unround}
use Rattle.edge_ring.proofs.Ring.{tells}

-- the number of places tells the bits
same_bits : (a b : ℕ) → 1 + 2 ^ a ≡ 1 + 2 ^ b → a ≡ b
same_bits a b is =
    let up : a < b → 2 ^ a < 2 ^ b = pow-lt in
    let down : b < a → 2 ^ b < 2 ^ a = pow-lt in
    grind (arith, is, up, down)

module _ (bits : ℕ) (notes : Notes) (walk : List ℕ) (dump : Dump) (is : IsOfWalk bits notes walk dump) where
  good : bad_place notes dump ≡ None
  good =
      let edges = length notes.edges in
      let fit : ℕ → Type 0 = λ entry. entry ≤ edges in
      let gone = length walk - 2 ^ bits in
      let walked = All-weaker (λ edge. edge < edges) (λ edge. suc edge ≤ edges) (λ edge l. omega (arith, l)) walk is.edges in
      let last = All-map fit suc (drop gone walk) (All-drop (λ edge. suc edge ≤ edges) gone walk walked) in
      none_bad edges (drop 1 dump.cells) (unround fit (length walk % 2 ^ bits) (drop 1 dump.cells)
      (rw (is.ring.places) (All-append fit (replicate (2 ^ bits - length walk) 0) (map suc (drop gone walk))
      (All-replicate fit (2 ^ bits - length walk) 0 (omega arith)) last)))

  refused : (fault : RingFault) → IsRefused notes dump fault → MayRefuse notes dump fault
  refused faults.NoTrace none = none is.trace
  refused (faults.Version of wanted) other = other.differ (other.has ∙ is.version ∙ sym other.wants)
  refused (faults.Other size wanted) other = other.differ (other.has ∙ is.length other.wide ∙ sym other.wants)
  refused (faults.Shape cells wanted) other =
      other.differ (other.has ∙ is.ring.size ∙ sym is.size ∙ sym other.wants)
  refused (faults.Between pc) between = (between.at, between.between)
  refused (faults.Entry cell value) unknown = none-some unknown.place (sym good ∙ unknown.bad)
  refused faults.NoMemory whole = whole

  last : (edges : List ℕ) → AreLast notes dump edges → edges ≡ last_of bits walk
  last edges told =
      let few = is.trace.few in
      let own = same_bits is.trace.bits bits (sym is.trace.cells ∙ is.size) in
      rw (told.are, same_bits told.bits bits (sym told.size ∙ is.size))
      (tells bits (omega (arith, few, own)) walk dump.cells is.ring)

pub rings_tell : RingsTellTheLast
rings_tell bits notes walk dump is = record { refused = refused bits notes walk dump is; last = last bits notes walk dump is }
