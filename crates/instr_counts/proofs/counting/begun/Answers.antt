use Rattle.instr_counts.proofs.Common.{◌≡◌, ◌&&◌, ℕ, refl, ap, nat_lt, one_if, nat_le, notes_seen, range_seen}
use Rattle.std.specs.Option.{option_map}
use Rattle.notes.specs.Format.{range_at}
use Rattle.notes.specs.declared.note.Notes as declared_notes
use Rattle.count_rebuild.proofs.Rules.{find-map, found}
use Rattle.instr_counts.proofs.counting.begun.Goals as goal

-- the place that is found, as notes have it
place_is : (n : declared_notes.Notes) (address : ℕ)
    → range_at (notes_seen n) address ≡ option_map range_seen (found n address)
place_is n address = find-map (λ range. nat_le range.lo address && nat_lt address range.hi) range_seen n.ranges.items

pub returns-in-Some : goal.returns-in-Some
returns-in-Some c word l =
    let is : c.range_at.result ≡ found c.args.n.now c.args.pc.0 = rw c.deref.ensures.value at c.range_at.ensures in
    rw (place_is c.args.n.now c.args.pc.0, ← is, c.in-Some.is) (ap one_if (c.begun_at.ensures word l))

pub returns-in-None : goal.returns-in-None
returns-in-None c word l =
    let is : c.range_at.result ≡ found c.args.n.now c.args.pc.0 = rw c.deref.ensures.value at c.range_at.ensures in
    rw (place_is c.args.n.now c.args.pc.0, ← is, c.in-None.is) refl
