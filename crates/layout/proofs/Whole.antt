-- What is placed, and what is told of its room.
use Rattle.layout.proofs.Common.{◌≡◌, ℕ, ◌+◌, ◌*◌, ◌%◌, ◌^◌, ◌≤◌, Bool, List, length, Result, Ok, Err, IfOk, ap, ◌∙◌, arith, Item, Placed, Entry, ArePieces, Lays, placement_of, Forms, entries_of, offset, IsCompact, IsNeeded, RoomIs, forms_in, FitsIn, IsFormed, IsPut}
use Rattle.layout.specs.declared.items.LayoutFault.{LayoutFault}
use Rattle.layout.specs.declared.items.LayoutFault.TheVariants as faults
use Rattle.layout.proofs.Standing.{code_length}
use Rattle.layout.proofs.Assembled.{lays}

put_size : (base : ℕ) (entries : List Entry) (starts : List ℕ) (long : Forms) (p : Placed)
    → IsPut base entries starts long p → length p.code.items ≡ offset entries long (length entries)
put_size base entries starts long p h = ap length h.emitted.is ∙ code_length base entries long (length entries)

module _ (pieces : List (List Item)) (base room all : ℕ) (forms : List Bool) (starts : List ℕ)
    (f : IsFormed (entries_of pieces) forms starts all) where
  needed : (n : ℕ) → n ≡ 4 * offset (entries_of pieces) (forms_in forms) (length (entries_of pieces)) → IsNeeded pieces n
  needed n e = record { long = forms_in forms; widened = f.widened; value = e }

  pub all_laid : ArePieces pieces → length starts ≡ length pieces → base % 4 ≡ 0 → base + room ≤ 2 ^ 31
      → (r : Result Placed LayoutFault) → IfOk r (IsPut base (entries_of pieces) starts (forms_in forms))
      → FitsIn r (4 * offset (entries_of pieces) (forms_in forms) (length (entries_of pieces))) room
      → IfOk r (λ p. Lays IsCompact pieces base (placement_of p.code.items p.at.items p.ranges.items))
  all_laid are count aligned low (Ok p) h fits =
      lays pieces are.leads are.marked base aligned (forms_in forms) starts p (record {
        widened = f.widened;
        count = count;
        offsets = f.offsets;
        emitted = h.emitted;
        at = h.at;
        ranges = h.ranges;
      }) (omega (arith, low, fits))
  all_laid are count aligned low (Err x) h fits = tt

  pub room_is : (r : Result Placed LayoutFault) → IfOk r (IsPut base (entries_of pieces) starts (forms_in forms))
      → FitsIn r (4 * offset (entries_of pieces) (forms_in forms) (length (entries_of pieces))) room
      → RoomIs r pieces room
  room_is (Ok p) h fits =
      let s = put_size base (entries_of pieces) starts (forms_in forms) p h in
      (needed (4 * length p.code.items) (ap (λ (n : ℕ). 4 * n) s), omega (arith, s, fits))
  room_is (Err (faults.Room n had)) h fits = (needed n fits.0, fits.1, fits.2)
  room_is (Err faults.NoMemory) h fits = tt
