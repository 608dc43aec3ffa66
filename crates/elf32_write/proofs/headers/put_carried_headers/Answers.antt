use Rattle.elf32_write.proofs.Common.{arith, true, false, ◌≡◌, ℕ, ◌+◌, ◌<◌, List, ◌++◌, length, take, get_or, refl, sym, ◌∙◌, flat_map, common_steps, ProgramHeader, carried_headers, carried_on, is_carried, program_header}
use Rattle.elf32_write.proofs.headers.put_carried_headers.Goals.{then-is_carried+in_ok-put_header, else-is_carried}
use Rattle.elf32_write.proofs.headers.put_carried_headers.Goals as goal

-- a header more that is carried on, and one that isn't
module _ (delta k : ℕ) (headers : List ProgramHeader) (none : ProgramHeader) (old out : List ℕ) (within : k < length headers)
    (so_far : out ≡ old ++ flat_map program_header (carried_headers delta (take k headers))) where
  carried : is_carried (get_or headers k none) ≡ true → (new : List ℕ)
      → new ≡ out ++ program_header (carried_on delta (get_or headers k none))
      → new ≡ old ++ flat_map program_header (carried_headers delta (take (k + 1) headers))
  carried is new more = grind (arith, common_steps)

  left_out : is_carried (get_or headers k none) ≡ false
      → out ≡ old ++ flat_map program_header (carried_headers delta (take (k + 1) headers))
  left_out isnt = grind (arith, common_steps)

pub loop-header-preserved : goal.loop-header-preserved
loop-header-preserved c = elim c.if-is_carried.branch [
  | then-is_carried+in_ok-put_header w ↦
      carried c.args.delta c.loop-header.header-index c.args.headers.now _ _ c.loop-header.out.items c.loop-header-test.true
      c.loop-header.invariant (sym c.is_carried.ensures ∙ w.if-is_carried.true) _
      (rw (w.out-is, w.in_ok-put_header.ensures, w.carried_on.ensures) refl)
  | else-is_carried w ↦
      rw w.out-is
      (left_out c.args.delta c.loop-header.header-index c.args.headers.now _ _ c.loop-header.out.items c.loop-header-test.true
      c.loop-header.invariant (sym c.is_carried.ensures ∙ w.if-is_carried.false))
]
