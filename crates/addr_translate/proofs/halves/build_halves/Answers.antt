use Rattle.addr_translate.proofs.Common.{List, ℕ, sym, subst, IsHalvesOf}
use Rattle.addr_translate.proofs.HalfTables.{halves_find}
use Rattle.addr_translate.proofs.halves.build_halves.Goals as goal

pub returns : goal.returns
returns c =
    subst (λ (bytes : List ℕ). IsHalvesOf c.args.text.now c.args.targets.now c.args.foreign
    (record { base = c.args.base.0; bytes = bytes })) (sym c.in_ok-bytes.ensures.bytes)
    (halves_find c.args.text.now c.args.targets.now c.args.foreign c.args.base.0 c.bytes_of.ensures.text
    c.in_ok-bytes.ensures.fits c.requires.aligned c.requires.room)
