use Rattle.edit_core.proofs.Common.{ℕ, ◌-◌, ◌*◌, length, subst, arith, IsLaid, long_is_enough, short_is_enough, placement_in}
use Rattle.edit_core.proofs.Steps.{never_lacks_room}
use Rattle.edit_core.proofs.building.place_pieces.Goals as goal

pub unreachable-requires : goal.unreachable-requires
unreachable-requires c =
    let room = c.in-Err-Room in
    never_lacks_room _ (c.args.room - (c.code-code.result.0 - c.args.addresses.base.0)) room.field-0 room.field-0-0
    room.field-0-1 c.requires.pieces room.field-0-is room.ensures.room (omega (arith, c.requires.room, c.code-code.ensures))

pub returns-in-Ok : goal.returns-in-Ok
returns-in-Ok c =
    let lays = c.in-Ok.ensures.laid in
    let list = c.args.list.now in (
      lays.0,
      record {
        laid = subst (λ (a : ℕ). IsLaid list a (placement_in c.in-Ok.placed) lays.0) c.code-code.ensures lays.1;
        size = long_is_enough list (4 * length c.in-Ok.placed.code.items) c.requires.pieces (c.in-Ok.ensures.room).0;
        short = short_is_enough list c.code-code.result.0 (placement_in c.in-Ok.placed) lays.0 c.requires.pieces lays.1 lays.2;
      },
    )
