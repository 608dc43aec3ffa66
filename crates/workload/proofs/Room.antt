-- The generated file leaves room for its edit.
use Rattle.workload.proofs.Common.{◌≡◌, ℕ, ◌+◌, ◌*◌, ◌^◌, ◌≤◌, length, map, arith, loadable, program_headers, image_of, word_of, routines_from, code_of, file_of, generated, highest_end, room_from, rounded_up, segment_of}
use Rattle.std.specs.Prelude.{max}
use Rattle.workload.specs.Room.{GeneratedLeavesRoom}
use Rattle.workload.proofs.Made.{word_count}
use Rattle.workload.proofs.Headers.{header_facts}
use Rattle.workload.proofs.Faults.{loads}

all_room : (base : ℕ) → base ≤ 2 ^ 30 → room_from base ≡ 2 ^ 30
all_room base low = omega arith

has_base : (end : ℕ) → end ≤ 2 ^ 23 → (end ≤ rounded_up end) × (room_from (rounded_up end) ≡ 2 ^ 30)
has_base end low = (omega arith, all_room (rounded_up end) (omega arith))

pub leaves_room : GeneratedLeavesRoom
unfolding image_of generated
leaves_room number count some few =
    let ws = map word_of (code_of (routines_from count number) count) in
    let size : length ws ≡ 9 * count + 2 = word_count number count in
    let last = highest_end (map segment_of (loadable (program_headers (file_of ws)))) in
    let facts = header_facts ws (omega (arith, size)) in
    let end : last ≡ 0x10054 + 4 * length ws =
    rw (facts.entries, loads (4 * length ws) (omega (arith, size)) (omega (arith, size)))
    (let e : max 0 (0x10054 + 4 * length ws) ≡ 0x10054 + 4 * length ws = omega arith in e) in
    let has = has_base last (omega (arith, end, size)) in
    record { base = omega (arith, has.0, end, size); room = has.1 }
