use Rattle.v8_step.proofs.Common.{arith, ◌≡◌, ℕ, ◌+◌, ◌-◌, ◌*◌, ◌<◌, ◌≤◌, List, length, take, drop, get_or, ◌∙◌, w32, to_be_bytes, flat_map}
use Rattle.std.proofs.lemmas.Grind.{common_steps}
use borrow.Rule.Slice.PartMut.{put_mid}
use Rattle.v8_step.proofs.window_moves.frame_bytes.Goals as goal

-- the bytes of one word more
one_more : (i : ℕ) (words bytes quad : List ℕ) → i < length words → 4 * i + 4 ≤ length bytes
    → quad ≡ to_be_bytes w32 (get_or words i 0) → take (4 * i) bytes ≡ flat_map (to_be_bytes w32) (take i words)
    → take (4 * (i + 1)) (put_mid (4 * i) (4 * i + 4 - 4 * i) bytes quad)
    ≡ flat_map (to_be_bytes w32) (take (i + 1) words)
one_more i words bytes quad within room is so_far = grind (arith, common_steps)

as_many : (i : ℕ) (bytes quad : List ℕ) → 4 * i + 4 ≤ length bytes
    → length quad ≡ length (take (4 * i + 4 - 4 * i) (drop (4 * i) bytes))
    → length (put_mid (4 * i) (4 * i + 4 - 4 * i) bytes quad) ≡ length bytes
as_many i bytes quad room as_long = grind (arith, common_steps)

pub loop-i-preserved : goal.loop-i-preserved
loop-i-preserved c =
    let room : 4 * c.loop-i.i + 4 ≤ length c.loop-i.bytes = omega arith in
    record {
      count = as_many c.loop-i.i c.loop-i.bytes _ room c.copy_from_slice.ensures.len ∙ c.loop-i.invariant.count;
      written =
          one_more c.loop-i.i c.args.words.now c.loop-i.bytes _ (omega arith) room
          (c.copy_from_slice.ensures.after ∙ c.to_be_bytes.ensures) c.loop-i.invariant.written;
    }
