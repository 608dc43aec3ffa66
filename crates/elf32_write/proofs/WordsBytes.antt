-- How many bytes words and halfwords are.
use Rattle.elf32_write.proofs.Common.{◌≡◌, ℕ, ◌*◌, List, length, big_bytes, length-bytes_high_first, words_bytes, halves_bytes}
pub use Rattle.notes.proofs.Bytes.{length-flat_map}

pub length-words_bytes : (ws : List ℕ) → length (words_bytes ws) ≡ 4 * length ws
unfolding words_bytes
length-words_bytes ws = length-flat_map (big_bytes 4) 4 (length-bytes_high_first 4) ws

pub length-halves_bytes : (hs : List ℕ) → length (halves_bytes hs) ≡ 2 * length hs
unfolding halves_bytes
length-halves_bytes hs = length-flat_map (big_bytes 2) 2 (length-bytes_high_first 2) hs
