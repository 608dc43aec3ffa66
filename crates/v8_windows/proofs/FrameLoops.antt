-- Loading a frame, register by register.
use Rattle.std.proofs.Common.{◌≡◌, ℕ, zero, suc, ◌+◌, ◌<◌, List, [], ◌∷◌, length, take, get_or, set, refl, arith, add-one, get_or-set_other}
use Rattle.std.proofs.lemmas.List.FromFn.{get_or-range_with_len}
use Rattle.v8_windows.specs.Registers.{place_of, register_set}
use Rattle.v8_windows.specs.Frames.{frame_registers}
use Rattle.v8_windows.specs.Calls.{registers_of_words}
use Rattle.v8_windows.proofs.Places.{written_in_place, place_of-some}

frame_register : (i : ℕ) → i < 16 → get_or frame_registers i 0 ≡ 16 + i
frame_register i below = get_or-range_with_len 16 16 i 0 below

-- one word more
one_more : (registers : List ℕ) (window : ℕ) (rs words : List ℕ) (i : ℕ) → i < length rs → i < length words
    → registers_of_words registers window (take (suc i) rs) (take (suc i) words)
    ≡ register_set (registers_of_words registers window (take i rs) (take i words)) window
    (get_or rs i 0) (get_or words i 0)
one_more registers window [] words i in_rs in_words = absurd (omega arith)
one_more registers window (r ∷ rs) [] i in_rs in_words = absurd (omega arith)
one_more registers window (r ∷ rs) (word ∷ words) zero in_rs in_words = refl
one_more registers window (r ∷ rs) (word ∷ words) (suc i) in_rs in_words =
    one_more (register_set registers window r word) window rs words i (omega arith) (omega arith)

-- a turn of the loop
pub word_loaded : (registers loaded : List ℕ) (window : ℕ) (words : List ℕ) (i : ℕ) → i < 16 → length words ≡ 16
    → loaded ≡ registers_of_words registers window (take i frame_registers) (take i words)
    → set loaded (place_of window (16 + i)) (get_or words i 0)
    ≡ registers_of_words registers window (take (i + 1) frame_registers) (take (i + 1) words)
word_loaded registers loaded window words i below count so_far =
    rw (add-one i, one_more registers window frame_registers words i below (omega arith), frame_register i below, ← so_far)
    (written_in_place loaded window (16 + i) (get_or words i 0) (omega arith))

pub zero_kept : (loaded : List ℕ) (window value i : ℕ)
    → get_or (set loaded (place_of window (16 + i)) value) 0 0 ≡ get_or loaded 0 0
zero_kept loaded window value i =
    let below : 0 < place_of window (16 + i) = place_of-some window (16 + i) (omega arith) in
    get_or-set_other loaded (place_of window (16 + i)) 0 value 0 (omega arith)
