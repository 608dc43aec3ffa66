-- Where registers stand, and what a write to one leaves.
use Rattle.std.proofs.Common.{◌≡◌, ◌≢◌, ℕ, zero, suc, ◌+◌, ◌<◌, ◌≤◌, List, [], ◌∷◌, length, refl, ap, sym, ◌∙◌, arith, length-set, get_or-set_other, get_or-set_same}
use Rattle.std.specs.Prelude.{slice_index, slice_set}
use Rattle.std.proofs.lemmas.Bool.{le-ltb}
use Rattle.std.proofs.lemmas.Bool.Decides.{nat_tests}
use Rattle.v8_windows.specs.Registers.{place_of, register_in, register_set, window_after, windows}
use Rattle.v8_windows.specs.Frames.{frame_registers, registers_from, frame_bytes}
use Rattle.v8_windows.specs.Laws.{WindowsOverlap, RegistersHold, FramesFit, FramesLoad}

pub place_of-below : (window r : ℕ) → place_of window r < 136
place_of-below window r = grind (arith, nat_tests)

pub in_place : (registers : List ℕ) (window r : ℕ) → 0 < r
    → register_in registers window r ≡ slice_index registers (place_of window r)
in_place registers window zero some = absurd (omega arith)
in_place registers window (suc r) some = refl

pub written_in_place : (registers : List ℕ) (window r value : ℕ) → r ≢ 0
    → slice_set registers (place_of window r) value ≡ register_set registers window r value
written_in_place registers window zero value some = absurd (some refl)
written_in_place registers window (suc r) value some = refl

pub place_of-some : (window r : ℕ) → r ≢ 0 → 0 < place_of window r
place_of-some window r some = grind (arith, nat_tests)

pub place_of-overlap : (window r : ℕ) → window < windows → 8 ≤ r → r < 16
    → place_of window (r + 16) ≡ place_of (window_after window) r
place_of-overlap window r w low high = rw (le-ltb (r + 16) 8 (omega arith), le-ltb r 8 low) (omega arith)

pub windows_overlap : WindowsOverlap
windows_overlap registers window r w low high =
    in_place registers window (r + 16) (omega arith)
    ∙ ap (slice_index registers) (place_of-overlap window r w low high)
    ∙ sym (in_place registers (window_after window) r (omega arith))

pub register_in-set : (registers : List ℕ) (window r value : ℕ) → length registers ≡ 136 → 0 < r
    → register_in (register_set registers window r value) window r ≡ value
register_in-set registers window zero value count some = absurd (omega arith)
register_in-set registers window (suc r) value count some =
    get_or-set_same registers (place_of window (suc r)) value 0 (rw count (place_of-below window (suc r)))

pub register_in-other : (registers : List ℕ) (window r value other q : ℕ) → place_of window r ≢ place_of other q
    → register_in (register_set registers window r value) other q ≡ register_in registers other q
register_in-other registers window r value other zero apart = refl
register_in-other registers window zero value other (suc q) apart = refl
register_in-other registers window (suc r) value other (suc q) apart =
    get_or-set_other registers (place_of window (suc r)) (place_of other (suc q)) value 0 (λ e. apart (sym e))

pub length-register_set : (registers : List ℕ) (window r value : ℕ)
    → length (register_set registers window r value) ≡ length registers
length-register_set registers window zero value = refl
length-register_set registers window (suc r) value = length-set registers (place_of window (suc r)) value

pub registers_hold : RegistersHold
registers_hold = (register_in-set, register_in-other, length-register_set)

pub length-registers_from : (registers : List ℕ) (window : ℕ) (rs bytes : List ℕ)
    → length (registers_from registers window rs bytes) ≡ length registers
length-registers_from registers window [] bytes = refl
length-registers_from registers window (r ∷ rs) bytes =
    length-registers_from (register_set registers window r _) window rs _ ∙ length-register_set registers window r _

pub length-frame_bytes : (registers : List ℕ) (window : ℕ) → length (frame_bytes registers window) ≡ 64
length-frame_bytes registers window = refl

pub frames_fit : FramesFit
frames_fit =
    (length-frame_bytes, λ registers window bytes. length-registers_from registers window frame_registers bytes)

pub frames_load : FramesLoad
frames_load registers window bytes = refl
