-- The fields of a dump, and the steps of a reading.
use Rattle.dump_file.proofs.Common.{◌≡◌, ℕ, ◌+◌, ◌*◌, ◌<◌, ◌≤◌, ◌^◌, Bool, true, false, List, ◌++◌, length, drop, Ok, Some, None, if◌then◌else◌, refl, ap, arith, nat_le, le-leb, leb-true, length-append, length-drop, drop-drop, drop-append_seam, big_number, big_bytes, big_number-reads_back, length-bytes_high_first, big_from-lt, Dump, kind_of, number_of, mark, count_place, found, field_at, length_at}
use Rattle.dump_file.proofs.Words.{AreBytes, bytes_dropped}

-- The fields that a dump has before its cells.
pub record Found (bytes : List ℕ) (dump : Dump) : Type 0 where
  pub first : field_at 4 bytes 0 ≡ Ok mark
  pub version : field_at 4 bytes 4 ≡ Ok dump.version
  pub kind : field_at 4 bytes 8 ≡ Ok (kind_of dump.ending)
  pub number : field_at 4 bytes 12 ≡ Ok (number_of dump.ending)
  pub pc : field_at 4 bytes 16 ≡ Ok dump.pc
  pub steps : field_at 8 bytes 20 ≡ Ok dump.steps
  pub told : length_at dump.version bytes ≡ Ok dump.length
  pub count : field_at 4 bytes (count_place dump.version) ≡ Ok (length dump.cells)
  pub size : length bytes ≡ count_place dump.version + 4 + 4 * length dump.cells

-- a number that stands at an offset
pub field_there : (bytes before after : List ℕ) (size n at : ℕ) → bytes ≡ before ++ (big_bytes size n ++ after)
    → length before ≡ at → n < 256 ^ size → field_at size bytes at ≡ Ok n
field_there bytes before after size n at same place fits =
    let all = length-append before (big_bytes size n ++ after) in
    let more = length-append (big_bytes size n) after in
    let own = length-bytes_high_first size n in
    let there : length before + size ≤ length (before ++ (big_bytes size n ++ after)) = omega arith in
    let test = le-leb (length before + size) (length (before ++ (big_bytes size n ++ after))) there in
    rw (same, ← place, test, drop-append_seam before (big_bytes size n ++ after))
    (ap Ok (big_number-reads_back size n after fits))

-- A field that was read: the bytes reach so far, and the number is theirs.
pub record Reached (size at n : ℕ) (bytes : List ℕ) : Type 0 where
  pub there : at + size ≤ length bytes
  pub is : n ≡ big_number size (drop at bytes)

chosen : (test : Bool) (x n at : ℕ) → found (if test then Some x else None) at ≡ Ok n → (test ≡ true) × (n ≡ x)
chosen true x n at h = (refl, cc h)
chosen false x n at h = absurd (cc h)

pub reached : (size at n : ℕ) (bytes : List ℕ) → field_at size bytes at ≡ Ok n → Reached size at n bytes
reached size at n bytes h =
    let parts = chosen (nat_le (at + size) (length bytes)) (big_number size (drop at bytes)) n at h in
    record { there = leb-true (at + size) (length bytes) parts.0; is = parts.1 }

pub field_fits : (size at n : ℕ) (bytes : List ℕ) → AreBytes bytes → field_at size bytes at ≡ Ok n → n < 256 ^ size
field_fits size at n bytes are h =
    rw ((reached size at n bytes h).is) (big_from-lt 0 size (drop at bytes) (bytes_dropped at bytes are))

-- the bytes from an offset on begin with those of the number that was read there
pub after : {size : ℕ}
    → ((bytes : List ℕ) → size ≤ length bytes → AreBytes bytes
    → bytes ≡ big_bytes size (big_number size bytes) ++ drop size bytes)
    → (at next n : ℕ) (bytes : List ℕ) → AreBytes bytes → field_at size bytes at ≡ Ok n → at + size ≡ next
    → drop at bytes ≡ big_bytes size n ++ drop next bytes
after {size} written at next n bytes are h place =
    let is = reached size at n bytes h in
    let there = is.there in
    let long = length-drop at bytes in
    rw (is.is, ← place, ← drop-drop size at bytes) (written (drop at bytes) (omega arith) (bytes_dropped at bytes are))
