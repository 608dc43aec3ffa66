-- What contracts of this crate's code and laws cite beyond the statement.
use Rattle.std.specs.Prelude.{◌≡◌, ◌%◌, ◌^◌, ◌≤◌, length, ℕ, List, Bool, ◌==◌, if◌then◌else◌}
use Rattle.std.specs.List.{list_any}
use Rattle.eel_base.specs.CodeText.{Words, address_of}
use Rattle.eel_base.specs.Outside.{raised}

-- what a text may be: aligned words, at least one and at most 2^20, below the system's half
pub record IsText (t : Words) : Type 0 where
  pub aligned : t.start % 4 ≡ 0
  pub above : 0x1000 ≤ t.start
  pub some : 1 ≤ length t.words
  pub few : length t.words ≤ 2 ^ 20
  pub below : address_of t (length t.words) ≤ 0x80000000

-- The objects in memory.

-- the calls that an object has had, counted from 0, those that are to fail, and its faults
pub record Calls : Type 0 where
  pub fail : List ℕ
  pub made : ℕ
  pub faults : ℕ

-- no call yet
abbrev pub no_calls : List ℕ → Calls
no_calls fail = record { fail = fail; made = 0; faults = 0 }

-- the next call is to fail
abbrev pub is_to_fail : Calls → Bool
is_to_fail calls = list_any (λ number. number == calls.made) calls.fail

-- after one more call, which is one more fault where it failed
abbrev pub counted : Calls → Bool → Calls
counted calls failed = record calls { made = raised calls.made; faults = if failed then raised calls.faults else calls.faults }

-- after one more call, which fails where it is to fail
abbrev pub called : Calls → Calls
called calls = counted calls (is_to_fail calls)
