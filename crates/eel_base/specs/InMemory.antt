-- What the objects in memory are seen as.
use Rattle.std.specs.Prelude.{ℕ, Bool, ◌&&◌, ◌||◌, nat_lt, nat_le, List, map, length, String, Vec, string_bytes}
use Rattle.std.specs.declared.alloc.Global.{Global}
use Rattle.eel_base.specs.Outside.{Holding}
use Rattle.eel_base.specs.Code.{Calls, is_to_fail}

pub record FilesInMemory : Type 0 where
  pub held : Holding
  pub calls : Calls

pub record SourceInMemory : Type 0 where
  pub left : List ℕ
  pub reads : ℕ
  pub calls : Calls

pub record SinkInMemory : Type 0 where
  pub taken : List ℕ
  pub room : ℕ
  pub calls : Calls

-- names as texts with their bytes, as names with bytes
abbrev pub holding_of : List (String Global × Vec ℕ Global) → Holding
holding_of entries = map (λ entry. (string_bytes entry.0, entry.1.items)) entries

-- a write of these bytes fails: the call is to fail, or there are some and the sink is full
abbrev pub fails_to_take : SinkInMemory → List ℕ → Bool
fails_to_take s bytes = is_to_fail s.calls || (nat_lt 0 (length bytes) && nat_le s.room (length s.taken))
