-- Which dumps are of a run of the file with these notes, and why one isn't. Of the notes `Right` says that they are for what
-- is asked of the dump. Each refusal holds that those before it had no cause.
use Rattle.std.specs.Prelude.{◌≡◌, ◌≢◌, ℕ, length, None}
use Rattle.notes.specs.Format.{Notes, node_at}
use Rattle.dump_file.specs.Dump.{Dump}

module _ (Right : Notes → Type 0) where
  -- a dump of the notes' version
  pub record IsAlike (notes : Notes) (dump : Dump) : Type 0 where
    pub right : Right notes
    pub version : dump.version ≡ notes.version

  -- which in version 2 was made for the same original
  pub record IsForThem (notes : Notes) (dump : Dump) : Type 0 where
    pub alike : IsAlike notes dump
    pub length : notes.version ≡ 2 → dump.length ≡ notes.length

  -- a dump of the notes' file: it has their cells
  pub record IsTheirs (notes : Notes) (dump : Dump) : Type 0 where
    pub for_them : IsForThem notes dump
    pub cells : length dump.cells ≡ notes.cells

  -- ---- refusals

  -- the dump is of the other version
  pub record IsOfOther (notes : Notes) (dump : Dump) (of wanted : ℕ) : Type 0 where
    pub right : Right notes
    pub has : of ≡ dump.version
    pub wants : wanted ≡ notes.version
    pub differ : of ≢ wanted

  -- it was made for another original
  pub record IsForOther (notes : Notes) (dump : Dump) (length wanted : ℕ) : Type 0 where
    pub alike : IsAlike notes dump
    pub wide : notes.version ≡ 2
    pub has : length ≡ dump.length
    pub wants : wanted ≡ notes.length
    pub differ : length ≢ wanted

  -- the dump has another number of cells
  pub record IsMisshapen (notes : Notes) (dump : Dump) (cells wanted : ℕ) : Type 0 where
    pub for_them : IsForThem notes dump
    pub has : cells ≡ length dump.cells
    pub wants : wanted ≡ notes.cells
    pub differ : cells ≢ wanted

-- the run stands in new code that is no instruction's place; so much was judged before
pub record IsBetween (IsJudged : Notes → Dump → Type 0) (notes : Notes) (dump : Dump) (pc : ℕ) : Type 0 where
  pub judged : IsJudged notes dump
  pub at : pc ≡ dump.pc
  pub between : node_at notes dump.pc ≡ None
