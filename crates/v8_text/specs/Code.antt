-- What contracts of this crate's code and laws cite beyond the statement.
use Rattle.std.specs.Prelude.{ℕ, List, ◌≡◌, ◌^◌, ◌<◌}
use Rattle.std.specs.List.{All}
use Rattle.eel_base.specs.CodeText.{Words}
use Rattle.eel_base.specs.Code.{IsText}
use Rattle.v8_text.specs.declared.listings.ListFault.{ListFault}
use Rattle.v8_text.specs.declared.listings.ListFault.TheVariants as faults
use Rattle.v8_text.specs.Listings.{IsBadLine, IsListing}
use Rattle.v8_text.specs.Texts.{listing_text}

-- why no words are told; want of memory may come at any time
abbrev pub IsUnlisted : List ℕ → ListFault → Type 0
IsUnlisted bytes (faults.Line number) = IsBadLine bytes number
IsUnlisted bytes faults.NoMemory = Unit {0}

-- ---- the listing of a text reads back to its words, and as nothing else

pub record ReadsBack (text : Words) : Type 0 where
  pub words : (words : List ℕ) → IsListing (listing_text text) words → words ≡ text.words
  pub good : (number : ℕ) → ¬ IsBadLine (listing_text text) number

abbrev pub ListingsReadBack : Type 0
ListingsReadBack = (text : Words) → IsText text → All (λ w. w < 2 ^ 32) text.words → ReadsBack text
