-- `words LISTING OUT`: the file LISTING is read as a listing, and its words are written as OUT.
use Rattle.std.specs.Prelude.{◌≡◌, ℕ, ◌*◌, ◌^◌, List}
use Rattle.v8_text.specs.Listings.{IsBadLine, IsListing}
use Rattle.elf32_write.specs.Kept.{words_bytes}
use Rattle.eel_said.specs.declared.outcome.LineCause.TheVariants as causes
use Rattle.eel_said.specs.Outcome.{Outcome, BadLine, OutOfMemory}
use Rattle.eel_said.specs.Shared.{Meaning}
use Rattle.eel_reports.specs.Answers.Steps.{make_means}

-- how long a listing may be
abbrev pub listing_limit : ℕ
listing_limit = 64 * 2 ^ 20

-- these are the words of the listing, as bytes
abbrev pub IsAssembled : List ℕ → List ℕ → Type 0
IsAssembled listing bytes = (words : List ℕ) × IsListing listing words × (bytes ≡ words_bytes words)

-- LISTING was read, and is none
abbrev pub IsNotListing : List ℕ → List ℕ → Outcome → Type 0
IsNotListing name bytes (BadLine named number causes.Grammar) = (named ≡ name) × IsBadLine bytes number
IsNotListing name bytes OutOfMemory = Unit {0}
IsNotListing name bytes _ = ⊥

-- its words are written
abbrev pub words_means : List ℕ → List ℕ → Meaning
words_means listing output = make_means listing_limit (IsNotListing listing) IsAssembled listing output
