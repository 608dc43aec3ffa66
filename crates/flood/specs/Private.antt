-- What only contracts of private functions and models cite.
use Rattle.std.specs.Prelude.{ℕ, zero, suc, ◌==◌, if◌then◌else◌, List, ◌≡◌, ◌<◌, length, slice_index, ◌-◌, ◌+◌, ◌*◌, true, false, ◌⊎◌, ◌≢◌, ◌≤◌, ◌||◌, [], ◌∷◌, ◌++◌}
use Rattle.std.specs.List.{All, sum_by, Contains}
use Rattle.v8_decode.specs.declared.Part.{Part}
use Rattle.v8_decode.specs.Parts.{has}
use Rattle.flood.specs.declared.Link.{Link}
use Rattle.flood.specs.Flood.{link_at, Sets, at, IsLiveIn}

-- ---- the links that lead to each place, the last first

-- one more than the number of the last of the first k links that leads there; 0 where none does
abbrev pub last_into : List Link → ℕ → ℕ → ℕ
last_into links p zero = 0
last_into links p (suc k) = if (link_at links k).to == p then suc k else last_into links p k

pub record IsChain (places : ℕ) (links : List Link) (heads nexts : List ℕ) : Type 0 where
  pub heads_len : length heads ≡ places
  pub nexts_len : length nexts ≡ length links
  pub heads_are : (p : ℕ) → p < places → slice_index heads p ≡ last_into links p (length links)
  pub nexts_are : (k : ℕ) → k < length links → slice_index nexts k ≡ last_into links (link_at links k).to k

-- ---- the search

-- all places below a number
pub record AreAll (count : ℕ) (places : List ℕ) : Type 0 where
  pub len : length places ≡ count
  pub are : (j : ℕ) → j < count → slice_index places j ≡ j
  pub below : All (λ p. p < count) places

-- how many parts the sets could still gain
abbrev pub missing : Sets → ℕ
missing sets = sum_by (λ s. 33 - length s) sets

abbrev pub fuel : Sets → List ℕ → ℕ
fuel sets stack = 2 * missing sets + length stack

-- what is live at the end of a link, unless that kills it, is so at its beginning
abbrev pub IsTold : List Link → Sets → ℕ → Type 0
IsTold links sets k = (x : Part) → has (at sets (link_at links k).to) x ≡ true
    → has (link_at links k).kills x ≡ false → has (at sets (link_at links k).from) x ≡ true

-- The sets hold parts that are live there, what is read there among them. Each link is told, or waits: its end is on
-- the stack, or is the place at hand and the link's number is still below.
pub record IsFlooding (reads : Sets) (links : List Link) (place low : ℕ) (sets : Sets) (stack : List ℕ)
    : Type 0 where
  pub len : length sets ≡ length reads
  pub below : All (λ p. p < length reads) stack
  pub begun : (p : ℕ) (x : Part) → has (at reads p) x ≡ true → has (at sets p) x ≡ true
  pub live : (p : ℕ) (x : Part) → has (at sets p) x ≡ true → IsLiveIn reads links p x
  pub told : (k : ℕ) → k < length links → Contains stack (link_at links k).to
      ⊎ (IsTold links sets k ⊎ (((link_at links k).to ≡ place) × (k < low)))

-- A place's set has gained what it lacked of another, and stands on the stack if that was something.
pub record IsGrown (place : ℕ) (more : List Part) (sets : Sets) (stack : List ℕ) (sets' : Sets) (stack' : List ℕ)
    : Type 0 where
  pub len : length sets' ≡ length sets
  pub others : (p : ℕ) → p ≢ place → at sets' p ≡ at sets p
  pub here : (x : Part) → has (at sets' place) x ≡ (has (at sets place) x || has more x)
  pub stacked : ((at sets' place ≡ at sets place) × (stack' ≡ stack)) ⊎ (stack' ≡ stack ++ place ∷ [])
  pub falls : fuel sets' stack' ≤ fuel sets stack
