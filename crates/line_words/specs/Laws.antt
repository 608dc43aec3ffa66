-- Words that are written are read, and nothing else is.
use Rattle.std.specs.Prelude.{◌≡◌, ℕ, ◌<◌, ◌^◌, ◌==◌, not, true, List, ◌∷◌, ◌++◌, Some, decimal}
use Rattle.std.specs.List.{list_all}
use Rattle.eel_base.specs.Fields.{hex_of}
use Rattle.line_words.specs.Words.{count_of, number_of, register_of, split_at, sum_of}
use Rattle.line_words.specs.Registers.{hex_number_of, register_text}

-- a word without a certain byte
abbrev pub IsWithout : ℕ → List ℕ → Type 0
IsWithout mark word = list_all (λ byte. not (byte == mark)) word ≡ true

pub record WordsReadBack : Type 0 where
  pub splits : (mark : ℕ) (word rest : List ℕ) → IsWithout mark word
      → split_at mark (word ++ (mark ∷ rest)) ≡ Some (word, rest)
  pub numbers : (n : ℕ) → n < 2 ^ 32 → number_of (decimal n) ≡ Some n
  pub counts : (n : ℕ) → n < 2 ^ 64 → count_of (decimal n) ≡ Some n
  pub sums : (n : ℕ) → n < 2 ^ 128 → sum_of (decimal n) ≡ Some n
  pub addresses : (n : ℕ) → n < 2 ^ 32 → hex_number_of (hex_of n) ≡ Some n
  pub registers : (reg : ℕ) → reg < 32 → register_of (register_text reg) ≡ Some reg

pub record NothingElseReads : Type 0 where
  pub splits : (mark : ℕ) (bytes : List ℕ) (parts : List ℕ × List ℕ) → split_at mark bytes ≡ Some parts
      → bytes ≡ parts.0 ++ (mark ∷ parts.1)
  pub numbers : (word : List ℕ) (n : ℕ) → number_of word ≡ Some n → (word ≡ decimal n) × (n < 2 ^ 32)
  pub counts : (word : List ℕ) (n : ℕ) → count_of word ≡ Some n → (word ≡ decimal n) × (n < 2 ^ 64)
  pub sums : (word : List ℕ) (n : ℕ) → sum_of word ≡ Some n → (word ≡ decimal n) × (n < 2 ^ 128)
  pub addresses : (word : List ℕ) (n : ℕ) → hex_number_of word ≡ Some n
      → (word ≡ hex_of n) × (n < 2 ^ 32)
  pub registers : (word : List ℕ) (reg : ℕ) → register_of word ≡ Some reg → (word ≡ register_text reg) × (reg < 32)
