-- Reading is reading the numbers, group by group, and then the tables.
use Rattle.notes.proofs.Common.{◌≡◌, ℕ, List, refl, ◌>>=◌, head_of, read_notes, tables_of, cells_at, head_at, original_at, text_at}
use Rattle.notes.proofs.Steps.{bind_assoc}

pub in_parts : (version size : ℕ) (notes : List ℕ) → read_notes version size notes ≡ (head_of version size notes >>= tables_of notes)
unfolding read_notes
in_parts version size notes = refl

pub in_groups : (version size : ℕ) (notes : List ℕ) → head_of version size notes ≡ head_at version size notes
unfolding head_of head_at original_at text_at cells_at
in_groups version size notes = simp bind_assoc
