-- The registers that operations read.
use Rattle.snippets.proofs.Common.{◌≡◌, ℕ, ◌+◌, ◌<◌, List, [], ◌∷◌, ◌++◌, length, take, get_or, refl, ap, sym, ◌∙◌, take_more, Reg, every_part, members, set_of, Op, Add, Put, Keep, Top, Count, Log, named_by, read_by}
use Rattle.v8_decode.specs.declared.Part.{Part}
use Rattle.v8_decode.proofs.Marks.{set_of-append}

read_by-append : (ops : List Op) (op : Op) → read_by (ops ++ op ∷ []) ≡ read_by ops ++ read_by (op ∷ [])
read_by-append [] op = refl
read_by-append (Add cell amount ∷ ops) op = read_by-append ops op
read_by-append (Put cell value ∷ ops) op = read_by-append ops op
read_by-append (Count cell ∷ ops) op = read_by-append ops op
read_by-append (Log cell bits value ∷ ops) op = read_by-append ops op
read_by-append (Keep cell reg ∷ ops) op = ap (λ (z : List Part). Reg reg ∷ z) (read_by-append ops op)
read_by-append (Top cell reg ∷ ops) op = ap (λ (z : List Part). Reg reg ∷ z) (read_by-append ops op)

-- one operation more
pub one_more : (ops : List Op) (i : ℕ) (d op : Op) (names others : List Part) → i < length ops → op ≡ get_or ops i d
    → names ≡ named_by (take i ops) → others ≡ named_by (op ∷ [])
    → set_of (names ++ others) ≡ named_by (take (i + 1) ops)
one_more ops i d op names others below is e f =
    ap (λ (z : List Part). set_of (z ++ others)) e
    ∙ ap (λ (z : List Part). set_of (named_by (take i ops) ++ z)) f
    ∙ set_of-append (read_by (take i ops)) (read_by (op ∷ []))
    ∙ ap set_of (sym (read_by-append (take i ops) op))
    ∙ ap (λ (z : Op). named_by (take i ops ++ z ∷ [])) is
    ∙ ap named_by (sym (take_more ops i d below))
