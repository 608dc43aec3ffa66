-- Rows of edges.
use Rattle.flow_tree.proofs.Common.{◌≡◌, ℕ, ◌+◌, ◌<◌, inl, inr, List, length, arith, get_or, set, Contains, get_or_read, get_or-set_same, get_or-set_other, cases_eq, link_at, Link, Row, IsAttached, HasEnds}

-- a row is replaced by one that has all that it had
pub row_kept : (rows : List Row) (v : ℕ) (old new : Row) → v < length rows → old ≡ get_or rows v old → ((x : ℕ) → Contains old.items x → Contains new.items x) →
    (u x : ℕ) → u < length rows → IsAttached rows u x → IsAttached (set rows v new) u x
row_kept rows v old new l e k u x m h d = elim (cases_eq u v) [
  | inl c ↦ rw (c, get_or-set_same rows v new d l) (k x (rw (c, ← get_or_read rows v old l e d) at (h d)))
  | inr c ↦ rw (get_or-set_other rows v u new d c) (h d)
]

pub same_items : (xs ys : List ℕ) (x : ℕ) → ys ≡ xs → Contains xs x → Contains ys x
same_items xs ys x e h = rw e h

pub ends_step : (links : List Link) (i n : ℕ) (old new : List Row) → length old ≡ n →
    ((e : ℕ) → e < i → ((link_at links e).from < n) × ((link_at links e).to < n)) →
    ((u x : ℕ) → u < n → IsAttached old u x → IsAttached new u x) →
    IsAttached new (link_at links i).from i → IsAttached new (link_at links i).to i → HasEnds links i old → HasEnds links (i + 1) new
ends_step links i n old new s b k f t h e l = elim (cases_eq e i) [
  | inl c ↦ rw c (f, t)
  | inr c ↦ let m : e < i = omega arith in (k _ e (b e m).0 (h e m).0, k _ e (b e m).1 (h e m).1)
]
