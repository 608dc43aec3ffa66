-- Lists that grow by one item in each turn of a loop, among them the pieces of the entries of tables and their numbers.
use Rattle.image_code.proofs.Common.{◌≡◌, ℕ, suc, ◌+◌, ◌-◌, ◌<◌, ◌≤◌, ◌==◌, List, [], ◌∷◌, ◌++◌, Option, Some, length, length-take, map, take, ap, ◌∙◌, arith, slice_get, slice_get-get_or, slice_get-map, slice_index_or, position, flat_map, range_with_len, append-nil, map-append, take_more, get_or_from_slice_get, slice_get_within, below, get_or-below, length-below, Words, WordNo, Open, Graph, flat_map-append, get_or-map, enumerate_from, map-range_with_len_more, open_begin, Case, Label, case_piece, entry_label, first_entry, or_zero}
use Rattle.image_code.proofs.Listed.{case_stands, number_is}
use Rattle.image_code.proofs.OpenBlocks.{IsTextGraph}

pub below_next : {A : Type 0} (f : ℕ → A) (n : ℕ) → map f (below (n + 1)) ≡ map f (below n) ++ f n ∷ []
below_next f n = let e : n + 1 ≡ suc n = omega arith in ap (λ k. map f (below k)) e ∙ map-append f (below n) (n ∷ [])

-- of the numbers from one on
pub range_next : {A : Type 0} (f : ℕ → A) (first word : ℕ) → first ≤ word
    → map f (range_with_len first (word + 1 - first)) ≡ map f (range_with_len first (word - first)) ++ f word ∷ []
range_next f first word above =
    let next : word + 1 - first ≡ word - first + 1 = omega arith in
    rw next (map-range_with_len_more f first (word - first) word (omega arith))

-- by some for the next item of a list
pub flat_next : {A B : Type 0} (f : A → List B) (xs : List A) (n : ℕ) (x : A) → n < length xs → x ≡ slice_index_or xs n x
    → flat_map f (take (n + 1) xs) ≡ flat_map f (take n xs) ++ f x
flat_next f xs n x l is = rw (take_more xs n x l, ← is, flat_map-append f (take n xs) (x ∷ []), append-nil (f x))

-- of the items of a list with their numbers
numbered_more : {A B : Type 0} (f : ℕ → A → B) (n : ℕ) (xs : List A) (x : A)
    → map (λ (p : ℕ × A). f p.0 p.1) (enumerate_from n (xs ++ x ∷ []))
    ≡ map (λ (p : ℕ × A). f p.0 p.1) (enumerate_from n xs) ++ f (n + length xs) x ∷ []
numbered_more f n [] x = let e : n ≡ n + 0 = omega arith in ap (λ k. f k x ∷ []) e
numbered_more f n (y ∷ xs) x =
    let e : n + 1 + length xs ≡ n + suc (length xs) = omega arith in
    rw (numbered_more f (n + 1) xs x, e)

-- ---- what stands at a place

pub at_below : (f : ℕ → ℕ) (n k : ℕ) → k < n → slice_index_or (map f (below n)) k 0 ≡ f k
at_below f n k l = get_or-map f (below n) k 0 0 (omega (arith, l, length-below n)) ∙ ap f (get_or-below n k 0 l)

pub map_at : {A : Type 0} (f : A → ℕ) (xs : List A) (k : ℕ) (x : A) → slice_get xs k ≡ Some x
    → slice_index_or (map f xs) k 0 ≡ f x
map_at f xs k x e = get_or-map f xs k x 0 (slice_get_within xs k x e) ∙ ap f (get_or_from_slice_get xs k x x e)

-- ---- the entries of a switch's table

-- the labels of entries that lead to these words
abbrev pub labels_of : Open → List ℕ → List Label
labels_of o words = map (λ (p : ℕ × ℕ). entry_label o p.0 p.1) (enumerate_from 0 words)

module _ (o : Open) (items : List WordNo) (n : ℕ) (d : WordNo) (low : n < length items)
    (are : map (λ (w : WordNo). w.0) items ≡ o.targets) where
  abbrev word : ℕ
  word = (slice_index_or items n d).0

  pub target_at : slice_get o.targets n ≡ Some word
  target_at = rw (← are, slice_get-map (λ (w : WordNo). w.0) items n, slice_get-get_or items n d low)

  -- the labels, and what is made of the words
  pub entries_next : {A : Type 0} (f : ℕ → A)
      → (labels_of o (take (n + 1) o.targets) ≡ labels_of o (take n o.targets) ++ entry_label o n word ∷ [])
      × (map f (take (n + 1) o.targets) ≡ map f (take n o.targets) ++ f word ∷ [])
  entries_next f =
      let within = slice_get_within o.targets n word target_at in
      let many : 0 + length (take n o.targets) ≡ n = omega (arith, length-take n o.targets) in
      let words_next : take (n + 1) o.targets ≡ take n o.targets ++ word ∷ [] =
      rw (take_more o.targets n word within) (rw (get_or_from_slice_get o.targets n word word target_at)) in (
        rw (words_next, numbered_more (entry_label o) 0 (take n o.targets) word, many),
        rw (words_next, map-append),
      )

  -- the number of the piece
  pub entry_number : {text : Words} {graph : Graph} → IsTextGraph text graph → (k : ℕ) → slice_get graph.opens k ≡ Some o
      → (place first number : ℕ) (found : Option ℕ) → place ≡ or_zero found
      → found ≡ position (λ t. t == word) o.targets → number ≡ first + place
      → first ≡ open_begin text graph (length graph.opens) + first_entry text graph k
      → number ≡ case_piece text graph o.block word
  entry_number {text = text} {graph = graph} g k e place first number found is at made begins =
      let stands = number_is text graph g (Case o.block word) _ (case_stands text graph g k o e n word target_at) in
      omega (arith, ap or_zero at)
